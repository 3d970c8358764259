pub mod Causes
pub mod Disks
pub mod Entered
pub mod Folders
pub mod Places
