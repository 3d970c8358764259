pub mod Crashes
pub mod Refused
pub mod Standing
