mod Folding
mod Opened
mod Placing
mod Reporting
pub mod Shared
mod Telling
mod Told
mod Units
mod Working
