pub mod Following
pub mod Growing
pub mod Leaving
pub mod Moments
pub mod Units
