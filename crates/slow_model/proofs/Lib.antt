mod Acts
mod Delivered
mod Expired
mod Flown
mod Kept
mod Stepped
