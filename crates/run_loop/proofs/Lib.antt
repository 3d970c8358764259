mod Counting
mod Ending
pub mod Laws
mod Running
mod Standing
mod Turning
