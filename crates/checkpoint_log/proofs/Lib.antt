mod Again
mod Ends
mod LastFrame
pub mod Laws
mod Loop
mod Sizes
mod Spelled
