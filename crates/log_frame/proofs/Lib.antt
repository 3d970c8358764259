mod Cuts
pub mod Ends
pub mod Fields
pub mod Laws
mod Front
mod Loop
mod Spelled
mod Stored
mod Sums
mod Whole
