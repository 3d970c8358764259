mod Batching
mod Bytes
mod Damaging
mod Extending
mod Headers
pub mod Laws
mod Listing
mod Logged
mod Moving
mod Produced
mod Putting
mod Settling
mod Spelling
mod Walking
mod Writing
