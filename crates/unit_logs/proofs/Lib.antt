mod Appended
mod Committed
mod Extents
mod Finished
mod Followed
mod Growing
mod Holding
mod Kept
pub mod Laws
mod MarkSizes
mod Moments
mod Others
mod SetUps
mod Survived
