mod Folding
mod KeySets
pub mod Laws
mod Replaying
mod Reverting
