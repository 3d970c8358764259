mod Folds
pub mod Laws
mod OneTurn
mod Partitions
mod Topics
