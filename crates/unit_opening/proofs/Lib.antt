mod Begun
mod Exact
mod OneCause
pub mod Shared
