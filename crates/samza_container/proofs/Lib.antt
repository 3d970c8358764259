mod Done
mod Ending
mod Exact
mod Leaving
mod Naming
mod Ready
pub mod Spelling
mod Told
