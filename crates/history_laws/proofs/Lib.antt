mod Answering
mod Covering
mod Delivering
mod Expiring
mod Failing
mod Flying
mod Folding
mod Placing
pub mod Shared
mod Turning
