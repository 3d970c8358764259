pub mod Laws
mod Taking
mod Telling
mod Wording
