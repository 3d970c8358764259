mod Cutting
mod Exact
mod Growing
mod Logs
mod Openings
mod Others
mod Outcomes
mod Places
pub mod Shared
mod SoFar
mod Tails
mod Taking
mod Telling
mod Whole
