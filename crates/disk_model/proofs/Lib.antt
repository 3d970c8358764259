mod ByName
mod Capacities
mod Counts
mod CrashSteps
mod HostSteps
pub mod Laws
mod Lending
mod Moments
mod Places
mod Replays
mod SameDisks
mod SlotSteps
mod Steps
mod Torn
