mod Asked
mod Failing
mod Idle
mod Marking
