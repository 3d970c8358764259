-- HostSteps, `filled` of Cells, Picks from `torn_write` on, and Traces from `used_by` on stand in contracts of private
-- functions alone: they say how the forms in memory do their work, and claim nothing to a caller.
-- Formed, MemoryLaws and HostLaws prove the laws of the traits for those forms; they stand here since the forms name them.
pub mod Arms
pub mod Capacities
pub mod Cells
pub mod FileStates
pub mod Folders
pub mod Formed
pub mod HandedOut
pub mod Handles
pub mod HeldBytes
pub mod HostLaws
pub mod HostSteps
pub mod Images
pub mod MemoryDisk
pub mod MemoryHost
pub mod MemoryLaws
pub mod MemoryShelf
pub mod Picks
pub mod Slots
pub mod Tallies
pub mod TraceWords
pub mod Traces
