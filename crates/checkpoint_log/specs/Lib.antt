pub mod Ends
pub mod Reading
pub use Rattle.samza_model.specs.Checkpoint.{checkpoint_record, IsWellFormed, IsInRange, Spells, StandsFor}
