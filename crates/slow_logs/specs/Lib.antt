pub use Rattle.samza_model.specs.Checkpoint
pub use Rattle.samza_model.specs.Limits
pub use Rattle.samza_model.specs.Logs
pub use Rattle.samza_model.specs.Restored
