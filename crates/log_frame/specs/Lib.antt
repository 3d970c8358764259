pub mod Cuts
pub mod Frame
pub mod Reading
pub use Rattle.samza_model.specs.Frames.{frame_bytes}
pub use Rattle.samza_model.specs.Limits.{IsFrameable, IsWithinLimits}
