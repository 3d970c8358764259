pub mod Folds
pub mod Reading
pub use Rattle.samza_model.specs.Content.{Content, foldrec, replayed}
pub use Rattle.kv_store.specs.Tracked.{AreWithinLimits}
