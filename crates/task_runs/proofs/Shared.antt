-- What the crates above may use of this crate's proofs: laws of its definitions. No other file here is theirs to import.
pub use Rattle.task_runs.proofs.Placing.{windowless_all}
pub use Rattle.task_runs.proofs.Told.{nothing_left}
