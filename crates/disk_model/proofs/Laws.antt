-- What the crates above may use of this crate's proofs: laws of its definitions. No other file here is theirs to import.
pub use Rattle.disk_model.proofs.Moments.{followed, followed_from, goes_on, started, weaker}
pub use Rattle.disk_model.proofs.SameDisks.{same_at_trans, same_disk_refl}
