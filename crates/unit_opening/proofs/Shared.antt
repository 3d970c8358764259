-- What the crates above may use of this crate's proofs: laws of its definitions. No other file here is theirs to import.
pub use Rattle.unit_opening.proofs.Exact.{not_kept_shut}
pub use Rattle.unit_opening.proofs.OneCause.{one_cause}
