-- What the crates above may use of this crate's proofs: laws of its definitions. No other file here is theirs to import.
pub use Rattle.changelog.proofs.Reverting.{foldrec-reverts_of, records_of-fold, reverts_of-none}
