-- What the crates above may use of this crate's proofs: laws of its definitions. No other file here is theirs to import.
pub use Rattle.restore_trim.proofs.Cutting.{cut_unique}
pub use Rattle.restore_trim.proofs.Exact.{ends_one, marked_one, none_ends, restores_one}
pub use Rattle.restore_trim.proofs.Growing.{cut_passes, has_passes, lacks_passes, open_has}
pub use Rattle.restore_trim.proofs.Others.{lies_outside}
pub use Rattle.restore_trim.proofs.Outcomes.{log_of, outputs_of}
pub use Rattle.restore_trim.proofs.Tails.{has_frames, same_has}
