-- What the crates above may use of this crate's proofs: laws of its definitions. No other file here is theirs to import.
pub use Rattle.unit_logs.proofs.Committed.{open_has, stand_open, stands_made}
pub use Rattle.unit_logs.proofs.Finished.{commits, left_made, left_others, left_some, others_still, still}
pub use Rattle.unit_logs.proofs.Followed.{changes_follow, changes_may_follow, marked_follows, marked_stays, sends_follow, sends_may_follow}
pub use Rattle.unit_logs.proofs.Growing.{passes_limit, within_limit}
pub use Rattle.unit_logs.proofs.SetUps.{few_outputs, few_stores}
