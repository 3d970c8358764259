-- What the crates above may use of this crate's proofs: laws of its definitions. No other file here is theirs to import.
pub use Rattle.history_laws.proofs.Answering.{few_answers}
pub use Rattle.history_laws.proofs.Covering.{low_least, low_unique, low_idle}
pub use Rattle.history_laws.proofs.Delivering.{delivered_before_end, delivered_in_order, deliveries_of_one}
pub use Rattle.history_laws.proofs.Expiring.{at_course, never_expires}
pub use Rattle.history_laws.proofs.Failing.{failure_or_end, never_fails, one_failure}
pub use Rattle.history_laws.proofs.Folding.{failure_is_the_folds, folded}
pub use Rattle.history_laws.proofs.Placing.{failure_placed}
