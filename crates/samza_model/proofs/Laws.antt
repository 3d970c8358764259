-- What the crates above may use of this crate's proofs: laws of its definitions. No other file here is theirs to import.
pub use Rattle.samza_model.proofs.Folds.{fold_goes_on, fold_more, fold_of_none, fold_stops}
pub use Rattle.samza_model.proofs.OneTurn.{turn_ends, turn_goes_on, turn_is_over}
pub use Rattle.samza_model.proofs.Partitions.{end_in, message_in, start_in}
pub use Rattle.samza_model.proofs.Topics.{topic_then}
