-- What the crates above may use of this crate's proofs: laws of its definitions. No other file here is theirs to import.
pub use Rattle.topic_log.proofs.Damaging.{damage_unique, damaged_once}
pub use Rattle.topic_log.proofs.Logged.{are_counted, open_log_has, open_reads}
pub use Rattle.topic_log.proofs.Moving.{no_read, rests_from, rests_then}
pub use Rattle.topic_log.proofs.Spelling.{all_append, all_back, all_front, frames_unique, joined-append, joined-push, log_unique, spelled-append}
