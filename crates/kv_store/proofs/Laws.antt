-- What the crates above may use of this crate's proofs: laws of its definitions. No other file here is theirs to import.
pub use Rattle.kv_store.proofs.KeySets.{all_keys, has, is_in-set_of, keys-set_of, same_keys}
pub use Rattle.kv_store.proofs.Tracking.{AgreesOnClean-more, AreWithinLimits-nothing, AreWithinLimits-updated, get-within, replayed-unlogged}
pub use Rattle.kv_store.proofs.Updates.{bytes_tell_apart, equal_from_same_key, get-updated, replayed-append, same_key}
