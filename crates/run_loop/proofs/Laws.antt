-- What the crates above may use of this crate's proofs: laws of its definitions. No other file here is theirs to import.
pub use Rattle.run_loop.proofs.Running.{of_message_of_none}
