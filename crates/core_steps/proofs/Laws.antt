-- What the crates above may use of this crate's proofs: laws of its definitions. No other file here is theirs to import.
pub use Rattle.core_steps.proofs.Begun.{begins_core, begins_sized, begins_standing}
pub use Rattle.core_steps.proofs.Closing.{IsReady, act_adds, act_closes, act_is, begun_core, begun_is, cleared_is, commit_is, commits, complete_adds, complete_is, completed_core, deliver_adds, failed_core, failure_adds, failure_is, marked_parts, ready, some_of}
pub use Rattle.core_steps.proofs.Lanes.{low_is}
pub use Rattle.core_steps.proofs.Setups.{few_outputs, few_stores}
pub use Rattle.core_steps.proofs.Steps.{content_at, got, got_next, older_more}
pub use Rattle.core_steps.proofs.Windowing.{window_act_adds, window_act_is, window_end_adds, window_end_is, window_failure_adds, window_failure_is}
