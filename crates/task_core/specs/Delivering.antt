-- Why no message may be delivered.
use Rattle.std.specs.Prelude.{ℕ, length, Option, Some, None, is_some, slice_index_or, nat_le, ◌==◌, ◌&&◌, not, if◌then◌else◌}
use Rattle.core_steps.specs.Cores.{CoreValue, next_at}
use Rattle.core_steps.specs.Lanes.{lane_at}
use Rattle.core_steps.specs.Times.{is_due}
use Rattle.task_core.specs.declared.faults.DeliverFault.{DeliverFault}
use Rattle.task_core.specs.declared.faults.DeliverFault.TheVariants.{Failed, Windowing, Ended, Full, Spanned, Draining}

-- The first cause that holds: something failed, a window is open, the input is at its end, as many callbacks are in flight as may be,
-- the input's next message is as far from the first that isn't complete as may be, or a commit is due that awaits all callbacks.
abbrev pub refusal : CoreValue → ℕ → Option DeliverFault
refusal u p =
    if is_some u.failed then Some Failed
    else if is_some u.window then Some Windowing
    else if nat_le (slice_index_or u.ends p 0) (next_at u p) then Some Ended
    else if nat_le u.setup.concurrency (length u.callbacks.flights) then Some (Full (length u.callbacks.flights))
    else if length (lane_at u.lanes p).done == (lane_at u.lanes p).span then Some Spanned
    else if not u.setup.async_commit && is_due u.since u.times then Some Draining
    else None
