-- What callers see of a core.
use Rattle.std.specs.Prelude.{ℕ, slice_index_or}
use Rattle.output_log.specs.Outputs.{Sent}
use Rattle.core_steps.specs.Cores.{CoreValue, next_at}
use Rattle.core_steps.specs.Held.{Held}
use Rattle.core_steps.specs.Lanes.{lane_at}
use Rattle.task_core.specs.declared.seen.LaneState.{LaneState}

-- the p-th input's first offset, the first that isn't covered, the next one, and the one behind its last
abbrev pub lane_state : CoreValue → ℕ → LaneState
lane_state u p = record {
  start = slice_index_or u.starts p 0;
  low = (lane_at u.lanes p).low;
  next = next_at u p;
  end = slice_index_or u.ends p 0;
}

-- what the outputs were sent
abbrev pub sent_of : Held → Sent
sent_of h = record { unsent = h.unsent; cleared = h.cleared }
