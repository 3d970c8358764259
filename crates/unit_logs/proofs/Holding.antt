-- What a task holds, read item by item, and what its changelogs count behind a plan.
use Rattle.std.proofs.Common.{ℕ, ◌≡◌, ◌<◌, ◌++◌, List, [], length, get_or, ap, sym, arith, length-append}
use Rattle.std.proofs.lemmas.List.{get_or-map}
use Rattle.samza_model.specs.declared.messages.Record.{Record}
use Rattle.samza_model.specs.Content.{nothing_stored}
use Rattle.samza_model.specs.Logs.{joined}
use Rattle.kv_store.specs.Tracked.{Tracked, no_keys, unlogged_records}
use Rattle.log_frame.specs.Frame.{FrameView}
use Rattle.topic_log.specs.declared.logs.Log.{Log}
use Rattle.topic_log.specs.Opened.{HasExtent, count_of}
use Rattle.topic_log.proofs.Laws.{joined-append}
use Rattle.core_steps.specs.Held.{tracked_at}
use Rattle.core_plans.specs.Plans.{PlansStore}
use Rattle.unit_logs.specs.Planned.{lens_of}
use Rattle.unit_logs.specs.Unlogged.{unlogged_of, unlogged_at}

pub unlogged_is : (stores : List Tracked) (i : ℕ) → i < length stores → unlogged_records (tracked_at stores i) ≡ unlogged_at (unlogged_of stores) i
unlogged_is stores i lt = sym (get_or-map unlogged_records stores i (record { content = nothing_stored; dirty = no_keys }) [] lt)

-- the count is the number of the changelog's records once the frames are appended
pub counts_behind : (logs : List Log) (i : ℕ) (d : Log) (batch : ℕ) (t : Tracked) (frames : List FrameView) (count : ℕ) (had : List (List Record)) → i < length logs
    → HasExtent (get_or logs i d) had → (p : PlansStore batch t (get_or (lens_of logs) i 0) frames count) → count ≡ length (joined (had ++ p.logs.lists))
counts_behind logs i d batch t frames count had lt extent p =
    omega (
      arith,
      p.count_is,
      get_or-map count_of logs i d 0 lt,
      extent.count,
      ap (λ (l : List Record). length l) p.logs.cut.whole,
      ap (λ (l : List Record). length l) (joined-append had p.logs.lists),
      length-append (joined had) (joined p.logs.lists),
    )
