-- What a commit is going to append and to keep, and when there is none.
use Rattle.std.specs.Prelude.{ℕ, ◌≡◌, ◌<◌, ◌+◌, ◌++◌, ◌&&◌, List, [], ◌∷◌, length, Option, Some, None, Bool, not, is_some, nat_lt, filter, reverse, if◌then◌else◌}
use Rattle.samza_model.specs.declared.checkpoints.Checkpoint.{Checkpoint}
use Rattle.samza_model.specs.declared.events.Event.{Event}
use Rattle.samza_model.specs.declared.messages.Record.{Record}
use Rattle.samza_model.specs.Checkpoint.{Spells}
use Rattle.samza_model.specs.Journals.{belongs}
use Rattle.samza_model.specs.Marks.{IsMark}
use Rattle.samza_model.specs.Restored.{IsNamed, id_of, next_at}
use Rattle.log_frame.specs.Frame.{IsFrame}
use Rattle.core_steps.specs.Cores.{CoreValue, Outside, Stands, given, uncovered_now}
use Rattle.core_steps.specs.Lanes.{lane_at}
use Rattle.core_plans.specs.Plans.{PlansStores, PlansSends}
use Rattle.task_core.specs.declared.faults.PlanFault.{PlanFault}
use Rattle.task_core.specs.declared.faults.PlanFault.TheVariants.{Failed, Windowing, Busy}
use Rattle.task_core.specs.declared.plans.Kept.{Kept}
use Rattle.task_core.specs.declared.plans.Plan.{Plan}

-- callbacks are in flight, and the setup allows no commit then
abbrev pub is_busy : CoreValue → Bool
is_busy u = not u.setup.async_commit && nat_lt 0 (length u.callbacks.flights)

-- why there can be no commit now: the first of these
abbrev pub commit_refusal : CoreValue → Option PlanFault
commit_refusal u =
    if is_some u.failed then Some Failed
    else if is_some u.window then Some Windowing
    else if is_busy u then Some (Busy (length u.callbacks.flights))
    else None

-- of a mark now: the callbacks that it doesn't cover, the newest first, and their events, the oldest first
pub record IsKept (u : CoreValue) (kept : Kept) : Type 0 where
  pub uncovered : kept.uncovered ≡ uncovered_now u
  pub events : reverse kept.events ≡ filter (belongs kept.uncovered) (u.since ++ u.kept)

-- By whatever events the core stands, the checkpoint is a mark that covers them, behind any one with the last number.
abbrev pub MarksNow : CoreValue → Checkpoint → Type 0
MarksNow u made = (o : Outside) (h : List Event) (a : ℕ) (before : Option Checkpoint) → Stands o u h a → id_of before ≡ u.last
    → IsMark (given o u) h before (Some made)

-- What a commit now appends where each changelog has so many records, and the checkpoint that it makes: it has the setup's names, the
-- number behind the last one, and of each input the low; it counts each changelog's records behind the commit.
pub record IsPlan (u : CoreValue) (lens : List ℕ) (plan : Plan) : Type 0 where
  pub stores : PlansStores u.setup lens u.held.stores plan.frames.stores plan.mark.stores
  pub sends : PlansSends u.held.unsent plan.frames.outputs
  pub frame : (r : Record) × Spells plan.mark r × IsFrame plan.frames.checkpoint (r ∷ [])
  pub named : IsNamed u.setup plan.mark
  pub id : plan.mark.id ≡ u.last + 1
  pub next : (p : ℕ) → p < length u.starts → next_at (Some plan.mark) p ≡ Some (lane_at u.lanes p).low
  pub kept : IsKept u plan.kept
