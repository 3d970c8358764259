-- How commits made a task's files grow, and when the next one can't.
use Rattle.std.specs.Prelude.{ℕ, ◌≡◌, ◌<◌, List, [], ◌∷◌, ◌++◌, length, Option, Some}
use Rattle.std.specs.FinMap as fin
use Rattle.samza_model.specs.declared.messages.Record.{Record}
use Rattle.samza_model.specs.declared.checkpoints.Checkpoint.{Checkpoint}
use Rattle.samza_model.specs.declared.marks.KeptMark.{KeptMark}
use Rattle.samza_model.specs.declared.events.Event.{Event}
use Rattle.samza_model.specs.Content.{State, sent_at, store_at}
use Rattle.samza_model.specs.Events.{low, state_after}
use Rattle.samza_model.specs.Files.{Image}
use Rattle.samza_model.specs.Histories.{History, all_of, marked, whole}
use Rattle.samza_model.specs.Lawful.{Given, start_at}
use Rattle.samza_model.specs.Marks.{last_mark}
use Rattle.kv_store.specs.Tracked.{records_of}
use Rattle.core_steps.specs.Changes.{changed_in}
use Rattle.unit_logs.specs.Commits.{IsCommitted}
use Rattle.unit_logs.specs.Growth.{PassesLimit}
use Rattle.unit_logs.specs.Unlogged.{unlogged_at}
use Rattle.unit_opening.specs.Opened.{LogsStay}

-- What these events, behind those of a mark, leave to append: what each output was sent by them, and of each store one record for each
-- key that they set or took away, with its value now.
pub record LeaveToAppend (k : Given) (since before : List Event) (state : State) (unlogged : List (List Record)) : Type 0 where
  pub stores : state.stores ≡ (state_after k.state (since ++ before)).stores
  pub sent : (j : ℕ) → sent_at (state_after k.state (since ++ before)).sent j ≡ sent_at (state_after k.state before).sent j ++ sent_at state.sent j
  pub changes : (i : ℕ) → i < length k.setup.stores → unlogged_at unlogged i ≡ records_of (store_at state.stores i) (fin.keys (changed_in i since))

-- the files have the next mark, and just what these events left to append
pub record GrownBy (k : Given) (since before : List Event) (mark : Option Checkpoint) (made : Checkpoint) (old new : Image) : Type 0 where
  pub state : State
  pub unlogged : List (List Record)
  pub left : LeaveToAppend k since before state unlogged
  pub committed : IsCommitted k.setup old new mark (low k.setup (start_at k 0) (since ++ before) 0) state unlogged made

-- an opening left the files so, and then each mark's commit made them grow
abbrev pub HaveGrown : Given → Image → List (List Event) → List KeptMark → Image → Type 0
HaveGrown k before [] [] c = ⊥
HaveGrown k before [] (m ∷ ms) c = LogsStay k.setup m.checkpoint before c
HaveGrown k before (p ∷ ps) [] c = ⊥
HaveGrown k before (p ∷ ps) (m ∷ ms) c =
    (made : Checkpoint) × (m.checkpoint ≡ Some made) × (logs : Image) × HaveGrown k before ps ms logs × GrownBy k p (all_of ps) (last_mark ms) made logs c

-- one of the files would pass 2^40 bytes by a commit behind all events
pub record FillFile (k : Given) (t : History) (marks : List KeptMark) (c : Image) : Type 0 where
  pub state : State
  pub unlogged : List (List Record)
  pub left : LeaveToAppend k t.since (marked t) state unlogged
  pub passes : PassesLimit k.setup c (last_mark marks) (low k.setup (start_at k 0) (whole t) 0) unlogged state.sent
