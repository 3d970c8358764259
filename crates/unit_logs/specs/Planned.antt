-- What a commit is going to append, of one input.
use Rattle.std.specs.Prelude.{ℕ, ◌≡◌, ◌+◌, List, [], ◌∷◌, map, Some}
use Rattle.samza_model.specs.declared.messages.Record.{Record}
use Rattle.samza_model.specs.declared.checkpoints.Checkpoint.{Checkpoint}
use Rattle.samza_model.specs.declared.setups.Setup.{Setup}
use Rattle.samza_model.specs.Checkpoint.{Spells}
use Rattle.samza_model.specs.Restored.{IsNamed, next_at}
use Rattle.log_frame.specs.Frame.{IsFrame}
use Rattle.topic_log.specs.declared.logs.Log.{Log}
use Rattle.topic_log.specs.Opened.{count_of}
use Rattle.core_steps.specs.Held.{Held}
use Rattle.core_plans.specs.declared.planning.Frames.{Frames}
use Rattle.core_plans.specs.Plans.{PlansStores, PlansSends}
use Rattle.unit_logs.specs.declared.writing.Logs.{Logs}

-- how many records each log has
abbrev pub lens_of : List Log → List ℕ
lens_of logs = map count_of logs

-- what a commit appends of what is held, and the checkpoint that it makes: its number is one more than the records of the checkpoint
-- file, it counts each changelog's records behind the commit, and it covers all below the next offset
pub record PlansCommit (s : Setup) (logs : Logs) (h : Held) (next : ℕ) (frames : Frames) (made : Checkpoint) : Type 0 where
  pub stores : PlansStores s (lens_of logs.changelogs.items) h.stores frames.stores made.stores
  pub sends : PlansSends h.unsent frames.outputs
  pub frame : (last : Record) × Spells made last × IsFrame frames.checkpoint (last ∷ [])
  pub named : IsNamed s made
  pub id_is : made.id ≡ count_of logs.marks + 1
  pub next_is : next_at (Some made) 0 ≡ Some next
