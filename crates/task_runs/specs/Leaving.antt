-- What a crash at any moment of a task's run leaves.
use Rattle.std.specs.Prelude.{ℕ, ◌≡◌, ◌<◌, ◌+◌, ◌⊎◌, List, length, Some, Result}
use Rattle.samza_model.specs.declared.checkpoints.Checkpoint.{Checkpoint}
use Rattle.samza_model.specs.declared.marks.KeptMark.{KeptMark}
use Rattle.samza_model.specs.Events.{low}
use Rattle.samza_model.specs.Files.{Image}
use Rattle.samza_model.specs.Histories.{History, whole}
use Rattle.samza_model.specs.Lawful.{Given, start_at}
use Rattle.samza_model.specs.Marks.{FromMark, RestoresTo, last_mark}
use Rattle.samza_model.specs.Restored.{id_of, next_at}
use Rattle.restore_trim.specs.Crashes.{OpeningLeaves}
use Rattle.restore_trim.specs.Standing.{OthersStay}
use Rattle.container_texts.specs.declared.faults.RunFault.{RunFault}
use Rattle.container_texts.specs.declared.reports.TaskReport.{TaskReport}
use Rattle.task_runs.specs.Ends.{MayBegin}

-- the image restores to a mark behind all events, which a commit began: the last one, or one more
pub record FromLast (k : Given) (t : History) (marks : List KeptMark) (c : Image) : Type 0 where
  pub made : Checkpoint
  pub id : (made.id ≡ id_of (last_mark marks)) ⊎ (made.id ≡ id_of (last_mark marks) + 1)
  pub next : (p : ℕ) → p < length k.starts → next_at (Some made) p ≡ Some (low k.setup (start_at k p) (whole t) p)
  pub to : RestoresTo k t.before c (Some made) (whole t)

-- It restores as at the run's start, and has what it had; or it restores to one of the run's marks, or to one that was begun, with just
-- the content behind the events up to it. The files that are none of the task's are as at the start.
abbrev pub TaskLeaves : Result TaskReport RunFault → Given → History → List KeptMark → Image → Image → Type 0
TaskLeaves result k t marks old new =
    OpeningLeaves k.setup old new
    ⊎ (OthersStay (length k.setup.stores) (length k.setup.outputs) old new × (FromMark k t marks (length t.parts) new ⊎ (MayBegin result × FromLast k t marks new)))
