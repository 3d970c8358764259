-- Why a task that was opened isn't run to its end.
use Rattle.std.specs.Prelude.{ℕ, ◌≡◌, List, Some}
use Rattle.samza_model.specs.declared.setups.Setup.{Setup}
use Rattle.samza_model.specs.declared.turns.Failure.{Failure}
use Rattle.samza_model.specs.Events.{first_failure}
use Rattle.samza_model.specs.Files.{Image}
use Rattle.samza_model.specs.Histories.{History, whole}
use Rattle.samza_model.specs.Meaning.{Meaning}
use Rattle.unit_steps.specs.Growing.{FillFile, HaveGrown}
use Rattle.task_runs.specs.Runs.{TaskRan, given_of}

-- a run of the task made events of which this is the first failure
pub record FailsMessage (job : Meaning) (s : Setup) (input : List ℕ) (before : Image) (f : Failure) : Type 0 where
  pub after : Image
  pub history : History
  pub ran : TaskRan job s input before after history
  pub failed : first_failure (whole history) ≡ Some f

-- a run of the task made events, and one of its files, as they grew by the commits of these, would pass 2^40 bytes by the next commit
pub record FillsFile (job : Meaning) (s : Setup) (input : List ℕ) (before : Image) : Type 0 where
  pub after : Image
  pub history : History
  pub ran : TaskRan job s input before after history
  pub grown : HaveGrown (given_of job s input before after history ran) history.before history.parts ran.ran.marks after
  pub fills : FillFile (given_of job s input before after history ran) history ran.ran.marks after
