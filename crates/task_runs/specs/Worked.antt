-- A task's run on its disk, from the moment of its start: how it ended, and what a crash at any moment leaves.
use Rattle.std.specs.Prelude.{ℕ, List, Result, Ok, Err}
use Rattle.samza_model.specs.declared.setups.Setup.{Setup}
use Rattle.samza_model.specs.Files.{Image}
use Rattle.samza_model.specs.Histories.{History}
use Rattle.samza_model.specs.Meaning.{Meaning}
use Rattle.disk_model.specs.Images.{LeavesOnly}
use Rattle.unit_opening.specs.Refused.{WhyNotOpened}
use Rattle.container_texts.specs.declared.faults.RunFault.{RunFault}
use Rattle.container_texts.specs.declared.faults.RunFault.TheVariants.{Device, NoMemory, NotOpened}
use Rattle.container_texts.specs.declared.reports.TaskReport.{TaskReport}
use Rattle.task_runs.specs.Ends.{EndsAs}
use Rattle.task_runs.specs.Leaving.{TaskLeaves}
use Rattle.task_runs.specs.Runs.{TaskRan, given_of}

-- The task was opened and made these events; its answer, its files and what a crash leaves are theirs.
pub record Worked {D : Type 0} (number : D → ℕ) (images : D → Image → Type 0) (since : D → ℕ → Image → Type 0) (old new : D)
    (job : Meaning) (s : Setup) (input : List ℕ) (before after : Image) (result : Result TaskReport RunFault) (t : History) : Type 0 where
  pub ran : TaskRan job s input before after t
  pub ended : EndsAs (given_of job s input before after t ran) t ran.ran.marks after (images new) result
  pub moments : LeavesOnly number images since old new (TaskLeaves result (given_of job s input before after t ran) t ran.ran.marks)

-- why a task wasn't opened: a device failed, memory was refused, or the first thing that is wrong with its files or its input
abbrev pub WhyNotStarted : Setup → Image → List ℕ → Result TaskReport RunFault → Type 0
WhyNotStarted s before input (Ok report) = ⊥
WhyNotStarted s before input (Err Device) = Unit {0}
WhyNotStarted s before input (Err NoMemory) = Unit {0}
WhyNotStarted s before input (Err (NotOpened e)) = WhyNotOpened (Unit {0}) (Unit {0}) s before input e
WhyNotStarted s before input (Err e) = ⊥
