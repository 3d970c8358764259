-- What the line of a fault names.
use Rattle.std.specs.Prelude.{ℕ, ◌≡◌, List, map}
use Rattle.samza_model.specs.declared.messages.Ssp.{Ssp}
use Rattle.samza_model.specs.declared.messages.TaskName.{TaskName}
use Rattle.samza_model.specs.declared.setups.Setup.{Setup}
use Rattle.disk_model.specs.Folders.{Folder}
use Rattle.unit_logs.specs.Standing.{IsSetUp}
use Rattle.container_texts.specs.declared.faults.RunFault.{RunFault}
use Rattle.container_texts.specs.declared.faults.RunFault.TheVariants.{Words, Failed, NotOpened}
use Rattle.container_texts.specs.Words.{IsRefusedAt}
use Rattle.task_runs.specs.Tells.{TellsOf}
use Rattle.samza_container.specs.Causes.{IsSetUpBy, WhyStopped}

-- the task of a setup, and its inputs by their places
pub record IsOf (s : Setup) (task : TaskName) (inputs : List Ssp) : Type 0 where
  pub task_is : task ≡ s.task
  pub inputs_are : inputs ≡ map (λ i. i.ssp) s.inputs

-- where a fault is one of opening a task or of its job, its line names the task that the folder sets up, and its inputs
abbrev pub IsNamedIn : Folder → TaskName → List Ssp → RunFault → Type 0
IsNamedIn f task inputs (NotOpened e) = (s : Setup) × IsSetUpBy f s × IsOf s task inputs
IsNamedIn f task inputs (Failed why) = (s : Setup) × IsSetUpBy f s × IsOf s task inputs
IsNamedIn f task inputs e = Unit {0}

-- what a cause tells on every outside: the place of a word that is refused; or of a task that can be set up a file or a store that it has,
-- or an offset of its input
abbrev pub Told : List (List ℕ) → TaskName → List Ssp → RunFault → Type 0
Told words task inputs (Words place) = IsRefusedAt words place
Told words task inputs (NotOpened e) = (s : Setup) × IsSetUp s × IsOf s task inputs × TellsOf s (NotOpened e)
Told words task inputs (Failed f) = (s : Setup) × IsSetUp s × IsOf s task inputs × TellsOf s (Failed f)
Told words task inputs e = Unit {0}

-- a command on a folder isn't run to its end for this cause, whose line names this task and these inputs
pub record IsCause (tells : Type 0) (words : List (List ℕ)) (f : Folder) (task : TaskName) (inputs : List Ssp) (e : RunFault) : Type 0 where
  pub told : Told words task inputs e
  pub why : tells → WhyStopped words f e
  pub named : tells → IsNamedIn f task inputs e
