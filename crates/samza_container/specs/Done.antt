-- What a command made of a host's folder.
use Rattle.std.specs.Prelude.{ℕ, ◌⊎◌, List, Result, Ok, Err}
use Rattle.samza_model.specs.declared.setups.Setup.{Setup}
use Rattle.samza_model.specs.Files.{Image}
use Rattle.samza_model.specs.Histories.{History}
use Rattle.samza_model.specs.Meaning.{Meaning}
use Rattle.disk_model.specs.declared.names.DiskName.{DiskName}
use Rattle.disk_model.specs.Folders.{Folder}
use Rattle.disk_model.specs.Handles.{SameAt}
use Rattle.restore_trim.specs.Crashes.{OpeningLeaves}
use Rattle.container_texts.specs.declared.faults.RunFault.{RunFault}
use Rattle.container_texts.specs.declared.faults.RunFault.TheVariants.{Words}
use Rattle.container_texts.specs.declared.reports.TaskReport.{TaskReport}
use Rattle.container_texts.specs.Words.{IsRefusedAt}
use Rattle.task_runs.specs.Worked.{Worked, WhyNotStarted}
use Rattle.samza_container.specs.Causes.{IsReady, WhyNotReady}
use Rattle.samza_container.specs.Configured.{input_disk, task_disk}
use Rattle.samza_container.specs.Leaves.{LeavesAt}

-- The task of a host's disk wasn't opened, and the disk restores as before; or it was run, and its answer, its files and what a crash
-- leaves of them are those of one list of events.
abbrev pub TaskDone : {H : Type 0} → (H → Folder) → (H → DiskName → Image → Type 0) → (H → DiskName → ℕ → Image → Type 0) → (H → DiskName → ℕ)
    → H → H → DiskName → Meaning → Setup → List ℕ → Result TaskReport RunFault → Type 0
TaskDone folder images since number old new n job s input result =
    (WhyNotStarted s ((folder old).disks n) input result × LeavesAt folder images since number old new n (OpeningLeaves s))
    ⊎ ((t : History) × Worked (λ h. number h n) (λ h. images h n) (λ h. since h n) old new job s input ((folder old).disks n) ((folder new).disks n) result t)

-- a command came to no task
abbrev pub WhyNoTask : List (List ℕ) → Folder → Result TaskReport RunFault → Type 0
WhyNoTask words f (Ok report) = ⊥
WhyNoTask words f (Err (Words place)) = IsRefusedAt words place
WhyNoTask words f (Err e) = WhyNotReady f e

-- What a command that answers this made of a folder's task: it didn't come to it, and left its disk as it was; or this became of it.
abbrev pub FolderDone : {H : Type 0} → (H → Folder) → (H → DiskName → Image → Type 0) → (H → DiskName → ℕ → Image → Type 0) → (H → DiskName → ℕ)
    → List (List ℕ) → H → H → Result TaskReport RunFault → Type 0
FolderDone folder images since number words old new result =
    (WhyNoTask words (folder old) result × SameAt folder images since number old new task_disk)
    ⊎ ((job : Meaning) × (s : Setup) × IsReady (folder old) job s × TaskDone folder images since number old new task_disk job s ((folder old).disks (input_disk s) 0) result)
