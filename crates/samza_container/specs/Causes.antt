-- Why a run ends otherwise than well: the first cause in the order of work.
use Rattle.std.specs.Prelude.{ℕ, ◌≡◌, ◌≢◌, ◌<◌, ◌⊎◌, List, length, Some, None, Result, Ok, Err, codes}
use Rattle.disk_model.specs.Folders.{Folder}
use Rattle.samza_model.specs.Files.{Image}
use Rattle.samza_model.specs.Meaning.{Meaning}
use Rattle.samza_model.specs.declared.setups.Setup.{Setup}
use Rattle.disk_model.specs.declared.hosts.HostFault.{HostFault}
use Rattle.disk_model.specs.declared.hosts.HostFault.TheVariants.{Device as HostDevice, NoMemory as HostNoMemory}
use Rattle.job_config.specs.declared.config.JobConfig.{JobConfig}
use Rattle.shipped_jobs.specs.Classes.{meaning_of}
use Rattle.unit_opening.specs.Refused.{WhyNotOpened}
use Rattle.container_texts.specs.declared.faults.RunFault.{RunFault}
use Rattle.container_texts.specs.declared.faults.RunFault.TheVariants.{Words, NoText, TextLimit, BadEscape, BadKey, NotBuilt, NoPartition, Device, NotOpened, Failed, Limit, NoMemory}
use Rattle.samza_container.specs.Configured.{configured, set_up_by, task_disk, input_disk}
use Rattle.samza_container.specs.Runnable.{CanRun}
use Rattle.samza_container.specs.Runs.{FailsMessage, FillsFile}
use Rattle.container_texts.specs.Statuses.{status_of}
use Rattle.container_texts.specs.Words.{IsRefusedAt}

-- a host's fault as the run's
abbrev pub host_fault : HostFault → RunFault
host_fault HostDevice = Device
host_fault HostNoMemory = NoMemory

-- a fault of the folder, before there is a task
abbrev pub IsOfFolder : RunFault → Type 0
IsOfFolder (Words place) = ⊥
IsOfFolder (NotOpened e) = ⊥
IsOfFolder (Failed f) = ⊥
IsOfFolder Limit = ⊥
IsOfFolder e = Unit {0}

-- a folder's task is set up so
abbrev pub IsSetUpBy : Folder → Setup → Type 0
IsSetUpBy f s = set_up_by f ≡ Ok s

-- the job that a folder's configuration asks for means this
abbrev pub IsJobOf : Folder → Meaning → Type 0
IsJobOf f job = (c : JobConfig) × (configured f.text ≡ Ok c) × (meaning_of c.class ≡ Some job)

-- a folder's task is set up so, for a job that means this
pub record IsReady (f : Folder) (job : Meaning) (s : Setup) : Type 0 where
  pub set_up : IsSetUpBy f s
  pub job_is : IsJobOf f job

-- an input hasn't just one partition
abbrev pub WhyNotOne : ℕ → RunFault → Type 0
WhyNotOne partitions NoPartition = partitions ≡ 0
WhyNotOne partitions (NotBuilt key) = (key ≡ codes "task.inputs") × (1 < partitions)
WhyNotOne partitions Device = Unit {0}
WhyNotOne partitions NoMemory = Unit {0}
WhyNotOne partitions e = ⊥

-- a folder isn't ready to run: a device failed, memory was refused, or it is the first thing that is wrong
abbrev pub WhyNotReady : Folder → RunFault → Type 0
WhyNotReady f Device = Unit {0}
WhyNotReady f NoMemory = Unit {0}
WhyNotReady f e = set_up_by f ≡ Err e

-- a task isn't run to its end: it isn't opened, one of its messages fails, or a file would grow too large
abbrev pub WhyUnfinished : Meaning → Setup → List ℕ → Image → RunFault → Type 0
WhyUnfinished job s input before (Words place) = ⊥
WhyUnfinished job s input before NoText = ⊥
WhyUnfinished job s input before TextLimit = ⊥
WhyUnfinished job s input before (BadEscape line) = ⊥
WhyUnfinished job s input before (BadKey key what) = ⊥
WhyUnfinished job s input before (NotBuilt key) = ⊥
WhyUnfinished job s input before NoPartition = ⊥
WhyUnfinished job s input before Device = Unit {0}
WhyUnfinished job s input before (NotOpened e) = WhyNotOpened (Unit {0}) (Unit {0}) s before input e
WhyUnfinished job s input before (Failed f) = FailsMessage job s input before f
WhyUnfinished job s input before Limit = FillsFile job s input before
WhyUnfinished job s input before NoMemory = Unit {0}

-- a folder can be run to its task's input's end
abbrev pub Runnable : Folder → Type 0
Runnable f = (job : Meaning) × (s : Setup) × IsReady f job s × CanRun job s (f.disks (input_disk s) 0) (f.disks task_disk)

-- its task has one input, of which one message is in flight at a time, with no time limit
abbrev pub DoesOneByOne : Folder → Type 0
DoesOneByOne f = (s : Setup) → IsSetUpBy f s → (length s.inputs ≡ 1) × (s.concurrency ≡ 1) × (s.timeout_ms ≡ None)

-- why a folder isn't run to its end
abbrev pub WhyStopped : List (List ℕ) → Folder → RunFault → Type 0
WhyStopped words f (Words place) = IsRefusedAt words place
WhyStopped words f e = WhyNotReady f e ⊎ ((job : Meaning) × (s : Setup) × IsReady f job s × WhyUnfinished job s (f.disks (input_disk s) 0) (f.disks task_disk) e)

-- the status of a run that answered this
abbrev pub ends_with : {A : Type 0} → Result A RunFault → ℕ
ends_with (Ok x) = 0
ends_with (Err e) = status_of e

-- the statuses with which the folder of the words was entered: the words were a command, and neither a device nor memory stopped the command
abbrev pub HasEntered : ℕ → Type 0
HasEntered status = (status ≢ 2) × (status ≢ 4) × (status ≢ 7) × (status ≢ 8)

-- a fault whose line names a task
abbrev pub NamesTask : RunFault → Type 0
NamesTask (NotOpened e) = Unit {0}
NamesTask (Failed f) = Unit {0}
NamesTask e = ⊥
