-- What a folder holds at a run's start, and what its task is set up with.
use Rattle.std.specs.Prelude.{ℕ, zero, suc, List, Option, Some, None, Result, Ok, Err, codes}
use Rattle.samza_model.specs.declared.setups.Setup.{Setup}
use Rattle.disk_model.specs.declared.names.DiskName.{DiskName}
use Rattle.disk_model.specs.Folders.{Folder}
use Rattle.disk_model.specs.declared.names.DiskName.TheVariants.{Task, Stream}
use Rattle.job_config.specs.declared.config.JobConfig.{JobConfig}
use Rattle.unit_opening.specs.Inputs.{input_of}
use Rattle.container_texts.specs.declared.faults.RunFault.{RunFault}
use Rattle.container_texts.specs.declared.faults.RunFault.TheVariants.{NoText, NotBuilt, NoPartition}
use Rattle.samza_container.specs.ConfigText.{said_by}
use Rattle.samza_container.specs.NotBuilt.{first_not_built}
use Rattle.samza_container.specs.SetUp.{setup_of}

-- the disk of the task, and that of a setup's input
abbrev pub task_disk : DiskName
task_disk = Task 0

abbrev pub input_disk : Setup → DiskName
input_disk s = Stream (input_of s).ssp.system (input_of s).ssp.stream

-- a configuration, unless a key of it asks for what isn't built
abbrev pub unless_asked : JobConfig → Option (List ℕ) → Result JobConfig RunFault
unless_asked c None = Ok c
unless_asked c (Some key) = Err (NotBuilt key)

abbrev pub if_built : Result JobConfig RunFault → Result JobConfig RunFault
if_built (Ok c) = unless_asked c (first_not_built c)
if_built (Err e) = Err e

-- the configuration that a folder's text says, of which all is built
abbrev pub configured : Option (List ℕ) → Result JobConfig RunFault
configured None = Err NoText
configured (Some text) = if_built (said_by text)

-- a setup whose input has so many partitions; just one is built
abbrev pub if_one : Setup → ℕ → Result Setup RunFault
if_one s zero = Err NoPartition
if_one s (suc zero) = Ok s
if_one s (suc (suc n)) = Err (NotBuilt (codes "task.inputs"))

abbrev pub if_partitioned : (DiskName → ℕ) → Result JobConfig RunFault → Result Setup RunFault
if_partitioned files (Ok c) = if_one (setup_of c) (files (input_disk (setup_of c)))
if_partitioned files (Err e) = Err e

-- What a folder's task is set up with, or the first thing that is wrong or isn't built: there is no text, the text, its
-- configuration, what that asks for, the partitions of its input.
unfoldable pub set_up_by : Folder → Result Setup RunFault
set_up_by f = if_partitioned f.files (configured f.text)
