-- Why a task isn't opened.
use Rattle.std.specs.Prelude.{◌⊎◌, ℕ, ◌≡◌, ◌<◌, false, List, length, Option, Some, None}
use Rattle.samza_model.specs.declared.messages.Record.{Record}
use Rattle.samza_model.specs.declared.checkpoints.Checkpoint.{Checkpoint}
use Rattle.samza_model.specs.declared.setups.Setup.{Setup}
use Rattle.samza_model.specs.Files.{Image}
use Rattle.samza_model.specs.Logs.{HasLog}
use Rattle.samza_model.specs.Partition.{partition_of, end_of}
use Rattle.samza_model.specs.Restored.{next_at}
use Rattle.restore_trim.specs.declared.faults.OpenFault.{OpenFault}
use Rattle.restore_trim.specs.declared.faults.OpenFault.TheVariants.{Ahead}
use Rattle.restore_trim.specs.Refused.{FilesHold, TellsFiles, WhyRefused}
use Rattle.unit_opening.specs.Inputs.{TellsInput, WhyNoInput, input_of}

-- the task's own files restore to a checkpoint, and its input isn't read
pub record InputRefused (tells told : Type 0) (s : Setup) (image : Image) (bytes : List ℕ) (e : OpenFault) : Type 0 where
  pub mark : Option Checkpoint
  pub hold : tells → FilesHold s image mark
  pub why : WhyNoInput told bytes (input_of s).ssp.partition e

-- the task's own files restore to a checkpoint, its input is read, and the checkpoint's offset of the input passes the input's end
pub record IsPastEnd (tells told : Type 0) (s : Setup) (image : Image) (bytes : List ℕ) (e : OpenFault) : Type 0 where
  pub mark : Option Checkpoint
  pub hold : tells → FilesHold s image mark
  pub records : List Record
  pub read : told → HasLog bytes records
  pub next : ℕ
  pub kept : next_at mark 0 ≡ Some next
  pub honoured : (input_of s).reset ≡ false
  pub past : end_of (partition_of records) < next
  pub fault : e ≡ Ahead (Some 0) None next (end_of (partition_of records))

-- what a refusal tells, on every outside: one of the task's own files or stores, or its input
abbrev pub TellsTask : Setup → OpenFault → Type 0
TellsTask s e = TellsFiles (length s.stores) (length s.outputs) e ⊎ TellsInput (input_of s).ssp.partition e

-- why a task isn't opened, the first cause in the order of work: its own files don't restore, its input isn't read, or the kept
-- offset passes the input's end
abbrev pub WhyNotOpened : Type 0 → Type 0 → Setup → Image → List ℕ → OpenFault → Type 0
WhyNotOpened tells told s image bytes e = (tells → WhyRefused s image e) ⊎ (InputRefused tells told s image bytes e ⊎ IsPastEnd tells told s image bytes e)
