-- Why a task isn't opened: the first cause in the order in which its files are read.
use Rattle.std.specs.Prelude.{ℕ, ◌≡◌, ◌<◌, ◌≤◌, ◌⊎◌, List, length, Option, Some, None}
use Rattle.samza_model.specs.declared.messages.Record.{Record}
use Rattle.samza_model.specs.declared.checkpoints.Checkpoint.{Checkpoint}
use Rattle.samza_model.specs.declared.setups.Setup.{Setup}
use Rattle.samza_model.specs.Content.{Content}
use Rattle.samza_model.specs.Files.{Image, checkpoint_file, changelog_file, output_file}
use Rattle.samza_model.specs.Limits.{frame_batch}
use Rattle.samza_model.specs.Logs.{joined, HasFrames, HasNoLog}
use Rattle.samza_model.specs.Restored.{count_at, EndsWith, IsNamed, IsMarked, Restores}
use Rattle.restore_trim.specs.declared.faults.OpenFault.{OpenFault}
use Rattle.restore_trim.specs.declared.faults.OpenFault.TheVariants.{Device, Damaged, Shape, Ahead, Limit, NoMemory}
use Rattle.checkpoint_log.specs.Ends.{IsBadEnd}
use Rattle.changelog.specs.Folds.{reverts_of}
use Rattle.topic_log.specs.Damage.{IsDamagedAt}
use Rattle.topic_log.specs.Growth.{PassesBy}
use Rattle.topic_log.specs.declared.faults.LogFault.{LogFault}
use Rattle.topic_log.specs.declared.faults.LogFault.TheVariants.{Device as LogDevice, Damaged as LogDamaged, Limit as LogLimit, NoMemory as LogNoMemory}

-- a log's fault, told of this file
abbrev pub IsOpeningOf : ℕ → LogFault → OpenFault → Type 0
IsOpeningOf file LogDevice e = e ≡ Device
IsOpeningOf file (LogDamaged at) e = e ≡ Damaged None file at
IsOpeningOf file LogLimit e = e ≡ Limit
IsOpeningOf file LogNoMemory e = e ≡ NoMemory
IsOpeningOf file f e = ⊥

-- the file is no log, and reading it as one stops at this byte
abbrev pub IsNoLogAt : List ℕ → ℕ → Type 0
IsNoLogAt bytes at = IsDamagedAt bytes at × HasNoLog bytes

-- a file of the task isn't opened: the device, want of memory, or it is no log
abbrev pub WhyNoFile : Image → ℕ → OpenFault → Type 0
WhyNoFile image file Device = Unit {0}
WhyNoFile image file (Damaged None f at) = (f ≡ file) × IsNoLogAt (image file) at
WhyNoFile image file NoMemory = Unit {0}
WhyNoFile image file e = ⊥

-- What a refusal tells, on every disk: of a file that isn't opened just this file,
abbrev pub TellsFile : ℕ → OpenFault → Type 0
TellsFile file (Damaged input f at) = (input ≡ None) × (f ≡ file)
TellsFile file Shape = ⊥
TellsFile file Limit = ⊥
TellsFile file (Ahead input store wanted held) = ⊥
TellsFile file e = Unit {0}

-- of the checkpoints their file, or that their names are others,
abbrev pub TellsMark : OpenFault → Type 0
TellsMark (Damaged input f at) = (input ≡ None) × (f ≡ checkpoint_file)
TellsMark (Ahead input store wanted held) = ⊥
TellsMark Limit = ⊥
TellsMark e = Unit {0}

-- of a store its changelog's file, or that it holds less than is wanted,
abbrev pub TellsStore : ℕ → OpenFault → Type 0
TellsStore store (Damaged input f at) = (input ≡ None) × (f ≡ changelog_file store)
TellsStore store Shape = ⊥
TellsStore store (Ahead input s wanted held) = (input ≡ None) × (s ≡ Some store) × (held < wanted)
TellsStore store e = Unit {0}

-- and of a task one of these: the checkpoints, one of its stores, or the file of one of its outputs.
abbrev pub TellsStores : ℕ → OpenFault → Type 0
TellsStores stores e = (i : ℕ) × (i < stores) × TellsStore i e

abbrev pub TellsOutputs : ℕ → OpenFault → Type 0
TellsOutputs outputs e = (j : ℕ) × (j < outputs) × TellsFile (output_file j) e

abbrev pub TellsFiles : ℕ → ℕ → OpenFault → Type 0
TellsFiles stores outputs e = TellsMark e ⊎ (TellsStores stores e ⊎ TellsOutputs outputs e)

-- the checkpoint file has frames, and they end with no checkpoint; the last one's first byte is at
pub record EndsBadly (image : Image) (at : ℕ) : Type 0 where
  pub frames : List (List Record)
  pub has : HasFrames (image checkpoint_file) frames
  pub bad : IsBadEnd frames at

-- the last checkpoint has other names
pub record HasOtherNames (s : Setup) (image : Image) : Type 0 where
  pub frames : List (List Record)
  pub has : HasFrames (image checkpoint_file) frames
  pub mark : Checkpoint
  pub ends : EndsWith frames mark
  pub other : IsNamed s mark → ⊥

-- there is no checkpoint of this setup to be had
abbrev pub WhyNoMark : Setup → Image → OpenFault → Type 0
WhyNoMark s image Device = Unit {0}
WhyNoMark s image (Damaged None file at) = (file ≡ checkpoint_file) × (IsNoLogAt (image checkpoint_file) at ⊎ EndsBadly image at)
WhyNoMark s image Shape = HasOtherNames s image
WhyNoMark s image NoMemory = Unit {0}
WhyNoMark s image e = ⊥

-- the changelog of a store has so many records
pub record HasChanges (image : Image) (store held : ℕ) : Type 0 where
  pub frames : List (List Record)
  pub has : HasFrames (image (changelog_file store)) frames
  pub held_is : held ≡ length (joined frames)

-- with what takes back the records behind those that are counted, in frames of at most frame_batch, the changelog passes its limit
pub record RevertPasses (image : Image) (store count : ℕ) : Type 0 where
  pub frames : List (List Record)
  pub has : HasFrames (image (changelog_file store)) frames
  pub more : count < length (joined frames)
  pub passes : PassesBy (image (changelog_file store)) frame_batch (reverts_of count (joined frames))

-- a count of the checkpoint is above the number of records that there are
abbrev pub IsMiscount : ℕ → ℕ → ℕ → OpenFault → Type 0
IsMiscount store count have (Ahead None (Some s) wanted held) = (s ≡ store) × (wanted ≡ count) × (held ≡ have) × (held < wanted)
IsMiscount store count have e = ⊥

-- a store isn't opened: its changelog is no log, or has fewer records than the checkpoint counts, or would grow too large with what
-- takes the others back
abbrev pub WhyNoStore : Image → ℕ → ℕ → OpenFault → Type 0
WhyNoStore image store count Device = Unit {0}
WhyNoStore image store count (Damaged None file at) = (file ≡ changelog_file store) × IsNoLogAt (image (changelog_file store)) at
WhyNoStore image store count (Ahead None (Some s) wanted held) = (s ≡ store) × (wanted ≡ count) × HasChanges image store held × (held < wanted)
WhyNoStore image store count Limit = RevertPasses image store count
WhyNoStore image store count NoMemory = Unit {0}
WhyNoStore image store count e = ⊥

-- a store can be opened: its changelog has as many records as the checkpoint counts or more, and room for what takes the others back
pub record StoreOpens (image : Image) (store count : ℕ) : Type 0 where
  pub held : ℕ
  pub has : HasChanges image store held
  pub enough : count ≤ held
  pub room : RevertPasses image store count → ⊥

-- each of the first so many stores can be opened at the checkpoint
abbrev pub StoresOpen : Image → Option Checkpoint → ℕ → Type 0
StoresOpen image mark n = (i : ℕ) → i < n → StoreOpens image i (count_at mark i)

-- one of the stores isn't opened, and those before it are
pub record WhyNoStores (image : Image) (mark : Option Checkpoint) (n : ℕ) (e : OpenFault) : Type 0 where
  pub store : ℕ
  pub within : store < n
  pub before : StoresOpen image mark store
  pub why : WhyNoStore image store (count_at mark store) e

-- each of the first so many outputs' files is a log
abbrev pub OutputsHold : Image → ℕ → Type 0
OutputsHold image n = (j : ℕ) → j < n → (frames : List (List Record)) × HasFrames (image (output_file j)) frames

-- one of the outputs' logs isn't opened, and those before it are
pub record WhyNoOutputs (image : Image) (n : ℕ) (e : OpenFault) : Type 0 where
  pub output : ℕ
  pub within : output < n
  pub before : OutputsHold image output
  pub why : WhyNoFile image (output_file output) e

-- the image has this checkpoint, and one of its stores isn't opened
pub record StoresRefused (s : Setup) (image : Image) (e : OpenFault) : Type 0 where
  pub mark : Option Checkpoint
  pub marked : IsMarked s image mark
  pub why : WhyNoStores image mark (length s.stores) e

-- the image has this checkpoint, all stores can be opened, and one of its outputs can't
pub record OutputsRefused (s : Setup) (image : Image) (e : OpenFault) : Type 0 where
  pub mark : Option Checkpoint
  pub marked : IsMarked s image mark
  pub stores : StoresOpen image mark (length s.stores)
  pub why : WhyNoOutputs image (length s.outputs) e

-- why a task's files don't restore: the checkpoint, then the stores, then the outputs
abbrev pub WhyRefused : Setup → Image → OpenFault → Type 0
WhyRefused s image e = WhyNoMark s image e ⊎ (StoresRefused s image e ⊎ OutputsRefused s image e)

-- the task's own files can be opened at this checkpoint: they restore to it, with some contents, and each store can be opened at it
pub record FilesHold (s : Setup) (image : Image) (mark : Option Checkpoint) : Type 0 where
  pub contents : List Content
  pub restores : Restores s image mark contents
  pub stores : StoresOpen image mark (length s.stores)
