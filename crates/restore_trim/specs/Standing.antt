-- A task's logs as they stand open on its disk.
use Rattle.std.specs.Prelude.{ℕ, ◌≡◌, ◌≢◌, ◌<◌, ◌≤◌, ◌+◌, ◌⊎◌, ◌++◌, false, All, List, length, take, Option, slice_index_or}
use Rattle.samza_model.specs.declared.messages.Record.{Record}
use Rattle.samza_model.specs.declared.checkpoints.Checkpoint.{Checkpoint}
use Rattle.samza_model.specs.declared.setups.Setup.{Setup}
use Rattle.samza_model.specs.Content.{Content, foldrec, store_at}
use Rattle.samza_model.specs.Files.{Image, checkpoint_file, changelog_file, output_file}
use Rattle.samza_model.specs.Limits.{frame_batch}
use Rattle.samza_model.specs.Logs.{joined, HasFrames}
use Rattle.samza_model.specs.Restored.{count_at, store_file, HasMark}
use Rattle.changelog.specs.Folds.{reverts_of}
use Rattle.log_frame.specs.Cuts.{IsCut}
use Rattle.topic_log.specs.declared.logs.Log.{Log}
use Rattle.topic_log.specs.Opened.{file_of, is_broken, IsOpen}

-- no call on a log answered Device
abbrev pub AllSound : List Log → Type 0
AllSound logs = All (λ (l : Log). is_broken l ≡ false) logs

-- the log of this file is open with these frames
pub record IsOpenAt (reads : Image) (images : Image → Type 0) (file : ℕ) (log : Log) (frames : List (List Record)) : Type 0 where
  pub file_is : file_of log ≡ file
  pub sound : is_broken log ≡ false
  pub is_open : IsOpen reads images log frames

-- the log of this file is open with the frames that the file had before
pub record StandsAt (before reads : Image) (images : Image → Type 0) (file : ℕ) (log : Log) : Type 0 where
  pub frames : List (List Record)
  pub had : HasFrames (before file) frames
  pub is_open : IsOpenAt reads images file log frames

-- A store's changelog had these frames, of whose records the checkpoint counts the first, which make the content. It is open with
-- them and, behind them, what takes the others back, in frames of at most frame_batch; so all its records make the content.
pub record HoldsStore (before reads : Image) (images : Image → Type 0) (file count : ℕ) (log : Log) (content : Content) : Type 0 where
  pub frames : List (List Record)
  pub had : HasFrames (before file) frames
  pub enough : count ≤ length (joined frames)
  pub content_is : content ≡ foldrec (take count (joined frames))
  pub reverts : List (List Record)
  pub cut : IsCut frame_batch (reverts_of count (joined frames)) reverts
  pub is_open : IsOpenAt reads images file log (frames ++ reverts)
  pub whole : content ≡ foldrec (joined (frames ++ reverts))

-- the checkpoint file's log is open, and its frames end with this checkpoint
pub record HoldsMark (s : Setup) (before reads : Image) (images : Image → Type 0) (log : Log) (mark : Option Checkpoint) : Type 0 where
  pub frames : List (List Record)
  pub had : HasFrames (before checkpoint_file) frames
  pub is_open : IsOpenAt reads images checkpoint_file log frames
  pub mark_is : HasMark s frames mark

-- the first so many changelogs are open, each with its store's content
pub record HoldsStores (before reads : Image) (images : Image → Type 0) (mark : Option Checkpoint) (n : ℕ) (logs : List Log) (stores : List Content) : Type 0 where
  pub logs_are : length logs ≡ n
  pub stores_are : length stores ≡ n
  pub each : (i : ℕ) (d : Log) → i < n → HoldsStore before reads images (store_file mark i) (count_at mark i) (slice_index_or logs i d) (store_at stores i)

-- the first so many outputs' logs are open
pub record HoldsOutputs (before reads : Image) (images : Image → Type 0) (n : ℕ) (logs : List Log) : Type 0 where
  pub logs_are : length logs ≡ n
  pub each : (j : ℕ) (d : Log) → j < n → StandsAt before reads images (output_file j) (slice_index_or logs j d)

-- the files from this one on read the same
abbrev pub SameFrom : ℕ → Image → Image → Type 0
SameFrom file old new = (f : ℕ) → file ≤ f → new f ≡ old f

-- the files that are none of so many from this one on read the same
abbrev pub SameOutside : ℕ → ℕ → Image → Image → Type 0
SameOutside first n old new = (f : ℕ) → (f < first) ⊎ (first + n ≤ f) → new f ≡ old f

-- the file is none of a task's, which has so many stores and outputs
pub record IsOther (stores outputs file : ℕ) : Type 0 where
  pub no_mark : file ≢ checkpoint_file
  pub no_changelog : (i : ℕ) → i < stores → file ≢ changelog_file i
  pub no_output : (j : ℕ) → j < outputs → file ≢ output_file j

-- the files that are none of the task's read the same
abbrev pub OthersStay : ℕ → ℕ → Image → Image → Type 0
OthersStay stores outputs old new = (file : ℕ) → IsOther stores outputs file → new file ≡ old file

-- the logs are open as they were found, and the stores have their contents at the checkpoint
pub record IsRestored (s : Setup) (before reads : Image) (images : Image → Type 0) (mark : Option Checkpoint) (marks : Log) (changelogs outputs : List Log) (stores : List Content) : Type 0 where
  pub mark_is : HoldsMark s before reads images marks mark
  pub stores_are : HoldsStores before reads images mark (length s.stores) changelogs stores
  pub outputs_are : HoldsOutputs before reads images (length s.outputs) outputs
