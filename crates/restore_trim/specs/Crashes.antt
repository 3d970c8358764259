-- What a crash leaves while a task is restored.
use Rattle.std.specs.Prelude.{ℕ, ◌≡◌, ◌≢◌, ◌<◌, ◌⊎◌, List, ◌++◌, length, Option}
use Rattle.samza_model.specs.declared.messages.Record.{Record}
use Rattle.samza_model.specs.declared.checkpoints.Checkpoint.{Checkpoint}
use Rattle.samza_model.specs.declared.setups.Setup.{Setup}
use Rattle.samza_model.specs.Content.{Content}
use Rattle.samza_model.specs.Files.{Image, changelog_file, output_file}
use Rattle.samza_model.specs.Limits.{frame_batch}
use Rattle.samza_model.specs.Logs.{joined, HasFrames, HasLog, HasNoLog}
use Rattle.samza_model.specs.Restored.{count_at, store_file, IsMarked, Restores}
use Rattle.disk_model.specs.Images.{SameElsewhere}
use Rattle.log_frame.specs.Cuts.{IsCut}
use Rattle.changelog.specs.Folds.{reverts_of}
use Rattle.restore_trim.specs.Standing.{OthersStay, SameOutside}

-- behind these frames the file has, in frames of at most frame_batch, what takes the records behind the first so many back
pub record TakesBack (count : ℕ) (frames : List (List Record)) (bytes : List ℕ) : Type 0 where
  pub reverts : List (List Record)
  pub cut : IsCut frame_batch (reverts_of count (joined frames)) reverts
  pub has : HasFrames bytes (frames ++ reverts)

-- the file is the changelog of none of the setup's stores, at the checkpoint that the image has
abbrev pub IsNoChangelog : Setup → Image → ℕ → Type 0
IsNoChangelog s image file = (mark : Option Checkpoint) (i : ℕ) → IsMarked s image mark → i < length s.stores → file ≢ store_file mark i

-- Each file has the frames that it had. Behind those of a store's changelog stands nothing, or what takes the records back that the
-- image's checkpoint doesn't count. A file that is no log is as it was.
pub record TailsGrow (s : Setup) (old new : Image) : Type 0 where
  pub kept : (file : ℕ) (frames : List (List Record)) → IsNoChangelog s old file → HasFrames (old file) frames → HasFrames (new file) frames
  pub grown : (mark : Option Checkpoint) (i : ℕ) (frames : List (List Record)) → IsMarked s old mark → i < length s.stores
      → HasFrames (old (store_file mark i)) frames → HasFrames (new (store_file mark i)) frames ⊎ TakesBack (count_at mark i) frames (new (store_file mark i))
  pub lost : (file : ℕ) → HasNoLog (old file) → new file ≡ old file

-- The files restore to the checkpoint and the contents to which they did, and each output's log has what it had. Also where they
-- restore to none, no file lost anything; and the files that are none of the task's are as they were.
pub record OpeningLeaves (s : Setup) (before after : Image) : Type 0 where
  pub restores : (mark : Option Checkpoint) (contents : List Content) → Restores s before mark contents → Restores s after mark contents
  pub files : TailsGrow s before after
  pub sends : (j : ℕ) (had : List Record) → j < length s.outputs → HasLog (before (output_file j)) had → HasLog (after (output_file j)) had
  pub others : OthersStay (length s.stores) (length s.outputs) before after

-- Of one file: it has the frames that it had, and is as it was where it is no log.
pub record KeepsLog (old new : List ℕ) : Type 0 where
  pub here : (frames : List (List Record)) → HasFrames old frames → HasFrames new frames
  pub lost : HasNoLog old → new ≡ old

-- Of one changelog: the same, or behind its frames stands what takes the records behind the first so many back.
pub record Reverts (count : ℕ) (old new : List ℕ) : Type 0 where
  pub here : (frames : List (List Record)) → HasFrames old frames → HasFrames new frames ⊎ TakesBack count frames new
  pub lost : HasNoLog old → new ≡ old

-- one store is opened
pub record RevertsFile (file count : ℕ) (old new : Image) : Type 0 where
  pub here : Reverts count (old file) (new file)
  pub elsewhere : SameElsewhere file old new

-- the first so many stores are opened
pub record RevertsFiles (mark : Option Checkpoint) (n : ℕ) (old new : Image) : Type 0 where
  pub each : (i : ℕ) → i < n → Reverts (count_at mark i) (old (store_file mark i)) (new (store_file mark i))
  pub elsewhere : SameOutside (changelog_file 0) n old new

-- the first so many outputs are opened
pub record KeepsOutputs (n : ℕ) (old new : Image) : Type 0 where
  pub each : (j : ℕ) → j < n → KeepsLog (old (output_file j)) (new (output_file j))
  pub elsewhere : SameOutside (output_file 0) n old new
