-- What an opening leaves of a task's logs.
use Rattle.std.specs.Prelude.{◌↔◌, ℕ, ◌≡◌, ◌<◌, List, ◌++◌, length, Option}
use Rattle.samza_model.specs.declared.messages.Record.{Record}
use Rattle.samza_model.specs.declared.checkpoints.Checkpoint.{Checkpoint}
use Rattle.samza_model.specs.declared.setups.Setup.{Setup}
use Rattle.samza_model.specs.Content.{Content, foldrec, store_at}
use Rattle.samza_model.specs.Files.{Image, checkpoint_file, changelog_file, output_file}
use Rattle.samza_model.specs.Limits.{frame_batch}
use Rattle.samza_model.specs.Logs.{joined, HasFrames, HasLog}
use Rattle.samza_model.specs.Restored.{count_at, store_file}
use Rattle.changelog.specs.Folds.{reverts_of}
use Rattle.log_frame.specs.Cuts.{IsCut}

-- the file has the frames that it had
abbrev pub SameFrames : Image → Image → ℕ → Type 0
SameFrames before after file = (frames : List (List Record)) → HasFrames (before file) frames ↔ HasFrames (after file) frames

-- a changelog has the frames that it had and, behind them, what takes the records behind so many back, in frames of at most `frame_batch`
abbrev pub IsReverted : ℕ → List ℕ → List ℕ → Type 0
IsReverted count before after = (frames : List (List Record)) → HasFrames before frames
    → (reverts : List (List Record)) × IsCut frame_batch (reverts_of count (joined frames)) reverts × HasFrames after (frames ++ reverts)

-- the checkpoint file and each output's log have the frames that they had, and each changelog has its records behind those that
-- the checkpoint counts taken back
pub record LogsStay (s : Setup) (mark : Option Checkpoint) (before after : Image) : Type 0 where
  pub marks : SameFrames before after checkpoint_file
  pub changelogs : (i : ℕ) → i < length s.stores → IsReverted (count_at mark i) (before (store_file mark i)) (after (store_file mark i))
  pub outputs : (j : ℕ) → j < length s.outputs → SameFrames before after (output_file j)

-- all records of each changelog make its store's content
abbrev pub AreWhole : Setup → Image → List Content → Type 0
AreWhole s image stores = (i : ℕ) (records : List Record) → i < length s.stores → HasLog (image (changelog_file i)) records → foldrec records ≡ store_at stores i
