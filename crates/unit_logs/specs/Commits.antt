-- What a commit makes of a task's files, and what a crash in it leaves of them.
use Rattle.std.specs.Prelude.{◌⊎◌, ℕ, ◌≡◌, ◌<◌, ◌+◌, List, [], ◌∷◌, ◌++◌, length, Option, Some}
use Rattle.samza_model.specs.declared.messages.Record.{Record}
use Rattle.samza_model.specs.declared.checkpoints.Checkpoint.{Checkpoint}
use Rattle.samza_model.specs.declared.setups.Setup.{Setup}
use Rattle.samza_model.specs.Checkpoint.{Spells}
use Rattle.samza_model.specs.Content.{Content, State, sent_at}
use Rattle.samza_model.specs.Files.{Image, checkpoint_file, output_file}
use Rattle.samza_model.specs.Limits.{frame_batch}
use Rattle.samza_model.specs.Logs.{HasFrames}
use Rattle.samza_model.specs.Restored.{Restores, id_of, next_at, count_at, store_file}
use Rattle.log_frame.specs.Cuts.{IsCut}
use Rattle.restore_trim.specs.Refused.{HasChanges}
use Rattle.restore_trim.specs.Standing.{OthersStay}
use Rattle.unit_logs.specs.Unlogged.{unlogged_at}
use Rattle.core_plans.specs.Plans.{batch_at}

-- each of the first so many changelogs has as many records as the checkpoint counts
abbrev pub CountsHold : Image → Option Checkpoint → ℕ → Type 0
CountsHold image mark n = (i : ℕ) → i < n → HasChanges image i (count_at mark i)

-- behind the frames that the file had stand these records, in frames of at most so many
abbrev pub IsFollowed : ℕ → List Record → List ℕ → List ℕ → Type 0
IsFollowed most records before after = (frames : List (List Record)) → HasFrames before frames
    → (more : List (List Record)) × IsCut most records more × HasFrames after (frames ++ more)

-- the file has the frames that it had, or behind them stand these records, in frames of at most so many
abbrev pub MayBeFollowed : ℕ → List Record → List ℕ → List ℕ → Type 0
MayBeFollowed most records before after = (frames : List (List Record)) → HasFrames before frames
    → HasFrames after frames ⊎ ((more : List (List Record)) × IsCut most records more × HasFrames after (frames ++ more))

-- behind the frames that the file had stands this checkpoint's record alone
abbrev pub IsMarkedNext : Checkpoint → List ℕ → List ℕ → Type 0
IsMarkedNext made before after = (frames : List (List Record)) → HasFrames before frames
    → (r : Record) × Spells made r × HasFrames after (frames ++ (r ∷ []) ∷ [])

-- The image has the next checkpoint: its number is one more, it covers all below the next offset, it counts all records of each
-- changelog, and the image restores to it. It stands behind those that there were; behind each changelog stand the changes of its
-- store, and behind each output's log what the output was sent.
pub record IsCommitted (s : Setup) (before after : Image) (mark : Option Checkpoint) (next : ℕ) (state : State) (unlogged : List (List Record)) (made : Checkpoint) : Type 0 where
  pub id_is : made.id ≡ id_of mark + 1
  pub next_is : next_at (Some made) 0 ≡ Some next
  pub counts : CountsHold after (Some made) (length s.stores)
  pub restores : Restores s after (Some made) state.stores
  pub marked : IsMarkedNext made (before checkpoint_file) (after checkpoint_file)
  pub changes : (i : ℕ) → i < length s.stores
      → IsFollowed (batch_at s.stores i) (unlogged_at unlogged i) (before (store_file (Some made) i)) (after (store_file (Some made) i))
  pub sends : (j : ℕ) → j < length s.outputs → IsFollowed frame_batch (sent_at state.sent j) (before (output_file j)) (after (output_file j))

-- the image has the checkpoint before and restores to the contents before: the checkpoints are as they were, and each other log is
-- as it was, or has all that the commit appends to it
pub record IsUncommitted (s : Setup) (before after : Image) (mark : Option Checkpoint) (contents : List Content) (unlogged unsent : List (List Record)) : Type 0 where
  pub restores : Restores s after mark contents
  pub marked : (frames : List (List Record)) → HasFrames (before checkpoint_file) frames → HasFrames (after checkpoint_file) frames
  pub changes : (i : ℕ) → i < length s.stores → MayBeFollowed (batch_at s.stores i) (unlogged_at unlogged i) (before (store_file mark i)) (after (store_file mark i))
  pub sends : (j : ℕ) → j < length s.outputs → MayBeFollowed frame_batch (sent_at unsent j) (before (output_file j)) (after (output_file j))

-- What a crash in the commit that makes this checkpoint leaves of an image at its start: the files that are none of the task's, and
-- either the checkpoint before with its contents, or this one with the unit's. The logs had what a read gave of them.
abbrev pub LeavesMade : Setup → Image → Image → Image → Option Checkpoint → List Content → ℕ → State → List (List Record) → Checkpoint → Type 0
LeavesMade s before old new mark contents next state unlogged made =
    OthersStay (length s.stores) (length s.outputs) old new
    × (IsUncommitted s before new mark contents unlogged state.sent ⊎ IsCommitted s before new mark next state unlogged made)

-- the same, with some checkpoint
abbrev pub CommitLeaves : Setup → Image → Image → Image → Option Checkpoint → List Content → ℕ → State → List (List Record) → Type 0
CommitLeaves s before old new mark contents next state unlogged =
    OthersStay (length s.stores) (length s.outputs) old new
    × (IsUncommitted s before new mark contents unlogged state.sent ⊎ ((made : Checkpoint) × IsCommitted s before new mark next state unlogged made))
