-- How a commit makes a task's files grow, and when one of them would pass 2^40 bytes.
use Rattle.std.specs.Prelude.{ℕ, ◌≡◌, ◌<◌, ◌+◌, ◌⊎◌, List, [], ◌∷◌, length, Option, Some}
use Rattle.samza_model.specs.declared.messages.Record.{Record}
use Rattle.samza_model.specs.declared.checkpoints.Checkpoint.{Checkpoint}
use Rattle.samza_model.specs.declared.setups.Setup.{Setup}
use Rattle.samza_model.specs.Checkpoint.{Spells}
use Rattle.samza_model.specs.Content.{sent_at}
use Rattle.samza_model.specs.Files.{Image, checkpoint_file, changelog_file, output_file}
use Rattle.samza_model.specs.Limits.{frame_batch}
use Rattle.samza_model.specs.Logs.{HasLog}
use Rattle.samza_model.specs.Restored.{IsNamed, id_of, next_at, count_at}
use Rattle.topic_log.specs.Growth.{Passes, PassesBy}
use Rattle.unit_logs.specs.Unlogged.{unlogged_at}
use Rattle.core_plans.specs.Plans.{batch_at}

-- The checkpoint that a commit would write now: it has the setup's names, its number is one more, it covers all below the next
-- offset, and it counts the records that each changelog has and those that are unlogged.
pub record IsNextMark (s : Setup) (image : Image) (mark : Option Checkpoint) (next : ℕ) (unlogged : List (List Record)) (made : Checkpoint) : Type 0 where
  pub named : IsNamed s made
  pub id_is : made.id ≡ id_of mark + 1
  pub next_is : next_at (Some made) 0 ≡ Some next
  pub counts : (i : ℕ) (had : List Record) → i < length s.stores → HasLog (image (changelog_file i)) had
      → count_at (Some made) i ≡ length had + length (unlogged_at unlogged i)

-- the checkpoint file, with the record of the next checkpoint alone in a frame
pub record PassesByMark (s : Setup) (image : Image) (mark : Option Checkpoint) (next : ℕ) (unlogged : List (List Record)) : Type 0 where
  pub made : Checkpoint
  pub is_next : IsNextMark s image mark next unlogged made
  pub last : Record
  pub spells : Spells made last
  pub passes : Passes (image checkpoint_file) ((last ∷ []) ∷ [])

-- an output's file, with what the output was sent, of which there is some
pub record OutputPasses (s : Setup) (image : Image) (sent : List (List Record)) : Type 0 where
  pub output : ℕ
  pub within : output < length s.outputs
  pub passes : PassesBy (image (output_file output)) frame_batch (sent_at sent output)

-- a store's changelog, with what is unlogged of the store in frames of at most its batch, of which there is some
pub record ChangelogPasses (s : Setup) (image : Image) (unlogged : List (List Record)) : Type 0 where
  pub store : ℕ
  pub within : store < length s.stores
  pub passes : PassesBy (image (changelog_file store)) (batch_at s.stores store) (unlogged_at unlogged store)

-- One of the files to which a commit would append something would pass 2^40 bytes by it. The checkpoint file is looked at last.
abbrev pub PassesLimit : Setup → Image → Option Checkpoint → ℕ → List (List Record) → List (List Record) → Type 0
PassesLimit s image mark next unlogged sent = OutputPasses s image sent ⊎ (ChangelogPasses s image unlogged ⊎ PassesByMark s image mark next unlogged)
