-- A task's logs as they stand on its disk.
use Rattle.std.specs.Prelude.{ℕ, ◌≡◌, ◌<◌, ◌≤◌, List, length, Option, slice_index_or}
use Rattle.samza_model.specs.declared.messages.Record.{Record}
use Rattle.samza_model.specs.declared.checkpoints.Checkpoint.{Checkpoint}
use Rattle.samza_model.specs.declared.setups.Setup.{Setup}
use Rattle.samza_model.specs.Content.{foldrec}
use Rattle.samza_model.specs.Files.{Image, checkpoint_file, output_file}
use Rattle.samza_model.specs.Logs.{joined}
use Rattle.samza_model.specs.Restored.{HasMark, count_at, store_file}
use Rattle.kv_store.specs.Tracked.{Tracked, AgreesOnClean}
use Rattle.topic_log.specs.declared.logs.Log.{Log}
use Rattle.restore_trim.specs.Standing.{IsOpenAt}
use Rattle.unit_logs.specs.declared.writing.Logs.{Logs}
use Rattle.unit_logs.specs.Appending.{AreOpen}
use Rattle.core_steps.specs.Held.{Held, tracked_at}
use Rattle.core_steps.specs.Setups.{IsCommittable}

-- a setup of one input, of which a commit can be made
pub record IsSetUp (s : Setup) : Type 0 where
  pub one_input : length s.inputs ≡ 1
  pub committable : IsCommittable s

-- a store's changelog is open, has as many records as the checkpoint counts or more, and all of them make a content that the store
-- has but for its dirty keys
pub record StoreStands (reads : Image) (images : Image → Type 0) (file count : ℕ) (log : Log) (t : Tracked) : Type 0 where
  pub frames : List (List Record)
  pub is_open : IsOpenAt reads images file log frames
  pub enough : count ≤ length (joined frames)
  pub agrees : AgreesOnClean t (foldrec (joined frames))

-- the checkpoint file's log is open and ends with this checkpoint
pub record MarkStands (s : Setup) (reads : Image) (images : Image → Type 0) (log : Log) (mark : Option Checkpoint) : Type 0 where
  pub frames : List (List Record)
  pub is_open : IsOpenAt reads images checkpoint_file log frames
  pub mark_is : HasMark s frames mark

-- the task's logs are open at this checkpoint, and what is held is what they make but for what isn't committed
pub record OnDisk (reads : Image) (images : Image → Type 0) (s : Setup) (logs : Logs) (mark : Option Checkpoint) (h : Held) : Type 0 where
  pub marks : MarkStands s reads images logs.marks mark
  pub stores : (i : ℕ) (d : Log) → i < length s.stores → StoreStands reads images (store_file mark i) (count_at mark i) (slice_index_or logs.changelogs.items i d) (tracked_at h.stores i)
  pub outputs : AreOpen reads images (output_file 0) logs.outputs.items
