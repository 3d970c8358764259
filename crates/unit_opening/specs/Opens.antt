-- When a task can be opened.
use Rattle.std.specs.Prelude.{ℕ, ◌≤◌, List, Option}
use Rattle.samza_model.specs.declared.messages.Record.{Record}
use Rattle.samza_model.specs.declared.checkpoints.Checkpoint.{Checkpoint}
use Rattle.samza_model.specs.declared.setups.Setup.{Setup}
use Rattle.samza_model.specs.Files.{Image}
use Rattle.samza_model.specs.Logs.{HasLog}
use Rattle.samza_model.specs.Partition.{partition_of, end_of}
use Rattle.samza_model.specs.Restored.{next_at, start_of}
use Rattle.restore_trim.specs.Refused.{FilesHold}
use Rattle.unit_opening.specs.Inputs.{input_of}

-- the task's own files can be opened at some checkpoint, the input's file is a log, and where the input begins isn't past its end
pub record Opens (s : Setup) (image : Image) (bytes : List ℕ) : Type 0 where
  pub mark : Option Checkpoint
  pub hold : FilesHold s image mark
  pub messages : List Record
  pub has_messages : HasLog bytes messages
  pub within : start_of (next_at mark 0) (input_of s) (partition_of messages) ≤ end_of (partition_of messages)
