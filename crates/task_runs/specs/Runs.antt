-- What one run of a task made of its files.
use Rattle.std.specs.Prelude.{ℕ, ◌≡◌, ◌≤◌, List, [], ◌∷◌, length}
use Rattle.samza_model.specs.declared.messages.Record.{Record}
use Rattle.samza_model.specs.declared.setups.Setup.{Setup}
use Rattle.samza_model.specs.Files.{Image}
use Rattle.samza_model.specs.Histories.{History}
use Rattle.samza_model.specs.Lawful.{Given}
use Rattle.samza_model.specs.Logs.{HasLog}
use Rattle.samza_model.specs.Meaning.{Meaning}
use Rattle.samza_model.specs.Partition.{partition_of}
use Rattle.samza_model.specs.Ran.{Ran, given_by}
use Rattle.samza_model.specs.Restored.{next_at, start_of}
use Rattle.restore_trim.specs.Refused.{StoresOpen}
use Rattle.unit_opening.specs.Inputs.{input_of}
use Rattle.run_loop.specs.Messages.{IsOfMessages}

-- A run of a task made these events, on the messages of its one input: it was opened on the files that read as `before`, and these are
-- the files that it left.
pub record TaskRan (job : Meaning) (s : Setup) (input : List ℕ) (before after : Image) (t : History) : Type 0 where
  pub begins : t.before ≡ before
  pub messages : List Record
  pub has_messages : HasLog input messages
  pub ran : Ran job s (partition_of messages ∷ []) t after
  pub of_messages : IsOfMessages t
  pub opens : StoresOpen t.before ran.opened.mark (length s.stores)
  pub within : start_of (next_at ran.opened.mark 0) (input_of s) (partition_of messages) ≤ length messages

-- what its opening fixed
abbrev pub given_of : (job : Meaning) (s : Setup) (input : List ℕ) (before after : Image) (t : History) → TaskRan job s input before after t → Given
given_of job s input before after t r = given_by job s (partition_of r.messages ∷ []) t.before r.ran.opened
