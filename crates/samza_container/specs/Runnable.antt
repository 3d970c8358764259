-- When a task can be run to its end, whatever the order of its callbacks.
use Rattle.std.specs.Prelude.{ℕ, ◌≡◌, ◌≤◌, List, [], ◌∷◌, length, None}
use Rattle.samza_model.specs.declared.events.Event.{Event}
use Rattle.samza_model.specs.declared.marks.KeptMark.{KeptMark}
use Rattle.samza_model.specs.declared.messages.Record.{Record}
use Rattle.samza_model.specs.declared.setups.Setup.{Setup}
use Rattle.samza_model.specs.Events.{first_failure}
use Rattle.samza_model.specs.Files.{Image}
use Rattle.samza_model.specs.Histories.{History, whole}
use Rattle.samza_model.specs.Lawful.{Given, IsLawful}
use Rattle.samza_model.specs.Logs.{HasLog}
use Rattle.samza_model.specs.Marks.{AreMarks}
use Rattle.samza_model.specs.Meaning.{Meaning}
use Rattle.samza_model.specs.Partition.{partition_of}
use Rattle.samza_model.specs.Ran.{Opening, given_by}
use Rattle.samza_model.specs.Restored.{next_at, start_of}
use Rattle.restore_trim.specs.Refused.{StoresOpen}
use Rattle.unit_opening.specs.Inputs.{input_of}
use Rattle.run_loop.specs.Messages.{IsOfMessages}
use Rattle.unit_steps.specs.Growing.{FillFile, HaveGrown}

-- how a task is opened: its files restore, its input is read, and where it begins lies within its input
pub record CanOpen (job : Meaning) (s : Setup) (input : List ℕ) (before : Image) : Type 0 where
  pub messages : List Record
  pub has_messages : HasLog input messages
  pub opened : Opening job s (partition_of messages ∷ []) before
  pub opens : StoresOpen before opened.mark (length s.stores)
  pub within : start_of (next_at opened.mark 0) (input_of s) (partition_of messages) ≤ length messages

abbrev pub given_to : (job : Meaning) (s : Setup) (input : List ℕ) (before : Image) → CanOpen job s input before → Given
given_to job s input before o = given_by job s (partition_of o.messages ∷ []) before o.opened

-- no events that may come fail
abbrev pub NeverFails : Given → Image → Type 0
NeverFails k before = (t : History) → t.before ≡ before → IsOfMessages t → IsLawful k (whole t) → first_failure (whole t) ≡ None

-- and in no files that grew by the commits of such events is one too full for the next commit
abbrev pub NeverFills : Given → Image → Type 0
NeverFills k before = (t : History) (marks : List KeptMark) (c : Image) → t.before ≡ before → IsOfMessages t → IsLawful k (whole t) → AreMarks k t.parts marks
    → HaveGrown k t.before t.parts marks c → FillFile k t marks c → ⊥

-- the task can be opened, and then neither fails nor fills a file
pub record CanRun (job : Meaning) (s : Setup) (input : List ℕ) (before : Image) : Type 0 where
  pub can_open : CanOpen job s input before
  pub sound : NeverFails (given_to job s input before can_open) before
  pub room : NeverFills (given_to job s input before can_open) before
