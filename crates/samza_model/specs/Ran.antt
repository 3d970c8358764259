-- What a run makes of a task, from its files before to those after.
use Rattle.std.specs.Prelude.{ℕ, ◌≡◌, ◌≤◌, ◌+◌, List, [], ◌∷◌, length, map, Option, Some, None, Bool, true, false, slice_get}
use Rattle.samza_model.specs.declared.setups.Setup.{Setup}
use Rattle.samza_model.specs.declared.setups.InputSetup.{InputSetup}
use Rattle.samza_model.specs.declared.checkpoints.Checkpoint.{Checkpoint}
use Rattle.samza_model.specs.declared.marks.KeptMark.{KeptMark}
use Rattle.samza_model.specs.declared.events.Event.{Event}
use Rattle.samza_model.specs.declared.events.Event.TheVariants.{Failed, WindowDid, WindowEnded}
use Rattle.samza_model.specs.declared.turns.Turn.{Turn}
use Rattle.samza_model.specs.declared.turns.Turn.TheVariants.{Call, Window}
use Rattle.samza_model.specs.Content.{Content, State}
use Rattle.samza_model.specs.Events.{flights, first_failure, window_open}
use Rattle.samza_model.specs.Files.{Image}
use Rattle.samza_model.specs.Histories.{History, whole, marked, ArePrompt}
use Rattle.samza_model.specs.Lawful.{Given, IsLawful}
use Rattle.samza_model.specs.Marks.{AreMarks, HoldMarks, HaveSends, BeginWithSends}
use Rattle.samza_model.specs.Meaning.{Meaning}
use Rattle.samza_model.specs.Partition.{Partition, end_of}
use Rattle.samza_model.specs.Requests.{IsPrompt}
use Rattle.samza_model.specs.Restored.{Restores, next_at, start_of}

-- these contents, with nothing sent yet
abbrev pub fresh : Setup → List Content → State
fresh s stores = record { stores = stores; sent = map (λ _. []) s.outputs }

-- where each input begins, from the p-th on
abbrev pub starts_from : Option Checkpoint → ℕ → List InputSetup → List Partition → List ℕ
starts_from mark p [] parts = []
starts_from mark p (i ∷ is) [] = []
starts_from mark p (i ∷ is) (part ∷ parts) =
    start_of (next_at mark p) i part ∷ starts_from mark (p + 1) is parts

-- what an opening fixes that finds this checkpoint, these contents and these partitions
abbrev pub opening : Meaning → Setup → List Partition → Option Checkpoint → List Content → Given
opening job s parts mark stores = record {
  job = Some job;
  setup = s;
  parts = map (λ part. Some part) parts;
  starts = starts_from mark 0 s.inputs parts;
  ends = map end_of parts;
  state = fresh s stores;
}

abbrev pub is_window : Turn → Bool
is_window (Call n) = false
is_window Window = true

abbrev pub is_of_window : Event → Bool
is_of_window (Failed f) = is_window f.turn
is_of_window (WindowDid i act answer) = true
is_of_window WindowEnded = true
is_of_window _ = false

-- none of these is a window's, where the setup has no windows
abbrev pub HasNoWindows : Option ℕ → List Event → Type 0
HasNoWindows None [] = Unit {0}
HasNoWindows None (e ∷ h) = (is_of_window e ≡ false) × HasNoWindows None h
HasNoWindows (Some interval) h = Unit {0}

-- How a run begins: the checkpoint and the contents to which the files restore.
pub record Opening (job : Meaning) (s : Setup) (parts : List Partition) (before : Image) : Type 0 where
  pub mark : Option Checkpoint
  pub stores : List Content
  pub restores : Restores s before mark stores

abbrev pub given_by : (job : Meaning) (s : Setup) (parts : List Partition) (before : Image) → Opening job s parts before → Given
given_by job s parts before o = opening job s parts o.mark o.stores

-- A run of a task made these events and marks, and left these files: the checkpoint file has the marks behind what it had, each with its
-- content in the changelogs, and each output's log begins with what it had and what was sent up to the last mark.
pub record Ran (job : Meaning) (s : Setup) (parts : List Partition) (t : History) (after : Image) : Type 0 where
  pub opened : Opening job s parts t.before
  pub lawful : IsLawful (given_by job s parts t.before opened) (whole t)
  pub marks : List KeptMark
  pub are_marks : AreMarks (given_by job s parts t.before opened) t.parts marks
  pub from_opening : (m : KeptMark) → slice_get marks (length t.parts) ≡ Some m → m.checkpoint ≡ opened.mark
  pub hold : HoldMarks (given_by job s parts t.before opened) t marks after
  pub sends : BeginWithSends (given_by job s parts t.before opened) t.before after (marked t)
  pub prompt : s.async_commit ≡ false → IsPrompt t.since × ArePrompt t.parts
  pub no_windows : HasNoWindows s.window_ms (whole t)

-- where the setup has windows, the last event is the end of one
abbrev pub EndsWindow : Option ℕ → List Event → Type 0
EndsWindow None h = Unit {0}
EndsWindow (Some interval) h = (g : List Event) × (h ≡ WindowEnded ∷ g)

-- The run went to its end: nothing is in flight, failed or open, all events are behind the last mark, and each output's log has just what
-- it had and what was sent.
pub record Finished (k : Given) (t : History) (after : Image) : Type 0 where
  pub idle : flights k.setup (whole t) ≡ []
  pub sound : first_failure (whole t) ≡ None
  pub closed : window_open (whole t) ≡ false
  pub committed : 1 ≤ length t.parts
  pub all_marked : t.since ≡ []
  pub sends : HaveSends k t.before after (marked t)
  pub windowed : EndsWindow k.setup.window_ms (whole t)
