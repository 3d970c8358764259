-- A task's times, and when a commit or a window is due.
use Rattle.std.specs.Prelude.{ℕ, ◌≡◌, ◌||◌, List, Bool, false}
use Rattle.samza_model.specs.declared.events.Event.{Event}
use Rattle.samza_model.specs.declared.setups.Setup.{Setup}
use Rattle.samza_model.specs.Requests.{due_by}
use Rattle.window_timer.specs.Intervals.{passed}
use Rattle.window_timer.specs.declared.times.Times.{Times}

-- the intervals are the setup's
pub record IsTimed (s : Setup) (t : Times) : Type 0 where
  pub commit : t.commit.interval ≡ s.commit_ms
  pub window : t.window.interval ≡ s.window_ms

-- those of a task that is opened at this moment
abbrev pub begun_times : Setup → ℕ → Times
begun_times s moment = record {
  moment = moment;
  commit = record { interval = s.commit_ms; last = moment };
  window = record { interval = s.window_ms; last = moment };
  marked = false;
}

-- a commit is due: the events since the last mark ask for it, or somebody else did, or its interval has passed
abbrev pub is_due : List Event → Times → Bool
is_due since t = due_by since || (t.marked || passed t.commit t.moment)

-- the interval of windows has passed
abbrev pub is_window_due : Times → Bool
is_window_due t = passed t.window t.moment
