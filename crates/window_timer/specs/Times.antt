-- What becomes of a task's times.
use Rattle.std.specs.Prelude.{ℕ, false, true, nat_lt, if◌then◌else◌}
use Rattle.window_timer.specs.declared.intervals.Every.{Every}
use Rattle.window_timer.specs.declared.times.Times.{Times}

-- the interval runs from this moment on
abbrev pub restarted : Every → ℕ → Every
restarted i moment = record { interval = i.interval; last = moment }

-- a moment was told: one that isn't later changes nothing
abbrev pub told : Times → ℕ → Times
told t moment = record {
  moment = if nat_lt t.moment moment then moment else t.moment;
  commit = t.commit;
  window = t.window;
  marked = t.marked;
}

-- a commit was asked for
abbrev pub marked_due : Times → Times
marked_due t = record { moment = t.moment; commit = t.commit; window = t.window; marked = true }

-- a window was opened
abbrev pub window_begun : Times → Times
window_begun t = record {
  moment = t.moment;
  commit = t.commit;
  window = restarted t.window t.moment;
  marked = t.marked;
}

-- a commit was made
abbrev pub commit_made : Times → Times
commit_made t = record {
  moment = t.moment;
  commit = restarted t.commit t.moment;
  window = t.window;
  marked = false;
}
