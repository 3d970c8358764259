-- An interval that passes again and again.
use Rattle.std.specs.Prelude.{ℕ, ◌-◌, Option, Some, None, Bool, false, nat_le}
use Rattle.window_timer.specs.declared.intervals.Every.{Every}

-- at least so much time went by
abbrev pub passed_since : Option ℕ → ℕ → ℕ → Bool
passed_since None last now = false
passed_since (Some every) last now = nat_le every (now - last)

abbrev pub passed : Every → ℕ → Bool
passed i now = passed_since i.interval i.last now
