-- What was said of a name: which calls of its disks and shelves are to fail.
use Rattle.std.specs.Prelude.{ℕ, Bool, false, Option, None, Some}
use Rattle.disk_model.specs.Tallies.{fails_at}
use Rattle.disk_model.specs.declared.arms.Failing.{Failing}

-- a call with this number of a handle is to fail; none, where nothing was said
abbrev pub said_fails : Option Failing → ℕ → Bool
said_fails None number = false
said_fails (Some f) number = fails_at f.fail_at.items f.stop_after number
