-- Which calls are to fail.
use Rattle.std.specs.Prelude.{ℕ, ◌≡◌, ◌-◌, Bool, false, List, Option, None, Some, ◌||◌, ◌==◌, nat_le}
use Rattle.std.specs.List.{list_any}
use Rattle.disk_model.specs.declared.tallies.Tally.{Tally}

abbrev pub stops : Option ℕ → ℕ → Bool
stops None number = false
stops (Some count) number = nat_le count number

-- a call with one of these numbers, and each call behind so many
abbrev pub fails_at : List ℕ → Option ℕ → ℕ → Bool
fails_at numbers stop number = list_any (λ n. n == number) numbers || stops stop number

-- a call with this number is told to fail
abbrev pub tally_fails : Tally → ℕ → Bool
tally_fails t number = fails_at t.fail_at.items t.stop_after (number - t.from)

-- the same calls are told to fail
abbrev pub SameFailing : Tally → Tally → Type 0
SameFailing old new = (number : ℕ) → tally_fails new number ≡ tally_fails old number
