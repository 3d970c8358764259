-- Counts of calls and of faults. They don't fall, and they stand still at their type's end.
use Rattle.std.specs.Prelude.{ℕ, ◌+◌, ◌-◌, ◌^◌, ◌≤◌, min, max}

-- a count's next number, which stays at its type's end
abbrev pub next_number : ℕ → ℕ
next_number n = max n (min (n + 1) (2 ^ 64 - 1))

-- the count rose, or it stands at its type's end
abbrev pub Rose : ℕ → ℕ → Type 0
Rose before now = next_number before ≤ now

-- a count with another's added, up to its type's end
abbrev pub added : ℕ → ℕ → ℕ
added m n = max m (min (m + n) (2 ^ 64 - 1))
