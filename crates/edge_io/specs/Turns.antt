-- The turns of a list of numbers.
use Rattle.std.specs.Prelude.{ℕ, List, [], ◌∷◌}

-- the next number, and 0 once they are used up
abbrev pub first_of : List ℕ → ℕ
first_of [] = 0
first_of (n ∷ ns) = n
