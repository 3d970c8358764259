-- What the private parts of a list's reader promise each other.
use Rattle.std.specs.Prelude.{◌≡◌, ◌<◌, ◌≤◌, ℕ, List, [], ◌∷◌, length}
use Rattle.config_values.specs.Lists.{each_once}

-- an entry, where it isn't empty
abbrev pub kept : List ℕ → List (List ℕ)
kept [] = []
kept (c ∷ cs) = (c ∷ cs) ∷ []

-- each name once; where they are more than `most`, only that they are
abbrev pub IsEachOnce : ℕ → List (List ℕ) → List (List ℕ) → Type 0
IsEachOnce most names once = (length once ≤ most → once ≡ each_once names) × (most < length once → most < length (each_once names))
