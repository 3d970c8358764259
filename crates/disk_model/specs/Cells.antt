-- Writes of bytes over others.
use Rattle.std.specs.Prelude.{ℕ, ◌+◌, ◌-◌, List, [], ◌∷◌, ◌++◌, length, take, drop, replicate}

-- bytes written at a place, over what is there and behind it
abbrev pub put_at : ℕ → List ℕ → List ℕ → List ℕ
put_at at bytes cells = take at cells ++ bytes ++ drop (at + length bytes) cells

-- a value behind the bytes, up to a size
abbrev pub padded : ℕ → ℕ → List ℕ → List ℕ
padded size value cells = cells ++ replicate (size - length cells) value

-- a value in so many bytes from a place on, and in a gap before them
abbrev pub filled : ℕ → ℕ → ℕ → List ℕ → List ℕ
filled from count value cells = put_at from (replicate count value) (padded (from + count) value cells)

-- bytes written at a place, with zeros in a gap before them
abbrev pub put_padded : ℕ → List ℕ → List ℕ → List ℕ
put_padded at [] cells = cells
put_padded at (b ∷ bytes) cells = put_at at (b ∷ bytes) (padded at 0 cells)
