-- What a sink has received after a write.
use Rattle.std.specs.Prelude.{ℕ, ◌≡◌, List, ◌++◌, take}

-- some of the bytes, from their front on, came behind what was received before
pub record TookPart (bytes before after : List ℕ) : Type 0 where
  pub count : ℕ
  pub taken : after ≡ before ++ take count bytes
