-- The bytes of one file in memory, and the greatest number of them.
use Rattle.std.specs.Prelude.{ℕ, List, []}

pub record HeldBytes : Type 0 where
  pub bytes : List ℕ
  pub room : ℕ

abbrev pub no_bytes : HeldBytes
no_bytes = record { bytes = []; room = 0 }
