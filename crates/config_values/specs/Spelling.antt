-- Texts in ASCII.
use Rattle.std.specs.Prelude.{ℕ, Bool, nat_lt}

abbrev pub is_ascii : ℕ → Bool
is_ascii c = nat_lt c 128
