-- What the text of a number says, and of a flag.
use Rattle.std.specs.Prelude.{ℕ, Bool, true, false, cond, not, ◌==◌, ◌||◌, ◌&&◌, ◌+◌, ◌-◌, ◌*◌, ◌^◌, nat_le, nat_lt, List, [], ◌∷◌, length, take, drop, Option, Some, None, Result, Ok, Err}
use Rattle.std.specs.List.{prefix_len, suffix_len, list_all, fold}
use Rattle.config_values.specs.declared.faults.What.{What}
use Rattle.config_values.specs.declared.faults.What.TheVariants.{NotNumber, OutOfRange}

-- a space or a tab
abbrev pub is_blank : ℕ → Bool
is_blank c = c == 32 || c == 9

-- a text without the blanks before it, and one without those behind it
abbrev pub without_leading : List ℕ → List ℕ
without_leading t = drop (prefix_len is_blank t) t

abbrev pub without_trailing : List ℕ → List ℕ
without_trailing t = take (length t - suffix_len is_blank t) t

-- a text without the blanks around it
unfoldable pub trimmed : List ℕ → List ℕ
trimmed t = without_trailing (without_leading t)

abbrev pub is_digit : ℕ → Bool
is_digit c = nat_le 48 c && nat_le c 57

-- one digit or more, and nothing else
abbrev pub are_digits : List ℕ → Bool
are_digits t = not (length t == 0) && list_all is_digit t

-- the number that digits spell
abbrev pub with_digit : ℕ → ℕ → ℕ
with_digit n c = 10 * n + (c - 48)

unfoldable pub decimal : List ℕ → ℕ
decimal t = fold with_digit 0 t

-- + or -
abbrev pub is_sign : ℕ → Bool
is_sign c = c == 43 || c == 45

abbrev pub without_sign : List ℕ → List ℕ
without_sign [] = []
without_sign (c ∷ cs) = cond (is_sign c) cs (c ∷ cs)

abbrev pub has_minus : List ℕ → Bool
has_minus [] = false
has_minus (c ∷ cs) = c == 45

-- A number of 64 signed bits, or none for one below 0, whose size no key asks for.
abbrev pub signed : Bool → ℕ → Result (Option ℕ) What
signed false n = cond (nat_lt n (2 ^ 63)) (Ok (Some n)) (Err OutOfRange)
signed true n = cond (n == 0) (Ok (Some 0)) (cond (nat_le n (2 ^ 63)) (Ok None) (Err OutOfRange))

-- The number that a text spells: spaces and tabs around it, at most one sign, and digits.
unfoldable pub number_of : List ℕ → Result (Option ℕ) What
number_of t = cond (are_digits (without_sign (trimmed t))) (signed (has_minus (trimmed t)) (decimal (without_sign (trimmed t)))) (Err NotNumber)
