-- The one written form of a map of pairs, and that it is read as it was.
use Rattle.std.specs.Prelude.{ℕ, Bool, cond, ◌≡◌, ◌==◌, ◌||◌, ◌&&◌, ◌+◌, ◌/◌, ◌%◌, ◌<◌, ◌^◌, nat_le, nat_lt, List, [], ◌∷◌, ◌++◌, Ok}
use Rattle.std.specs.List.{flat_map, AllByRecursion}
use Rattle.std.specs.FinMap.{entries}
use Rattle.props_text.specs.Pairs.{Props, props_of}

-- an upper-case hexadecimal digit
abbrev pub upper_digit : ℕ → ℕ
upper_digit d = cond (nat_lt d 10) (48 + d) (55 + d)

-- \ = : # and !
abbrev pub is_special : ℕ → Bool
is_special u = u == 92 || u == 61 || u == 58 || u == 35 || u == 33

-- from ! to ~
abbrev pub is_plain : ℕ → Bool
is_plain u = nat_le 33 u && nat_le u 126

abbrev pub escape_text : ℕ → List ℕ
escape_text u = 92 ∷ 117 ∷ upper_digit (u / 16 / 16 / 16) ∷ upper_digit (u / 16 / 16 % 16) ∷ upper_digit (u / 16 % 16) ∷ upper_digit (u % 16) ∷ []

-- a unit from ! to ~ stands as itself, with a backslash before \ = : # and !; every other one is \u and four upper-case digits
unfoldable pub written_unit : ℕ → List ℕ
written_unit u = cond (is_special u) (92 ∷ u ∷ []) (cond (is_plain u) (u ∷ []) (escape_text u))

abbrev pub written_text : List ℕ → List ℕ
written_text us = flat_map written_unit us

-- key, =, value, LF
abbrev pub written_pair : List ℕ × List ℕ → List ℕ
written_pair p = written_text p.0 ++ 61 ∷ (written_text p.1 ++ 10 ∷ [])

-- the pairs in order of their keys' units
abbrev pub written : Props → List ℕ
written m = flat_map written_pair (entries m)

abbrev pub AreUnits : List ℕ → Type 0
AreUnits us = AllByRecursion (λ u. u < 2 ^ 16) us

-- a map whose keys and values are of 16-bit units
abbrev pub IsOfUnits : Props → Type 0
IsOfUnits m = AllByRecursion (λ p. AreUnits p.0 × AreUnits p.1) (entries m)

-- what is written is read as it was
abbrev pub WrittenComesBack : Type 0
WrittenComesBack = (m : Props) → IsOfUnits m → props_of (written m) ≡ Ok m
