-- Pairs: what the logical lines of a text say.
use Rattle.std.specs.Prelude.{ℕ, zero, suc, Bool, false, cond, not, ◌==◌, ◌||◌, ◌&&◌, ◌+◌, ◌-◌, ◌*◌, nat_le, List, [], ◌∷◌, take, drop, Option, Some, None, Result, Ok, Err}
use Rattle.std.specs.Option.{option_and_then}
use Rattle.std.specs.List.{prefix_len}
use Rattle.std.specs.Ordering.{nat_cmp}
use Rattle.std.specs.Cmp.Lexicographic.{slice_cmp}
use Rattle.std.specs.FinMap as map
use Rattle.props_text.specs.declared.unit.Placed.{Placed}
use Rattle.props_text.specs.Lines.{is_white, natural_lines}
use Rattle.props_text.specs.Logical.{logical_lines}

-- a map from lists of 16-bit units to such lists, in the order of the keys' units
abbrev pub Props : Type 0
Props = map.FinMap (slice_cmp nat_cmp) (List ℕ)

-- what is read, or the natural line of the first malformed escape
infixl 10 ◌>>=◌
abbrev pub ◌>>=◌ : {A B : Type 0} → Result A ℕ → (A → Result B ℕ) → Result B ℕ
(Ok x) >>= f = f x
(Err e) >>= f = Err e

-- = and :
abbrev pub is_mark : ℕ → Bool
is_mark c = c == 61 || c == 58

-- how long the key is: up to the first = : or white space that no backslash escapes. `escaped` says that a backslash stands before
abbrev pub ends_key : Bool → ℕ → Bool
ends_key escaped c = not escaped && (is_white c || is_mark c)

abbrev pub escapes_next : Bool → ℕ → Bool
escapes_next escaped c = not escaped && c == 92

unfoldable pub key_len : Bool → List Placed → ℕ
key_len escaped [] = 0
key_len escaped (p ∷ ps) =
    cond (ends_key escaped p.unit) 0 (key_len (escapes_next escaped p.unit) ps + 1)

abbrev pub skip_blank : List Placed → List Placed
skip_blank ps = drop (prefix_len (λ p. is_white p.unit) ps) ps

abbrev pub skip_mark : List Placed → List Placed
skip_mark [] = []
skip_mark (p ∷ ps) = cond (is_mark p.unit) ps (p ∷ ps)

abbrev pub hex_digit : ℕ → Option ℕ
hex_digit c =
    cond (nat_le 48 c && nat_le c 57) (Some (c - 48))
    (cond (nat_le 65 c && nat_le c 70) (Some (c - 55))
    (cond (nat_le 97 c && nat_le c 102) (Some (c - 87)) None))

-- the unit that four hexadecimal digits stand for
abbrev pub hex_unit : List Placed → Option ℕ
hex_unit (a ∷ b ∷ c ∷ d ∷ ps) =
    option_and_then (λ a. option_and_then (λ b. option_and_then (λ c. option_and_then (λ d. Some (16 * (16 * (16 * a + b) + c) + d))
    (hex_digit d.unit)) (hex_digit c.unit)) (hex_digit b.unit)) (hex_digit a.unit)
hex_unit _ = None

-- what a letter behind a backslash stands for
abbrev pub escape_of : ℕ → ℕ
escape_of c = cond (c == 116) 9 (cond (c == 110) 10 (cond (c == 114) 13 (cond (c == 102) 12 c)))

abbrev pub with_unit : ℕ → Result (List ℕ) ℕ → Result (List ℕ) ℕ
with_unit u r = r >>= λ us. Ok (u ∷ us)

-- The units that a text with escapes stands for, where the first `taken` units belong to the escape before them.
unfoldable pub unescaped : ℕ → List Placed → Result (List ℕ) ℕ
unescaped taken [] = Ok []
unescaped (suc taken) (p ∷ ps) = unescaped taken ps
unescaped zero (p ∷ []) = cond (p.unit == 92) (Ok []) (Ok (p.unit ∷ []))
unescaped zero (p ∷ q ∷ ps) =
    cond (p.unit == 92)
    (cond (q.unit == 117)
    (elim (hex_unit ps) [ None ↦ Err p.line | Some u ↦ with_unit u (unescaped 5 (q ∷ ps)) ])
    (with_unit (escape_of q.unit) (unescaped 1 (q ∷ ps))))
    (with_unit p.unit (unescaped 0 (q ∷ ps)))

-- The key, then white space, at most one = or :, white space again, and the value.
unfoldable pub pair_of : List Placed → Result (List ℕ × List ℕ) ℕ
pair_of line = do
  key ← unescaped 0 (take (key_len false line) line)
  value ← unescaped 0 (skip_blank (skip_mark (skip_blank (drop (key_len false line) line))))
  Ok (key, value)

-- The map with the pairs of these lines put in: a later key replaces an earlier one. A logical line that is empty after
-- all is no pair, where java.util.Properties makes it the pair of two empty texts.
unfoldable pub pairs_onto : Props → List (List Placed) → Result Props ℕ
pairs_onto m [] = Ok m
pairs_onto m ([] ∷ ls) = pairs_onto m ls
pairs_onto m ((p ∷ ps) ∷ ls) = pair_of (p ∷ ps) >>= λ pair. pairs_onto (map.insert m pair.0 pair.1) ls

-- What a text says: its pairs, or the natural line of its first malformed escape.
abbrev pub props_of : List ℕ → Result Props ℕ
props_of text = pairs_onto map.empty (logical_lines None 1 (natural_lines text))
