-- A map as the list of its pairs.
use Rattle.std.specs.Prelude.{ℕ, Bool, List, map}
use Rattle.std.specs.Ordering.{nat_cmp}
use Rattle.std.specs.Cmp.Lexicographic.{slice_cmp}
use Rattle.std.specs.FinMap.{from_sorted, is_sorted}
use Rattle.std.specs.declared.vec.Vec.{Vec}
use Rattle.props_text.specs.declared.pairs.Pair.{Pair}
use Rattle.props_text.specs.Pairs.{Props}

-- the pairs, as two lists each
abbrev pub pairs_of : List Pair → List (List ℕ × List ℕ)
pairs_of ps = map (λ p. (p.key.items, p.value.items)) ps

-- the keys rise strictly
abbrev pub rises : List (List ℕ × List ℕ) → Bool
rises es = is_sorted (slice_cmp nat_cmp) es

abbrev pub props_from : List (List ℕ × List ℕ) → Props
props_from es = from_sorted es

-- the entries of a tree, as two lists each
abbrev pub entries_of : {A : Type 0} → List (Vec ℕ A × Vec ℕ A) → List (List ℕ × List ℕ)
entries_of es = map (λ e. (e.0.items, e.1.items)) es
