-- A step of the search for a key, which a private function promises.
use Rattle.std.specs.Prelude.{ℕ, ◌≡◌, ◌<◌, T, List, length, Some}
use Rattle.std.specs.Ordering.{nat_cmp}
use Rattle.std.specs.Cmp.Lexicographic.{slice_cmp}
use Rattle.std.specs.FinMap.{find}
use Rattle.props_text.specs.declared.pairs.Pair.{Pair}
use Rattle.props_text.specs.declared.pairs.Half.{Half}
use Rattle.props_text.specs.declared.pairs.Half.TheVariants.{Found, In}
use Rattle.props_text.specs.Sorted.{pairs_of, rises}

-- the key's value, or fewer pairs, whose keys rise, that have the key if these have
abbrev pub IsHalf : List ℕ → List Pair → Half → Type 0
IsHalf q ps (Found value) = find (slice_cmp nat_cmp) q (pairs_of ps) ≡ Some value.now
IsHalf q ps (In half) = (find (slice_cmp nat_cmp) q (pairs_of ps) ≡ find (slice_cmp nat_cmp) q (pairs_of half.now)) × T (rises (pairs_of half.now)) × (length half.now < length ps)
