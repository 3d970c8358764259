-- Names in order of their bytes rise.
use Rattle.std.proofs.Common.{◌≡◌, ℕ, List, [], ◌∷◌, Option, Some, None, Ok, Ordering, Less, Equal, Greater, refl, ◌∙◌, ap}
use Rattle.std.proofs.lemmas.Cmp.{nat_list_cmp_total}
use Rattle.std.specs.List.{AllByRecursion, fold}
use Rattle.std.specs.List.Sorted.{IsStrictlySortedBy}
use Rattle.std.specs.Ordering.{nat_cmp, match_ordering, ordering_reverse}
use Rattle.std.specs.Cmp.Lexicographic.{slice_cmp}
use Rattle.std.specs.BTreeSet.{insert_key}
use Rattle.job_config.specs.Bounds.{AreRising}
use Rattle.config_values.specs.Lists.{in_order, inputs}
use Rattle.job_config.proofs.Topics.{each_insert, names_in_hold}

abbrev IsBefore : List ℕ → List ℕ → Type 0
IsBefore x y = slice_cmp nat_cmp x y ≡ Less

-- a name comes before what comes behind the next one
before_all : (name x : List ℕ) (xs : List (List ℕ)) → IsBefore name x → AllByRecursion (IsBefore x) xs → AllByRecursion (IsBefore name) xs
before_all name x [] first all = tt
before_all name x (y ∷ ys) first all = (nat_list_cmp_total.trans name x y first all.0, before_all name x ys first all.1)

rises_with : (names : List (List ℕ)) (name : List ℕ) → AreRising names → AreRising (insert_key (slice_cmp nat_cmp) names name)
unfolding IsStrictlySortedBy
rises_with [] name all = (tt, tt)
rises_with (x ∷ xs) name all = by (slice_cmp nat_cmp name x) refl (rises_with xs name all.1)
  where
    by : (r : Ordering) → slice_cmp nat_cmp name x ≡ r → AreRising (insert_key (slice_cmp nat_cmp) xs name)
        → AreRising (match_ordering r (name ∷ x ∷ xs) (x ∷ xs) (x ∷ insert_key (slice_cmp nat_cmp) xs name))
    by Less is rest = ((is, before_all name x xs is all.0), all)
    by Equal is rest = all
    by Greater is rest = (each_insert (IsBefore x) xs name all.0 (nat_list_cmp_total.antisymm x name ∙ ap ordering_reverse is), rest)

all_rise : (names done : List (List ℕ)) → AreRising done → AreRising (fold (insert_key (slice_cmp nat_cmp)) done names)
all_rise [] done begun = begun
all_rise (x ∷ xs) done begun = all_rise xs (insert_key (slice_cmp nat_cmp) done x) (rises_with done x begun)

pub in_order_rises : (names : List (List ℕ)) → AreRising (in_order names)
unfolding in_order IsStrictlySortedBy
in_order_rises names = all_rise names [] tt

pub inputs_rise : (most : ℕ) (t : Option (List ℕ)) (found : List (List ℕ)) → inputs most t ≡ Ok found → AreRising found
unfolding inputs
inputs_rise most None found is = absurd cc
inputs_rise most (Some t) found is = names_in_hold AreRising in_order in_order_rises most t found is
