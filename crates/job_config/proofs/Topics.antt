-- The names in a list are streams' names, as many as they may be.
use Rattle.std.proofs.Common.{◌≡◌, ℕ, List, [], ◌∷◌, ◌++◌, length, Bool, true, false, cond, nat_le, Option, Some, None, Ok, Err, Ordering, Less, Equal, Greater, refl, subst, arith}
use Rattle.std.proofs.lemmas.Bool.Decides.{nat_tests}
use Rattle.std.specs.List.{AllByRecursion, fold, list_all, list_any}
use Rattle.std.specs.Ordering.{nat_cmp, match_ordering}
use Rattle.std.specs.Cmp.Lexicographic.{slice_cmp}
use Rattle.std.specs.BTreeSet.{insert_key}
use Rattle.samza_model.specs.Names.{is_topic}
use Rattle.config_values.specs.declared.faults.What.TheVariants.{OutOfRange, BadName}
use Rattle.config_values.specs.Values.{same}
use Rattle.config_values.specs.Lists.{entries_of, with_name, each_once, in_order, counted, names_in, inputs, outputs}
use Rattle.job_config.specs.Bounds.{AreTopics}

module _ (P : List ℕ → Type 0) where
  abbrev Each : List (List ℕ) → Type 0
  Each = AllByRecursion P

  pub each_insert : (names : List (List ℕ)) (name : List ℕ) → Each names → P name → Each (insert_key (slice_cmp nat_cmp) names name)
  each_insert [] name all one = (one, tt)
  each_insert (x ∷ xs) name all one = by (slice_cmp nat_cmp name x) (each_insert xs name all.1 one)
    where
      by : (r : Ordering) → Each (insert_key (slice_cmp nat_cmp) xs name) → Each (match_ordering r (name ∷ x ∷ xs) (x ∷ xs) (x ∷ insert_key (slice_cmp nat_cmp) xs name))
      by Less rest = (one, all)
      by Equal rest = all
      by Greater rest = (all.0, rest)

  pub each_in_order : (names done : List (List ℕ)) → Each names → Each done → Each (fold (insert_key (slice_cmp nat_cmp)) done names)
  each_in_order [] done all begun = begun
  each_in_order (x ∷ xs) done all begun = each_in_order xs (insert_key (slice_cmp nat_cmp) done x) all.1 (each_insert done x begun all.0)

  each_behind : (names : List (List ℕ)) (name : List ℕ) → Each names → P name → Each (names ++ name ∷ [])
  each_behind [] name all one = (one, tt)
  each_behind (x ∷ xs) name all one = (all.0, each_behind xs name all.1 one)

  each_with : (b : Bool) (names : List (List ℕ)) (name : List ℕ) → Each names → P name → Each (cond b names (names ++ name ∷ []))
  each_with true names name all one = all
  each_with false names name all one = each_behind names name all one

  pub each_kept_once : (names done : List (List ℕ)) → Each names → Each done → Each (fold with_name done names)
  each_kept_once [] done all begun = begun
  each_kept_once (x ∷ xs) done all begun = each_kept_once xs (with_name done x) all.1 (each_with (list_any (λ n. same n x) done) done x begun all.0)

each_passes : (p : List ℕ → Bool) (names : List (List ℕ)) → list_all p names ≡ true → AllByRecursion (λ n. p n ≡ true) names
each_passes p [] h = tt
each_passes p (x ∷ xs) h = (grind (arith, h), each_passes p xs (grind (arith, h)))

abbrev IsTopic : List ℕ → Type 0
IsTopic n = is_topic n ≡ true

counted_are : (most : ℕ) (names found : List (List ℕ)) → AllByRecursion IsTopic names → counted most names ≡ Ok found → AreTopics most found
counted_are most [] found all is = absurd cc
counted_are most (n ∷ ns) found all is = by (nat_le (length (n ∷ ns)) most) refl is
  where
    by : (b : Bool) → nat_le (length (n ∷ ns)) most ≡ b → cond b (Ok (n ∷ ns)) (Err OutOfRange) ≡ Ok found → AreTopics most found
    by true within is' =
        let same : n ∷ ns ≡ found = cc is' in
        subst (AreTopics most) same (record { some = omega arith; few = grind (arith, nat_tests, within); each = all })
    by false over is' = absurd cc

names_in_are : (order : List (List ℕ) → List (List ℕ)) → ((names : List (List ℕ)) → AllByRecursion IsTopic names → AllByRecursion IsTopic (order names))
    → (most : ℕ) (t : List ℕ) (found : List (List ℕ)) → names_in order most t ≡ Ok found → AreTopics most found
names_in_are order keeps most t found is = by (list_all is_topic (entries_of t)) refl is
  where
    by : (b : Bool) → list_all is_topic (entries_of t) ≡ b → cond b (counted most (order (entries_of t))) (Err BadName) ≡ Ok found → AreTopics most found
    by true good is' = counted_are most (order (entries_of t)) found (keeps (entries_of t) (each_passes is_topic (entries_of t) good)) is'
    by false bad is' = absurd cc

counted_same : (most : ℕ) (names found : List (List ℕ)) → counted most names ≡ Ok found → names ≡ found
counted_same most [] found is = absurd cc
counted_same most (n ∷ ns) found is = by (nat_le (length (n ∷ ns)) most) is
  where
    by : (b : Bool) → cond b (Ok (n ∷ ns)) (Err OutOfRange) ≡ Ok found → n ∷ ns ≡ found
    by true is' = cc is'
    by false is' = absurd cc

-- what holds of names that are taken in this order holds of those of a list
pub names_in_hold : (P : List (List ℕ) → Type 0) (order : List (List ℕ) → List (List ℕ)) → ((names : List (List ℕ)) → P (order names))
    → (most : ℕ) (t : List ℕ) (found : List (List ℕ)) → names_in order most t ≡ Ok found → P found
names_in_hold P order holds most t found is = by (list_all is_topic (entries_of t)) is
  where
    by : (b : Bool) → cond b (counted most (order (entries_of t))) (Err BadName) ≡ Ok found → P found
    by true is' = subst P (counted_same most (order (entries_of t)) found is') (holds (entries_of t))
    by false is' = absurd cc

pub inputs_are : (most : ℕ) (t : Option (List ℕ)) (found : List (List ℕ)) → inputs most t ≡ Ok found → AreTopics most found
unfolding inputs in_order
inputs_are most None found is = absurd cc
inputs_are most (Some t) found is = names_in_are in_order (λ names all. each_in_order IsTopic names [] all tt) most t found is

pub outputs_are : (most : ℕ) (t : Option (List ℕ)) (found : List (List ℕ)) → outputs most t ≡ Ok found → AreTopics most found
unfolding outputs each_once
outputs_are most None found is = absurd cc
outputs_are most (Some t) found is = names_in_are each_once (λ names all. each_kept_once IsTopic names [] all tt) most t found is
