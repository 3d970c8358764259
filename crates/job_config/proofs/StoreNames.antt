-- The names of the stores, a key at a time.
use Rattle.std.proofs.Common.{ℕ, ◌≡◌, ◌+◌, ◌≤◌, List, [], ◌∷◌, length, drop, slice_get, false, cond, Option, Some, None, Ok, Err, refl, sym, ◌∙◌, ap}
use Rattle.std.proofs.lemmas.List.{drop_all}
use Rattle.std.specs.List.{find, filter_map, fold, cons_option}
use Rattle.std.specs.Ordering.{nat_cmp}
use Rattle.std.specs.Cmp.Lexicographic.{slice_cmp}
use Rattle.std.specs.FinMap as map
use Rattle.std.specs.BTreeSet.{insert_key}
use Rattle.props_text.specs.Pairs.{Props}
use Rattle.config_values.specs.declared.faults.What.TheVariants.{BadName}
use Rattle.job_config.specs.declared.rows.RowFault.{RowFault}
use Rattle.job_config.specs.declared.rows.RowFault.TheVariants.{Bad, NoMemory}
use Rattle.job_config.specs.Outcome.{FailsRow}
use Rattle.config_values.specs.Lists.{in_order}
use Rattle.job_config.specs.Stores.{store_of, is_misnamed, unless_misnamed, store_names}
use Rattle.job_config.specs.Parts.{with_store, PutsStore}
use Rattle.job_config.proofs.Places.{key_at}

pub find_more : (ks : List (List ℕ)) (i : ℕ) (key : List ℕ) (w : Option (List ℕ)) → drop i ks ≡ key ∷ drop (i + 1) ks → is_misnamed key ≡ false
    → find is_misnamed (drop i ks) ≡ w → find is_misnamed (drop (i + 1) ks) ≡ w
find_more ks i key w at good is =
    sym (ap (λ b. cond b (Some key) (find is_misnamed (drop (i + 1) ks))) good) ∙ sym (ap (find is_misnamed) at) ∙ is

abbrev put : List (List ℕ) → List ℕ → List (List ℕ)
put names name = insert_key (slice_cmp nat_cmp) names name

with_or_without : (o : Option (List ℕ)) (old : List (List ℕ)) (rest : List (List ℕ)) → fold put (with_store o old) rest ≡ fold put old (cons_option o rest)
with_or_without None old rest = refl
with_or_without (Some name) old rest = refl

pub fold_more : (ks : List (List ℕ)) (i : ℕ) (key : List ℕ) (old new w : List (List ℕ)) → drop i ks ≡ key ∷ drop (i + 1) ks → new ≡ with_store (store_of key) old
    → fold put old (filter_map store_of (drop i ks)) ≡ w → fold put new (filter_map store_of (drop (i + 1) ks)) ≡ w
fold_more ks i key old new w at is was =
    ap (λ ns. fold put ns (filter_map store_of (drop (i + 1) ks))) is
    ∙ with_or_without (store_of key) old (filter_map store_of (drop (i + 1) ks))
    ∙ sym (ap (λ xs. fold put old (filter_map store_of xs)) at) ∙ was

bad_found : (p : Props) (key : List ℕ) → find is_misnamed (map.keys p) ≡ Some key → store_names p ≡ Err (key, BadName)
unfolding store_names
bad_found p key h = ap (λ o. unless_misnamed o (in_order (filter_map store_of (map.keys p)))) h

none_found : (p : Props) (names : List (List ℕ)) → find is_misnamed (map.keys p) ≡ None → names ≡ in_order (filter_map store_of (map.keys p)) → store_names p ≡ Ok names
unfolding store_names
none_found p names h is = ap (λ o. unless_misnamed o (in_order (filter_map store_of (map.keys p)))) h ∙ ap Ok (sym is)

-- a misnamed key is the first
pub names_fail : (p : Props) (i : ℕ) (key value : List ℕ) (old new : List (List ℕ)) (fault : RowFault) → Some (key, value) ≡ slice_get (map.entries p) i
    → find is_misnamed (drop i (map.keys p)) ≡ find is_misnamed (map.keys p) → PutsStore key old new (Err fault) → FailsRow fault (store_names p)
names_fail p i key value old new NoMemory at first put = tt
names_fail p i key value old new (Bad k what) at first put =
    bad_found p key (sym first ∙ ap (find is_misnamed) (key_at (map.entries p) i key value at) ∙ ap (λ b. cond b (Some key) (find is_misnamed (drop (i + 1) (map.keys p)))) put.0)
    ∙ ap Err (let same : (key, BadName) ≡ (k, what) = cc in same)

pub names_end : (p : Props) (i : ℕ) (old : List (List ℕ)) → length (map.keys p) ≤ i
    → find is_misnamed (drop i (map.keys p)) ≡ find is_misnamed (map.keys p)
    → fold put old (filter_map store_of (drop i (map.keys p))) ≡ in_order (filter_map store_of (map.keys p)) → store_names p ≡ Ok old
names_end p i old h first names =
    let none : drop i (map.keys p) ≡ [] = drop_all i (map.keys p) h in
    none_found p old (sym first ∙ ap (find is_misnamed) none) (sym (ap (λ xs. fold put old (filter_map store_of xs)) none) ∙ names)
