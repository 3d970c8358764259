-- Sets of keys, by lists of them.
use Rattle.std.proofs.Common.{◌≡◌, ℕ, Bool, true, false, cond, ◌||◌, List, [], ◌∷◌, ◌++◌, refl, ap, sym, ◌∙◌, subst}
use Rattle.std.specs.Ordering.{nat_cmp}
use Rattle.std.specs.Cmp.{eq_by_cmp_equiv}
use Rattle.std.specs.Cmp.Lexicographic.{slice_cmp, nat_list_cmp_total}
use Rattle.std.specs.List.{AllByRecursion}
use Rattle.std.specs.List.Sorted.{IsStrictlySortedBy}
use Rattle.std.specs.BTreeMap.{is_at}
use Rattle.std.specs.FinMap as fin
use Rattle.kv_store.specs.Tracked.{is_in, set_of}
use Rattle.kv_store.proofs.Laws.{has, same_keys, is_in-set_of, keys-set_of, all_keys, same_key, equal_from_same_key}

-- lists with the same keys are of one set
pub set_of-same : (ks ms : List (List ℕ)) → ((q : List ℕ) → has q ks ≡ has q ms) → set_of ks ≡ set_of ms
set_of-same ks ms h = same_keys (set_of ks) (set_of ms) (λ q. is_in-set_of ks q ∙ h q ∙ sym (is_in-set_of ms q))

or_last : (b c : Bool) → cond b true c ≡ (c || b)
or_last true true = refl
or_last true false = refl
or_last false true = refl
or_last false false = refl

or-false : (b : Bool) → (b || false) ≡ b
or-false true = refl
or-false false = refl

or_assoc : (a b c : Bool) → (a || (b || c)) ≡ ((a || b) || c)
or_assoc true b c = refl
or_assoc false b c = refl

has-push : (q : List ℕ) (ks : List (List ℕ)) (k : List ℕ) → has q (ks ++ k ∷ []) ≡ (has q ks || same_key q k)
has-push q [] k = or-false (same_key q k)
has-push q (x ∷ ks) k = ap (λ b. same_key q x || b) (has-push q ks k) ∙ or_assoc (same_key q x) (has q ks) (same_key q k)

-- a tree of the list's keys with one more key is a tree of the list with that key behind it
pub set_of-push : (tree next ks : List (List ℕ)) (k : List ℕ) → set_of tree ≡ set_of ks
    → ((q : List ℕ) → has q next ≡ cond (is_at (slice_cmp nat_cmp k) q) true (has q tree))
    → set_of next ≡ set_of (ks ++ k ∷ [])
set_of-push tree next ks k same h = set_of-same next (ks ++ k ∷ []) (λ q. h q
    ∙ ap (λ b. cond b true (has q tree)) ((eq_by_cmp_equiv nat_list_cmp_total).symm k q)
    ∙ ap (cond (same_key q k) true) (sym (is_in-set_of tree q) ∙ ap (λ d. is_in d q) same ∙ is_in-set_of ks q)
    ∙ or_last (same_key q k) (has q ks) ∙ sym (has-push q ks k))

pub keys-set_of_none : fin.keys (set_of []) ≡ []
unfolding IsStrictlySortedBy
keys-set_of_none = keys-set_of [] tt

-- ---- what holds of each key of a list holds of each of its set
all_has : (P : List ℕ → Type 0) (ks : List (List ℕ)) (q : List ℕ) → AllByRecursion P ks → has q ks ≡ true → P q
all_has P [] q h e = absurd (subst (λ b. cond b ⊥ (Unit {0})) e tt)
all_has P (k ∷ ks) q h e = elim (same_key q k) as (λ b. same_key q k ≡ b → (b || has q ks) ≡ true → P q) [
  | true ↦ λ s _. subst P (sym (equal_from_same_key q k s)) h.0
  | false ↦ λ s f. all_has P ks q h.1 f
] refl e

pub all_set_of : (P : List ℕ → Type 0) (ks : List (List ℕ)) → AllByRecursion P ks → AllByRecursion P (fin.keys (set_of ks))
all_set_of P ks h = all_keys P (set_of ks) (λ q e. all_has P ks q h (sym (is_in-set_of ks q) ∙ e))
