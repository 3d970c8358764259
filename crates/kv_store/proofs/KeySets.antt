-- A set of keys, by the list of them.
use Rattle.std.proofs.Common.{◌≡◌, ℕ, Bool, true, false, cond, ◌||◌, List, [], ◌∷◌, map, length, Option, Some, None, is_some, refl, ap, sym, ◌∙◌, subst, suc}
use Rattle.std.specs.Ordering.{nat_cmp}
use Rattle.std.specs.Cmp.{eq_by_cmp_equiv}
use Rattle.std.specs.Cmp.Lexicographic.{slice_cmp, nat_list_cmp_total}
use Rattle.std.specs.List.{list_any, AllByRecursion}
use Rattle.std.specs.List.Sorted.{IsStrictlySortedBy}
use Rattle.std.specs.Map.{lookup, keys_of}
use Rattle.std.specs.BTreeMap.{is_at}
use Rattle.std.specs.FinMap as fin
use Rattle.std.specs.FinMap.{same_map, get-insert, get-remove, get-empty, len-entries, contains_key-keys}
use Rattle.kv_store.specs.Tracked.{Keys, no_keys, is_in, with_key, without_key, marked, set_of}
use Rattle.kv_store.proofs.Trees.{get-tree, entries-from_entries}
use Rattle.kv_store.proofs.Updates.{same_key, same_key-itself, bytes_tell_apart}

one_unit : (x y : Option (Unit {0})) → is_some x ≡ is_some y → x ≡ y
one_unit None None e = refl
one_unit None (Some u) e = absurd (subst (λ b. cond b ⊥ (Unit {0})) e tt)
one_unit (Some u) None e = absurd (subst (λ b. cond b (Unit {0}) ⊥) e tt)
one_unit (Some u) (Some v) e = refl

pub same_keys : (d e : Keys) → ((q : List ℕ) → is_in d q ≡ is_in e q) → d ≡ e
same_keys d e h = same_map nat_list_cmp_total bytes_tell_apart d e (λ q. one_unit _ _ (h q))

is_some-cond : (b : Bool) (x y : Option (Unit {0})) → is_some (cond b x y) ≡ cond b (is_some x) (is_some y)
is_some-cond true x y = refl
is_some-cond false x y = refl

pub is_in-with_key : (d : Keys) (k q : List ℕ) → is_in (with_key d k) q ≡ cond (same_key q k) true (is_in d q)
is_in-with_key d k q = ap is_some (get-insert nat_list_cmp_total d k tt q) ∙ is_some-cond (same_key q k) (Some tt) (fin.get d q)

pub is_in-without_key : (d : Keys) (k q : List ℕ) → is_in (without_key d k) q ≡ cond (same_key q k) false (is_in d q)
is_in-without_key d k q = ap is_some (get-remove nat_list_cmp_total d k q) ∙ is_some-cond (same_key q k) None (fin.get d q)

pub is_in-no_keys : (q : List ℕ) → is_in no_keys q ≡ false
is_in-no_keys q = ap is_some (get-empty (slice_cmp nat_cmp) q)

-- ---- by the list
abbrev pub has : List ℕ → List (List ℕ) → Bool
has q ks = list_any (is_at (slice_cmp nat_cmp q)) ks

some_or : (b : Bool) (x : Option (Unit {0})) → is_some (cond b (Some tt) x) ≡ (b || is_some x)
some_or true x = refl
some_or false x = refl

lookup-marked : (q : List ℕ) (ks : List (List ℕ)) → is_some (lookup (is_at (slice_cmp nat_cmp q)) (marked ks)) ≡ has q ks
lookup-marked q [] = refl
lookup-marked q (k ∷ ks) = some_or (is_at (slice_cmp nat_cmp q) k) (lookup (is_at (slice_cmp nat_cmp q)) (marked ks)) ∙ ap (λ b. is_at (slice_cmp nat_cmp q) k || b) (lookup-marked q ks)

pub is_in-set_of : (ks : List (List ℕ)) (q : List ℕ) → is_in (set_of ks) q ≡ has q ks
is_in-set_of ks q = ap is_some (get-tree nat_list_cmp_total (marked ks) q) ∙ lookup-marked q ks

keys_of-marked : (ks : List (List ℕ)) → keys_of (marked ks) ≡ ks
keys_of-marked [] = refl
keys_of-marked (k ∷ ks) = ap (λ t. k ∷ t) (keys_of-marked ks)

entries-set_of : (ks : List (List ℕ)) → IsStrictlySortedBy (slice_cmp nat_cmp) ks → fin.entries (set_of ks) ≡ marked ks
entries-set_of ks h = entries-from_entries nat_list_cmp_total bytes_tell_apart (marked ks) (subst (IsStrictlySortedBy (slice_cmp nat_cmp)) (sym (keys_of-marked ks)) h)

pub keys-set_of : (ks : List (List ℕ)) → IsStrictlySortedBy (slice_cmp nat_cmp) ks → fin.keys (set_of ks) ≡ ks
keys-set_of ks h = ap (map (λ e. e.0)) (entries-set_of ks h) ∙ keys_of-marked ks

length-marked : (ks : List (List ℕ)) → length (marked ks) ≡ length ks
length-marked [] = refl
length-marked (k ∷ ks) = ap suc (length-marked ks)

pub len-set_of : (ks : List (List ℕ)) → IsStrictlySortedBy (slice_cmp nat_cmp) ks → fin.len (set_of ks) ≡ length ks
len-set_of ks h = len-entries (set_of ks) ∙ ap length (entries-set_of ks h) ∙ length-marked ks

turned : (k q : List ℕ) → is_at (slice_cmp nat_cmp k) q ≡ same_key q k
turned k q = (eq_by_cmp_equiv nat_list_cmp_total).symm k q

pub set_of-with_key : (ks ms : List (List ℕ)) (k : List ℕ) → ((q : List ℕ) → has q ms ≡ cond (is_at (slice_cmp nat_cmp k) q) true (has q ks)) → set_of ms ≡ with_key (set_of ks) k
set_of-with_key ks ms k h = same_keys _ _ (λ q. is_in-set_of ms q ∙ h q ∙ ap (λ b. cond b true (has q ks)) (turned k q)
    ∙ ap (cond (same_key q k) true) (sym (is_in-set_of ks q)) ∙ sym (is_in-with_key (set_of ks) k q))

pub set_of-without_key : (ks ms : List (List ℕ)) (k : List ℕ) → ((q : List ℕ) → has q ms ≡ cond (is_at (slice_cmp nat_cmp k) q) false (has q ks)) → set_of ms ≡ without_key (set_of ks) k
set_of-without_key ks ms k h = same_keys _ _ (λ q. is_in-set_of ms q ∙ h q ∙ ap (λ b. cond b false (has q ks)) (turned k q)
    ∙ ap (cond (same_key q k) false) (sym (is_in-set_of ks q)) ∙ sym (is_in-without_key (set_of ks) k q))

-- what holds of each key of the set holds along the list of them
or-true : (b : Bool) → (b || true) ≡ true
or-true true = refl
or-true false = refl

all_from_has : (P : List ℕ → Type 0) (ks : List (List ℕ)) → ((q : List ℕ) → has q ks ≡ true → P q) → AllByRecursion P ks
all_from_has P [] h = tt
all_from_has P (k ∷ ks) h = (
  h k (ap (λ b. b || has k ks) (same_key-itself k)),
  all_from_has P ks (λ q e. h q (ap (λ b. is_at (slice_cmp nat_cmp q) k || b) e ∙ or-true _)),
)

pub all_keys : (P : List ℕ → Type 0) (d : Keys) → ((q : List ℕ) → is_in d q ≡ true → P q) → AllByRecursion P (fin.keys d)
all_keys P d h = all_from_has P (fin.keys d) (λ q e. h q (contains_key-keys d q ∙ e))
