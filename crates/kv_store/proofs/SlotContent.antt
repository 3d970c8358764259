-- The content of the slots.
use Rattle.std.proofs.Common.{◌≡◌, ℕ, ◌+◌, ◌-◌, ◌<◌, ◌≤◌, Bool, true, false, not, cond, T, ◌&&◌, List, [], ◌∷◌, length, Option, Some, None, is_some, refl, ap, sym, ◌∙◌, subst, is_eq, is_lt, is_le, Ordering, Less, Equal, Greater, arith, filter, find, true≢false, zero, suc}
use Rattle.std.specs.Ordering.{nat_cmp, ordering_reverse}
use Rattle.std.specs.Option.{option_flatten}
use Rattle.std.specs.Cmp.Lexicographic.{slice_cmp, nat_list_cmp_total}
use Rattle.std.specs.FinMap as map
use Rattle.std.specs.FinMap.{is_sorted, get-entries, get-empty, get-insert, get-remove, len-insert, len-remove, len-entries, len-empty, entries-insert, entries_sorted, empty_of_len}
use Rattle.std.specs.FinMap.Entries.{below_all, put, by_order}
use Rattle.std.specs.BTreeMap.Range.{range_contains}
use Rattle.std.specs.declared.ops.Bound.TheVariants.{Included, Unbounded}
use Rattle.samza_model.specs.Content.{Content, nothing_stored, updated, next_pair}
use Rattle.kv_store.specs.Slots.{Slots, left_by, content_of, with_slot}
use Rattle.std.specs.List.Sorted.{IsStrictlySortedBy}
use Rattle.std.specs.Map.{lookup, keys_of}
use Rattle.std.specs.BTreeMap.{is_at}
use Rattle.kv_store.proofs.Trees.{get-tree, from_entries-insert, from_entries-remove, entries-from_entries}
use Rattle.kv_store.proofs.Updates.{updated-get, same_key, same_content, get-updated, bytes_tell_apart}

-- the entry, if it has a value, and else the other
abbrev pub live_or : List ℕ → Option (List ℕ) → Option (List ℕ × List ℕ) → Option (List ℕ × List ℕ)
live_or k (Some v) other = Some (k, v)
live_or k None other = other

-- the first entry that has a value
abbrev pub first_live : List (List ℕ × Option (List ℕ)) → Option (List ℕ × List ℕ)
first_live [] = None
first_live (e ∷ es) = live_or e.0 e.1 (first_live es)

flat_by : (b : Bool) (w : Option (List ℕ)) (x : Option (Option (List ℕ))) → cond b w (option_flatten x) ≡ option_flatten (cond b (Some w) x)
flat_by true w x = refl
flat_by false w x = refl

get-left_by : (es : List (List ℕ × Option (List ℕ))) (q : List ℕ) → map.get (left_by es) q ≡ option_flatten (map.find (slice_cmp nat_cmp) q es)
get-left_by [] q = get-empty (slice_cmp nat_cmp) q
get-left_by (e ∷ es) q = get-updated (left_by es) e.0 e.1 q ∙ ap (cond (same_key q e.0) e.1) (get-left_by es q)
    ∙ flat_by (same_key q e.0) e.1 (map.find (slice_cmp nat_cmp) q es)

pub get-content_of : (s : Slots) (q : List ℕ) → map.get (content_of s) q ≡ option_flatten (map.get s q)
unfolding content_of
get-content_of s q = get-left_by (map.entries s) q ∙ ap option_flatten (sym (get-entries s q))

pub content_of-insert : (s : Slots) (k : List ℕ) (w : Option (List ℕ)) → content_of (map.insert s k w) ≡ updated (content_of s) k w
content_of-insert s k w = same_content _ _ (λ q. get-content_of (map.insert s k w) q
    ∙ ap option_flatten (get-insert nat_list_cmp_total s k w q) ∙ sym (flat_by (same_key q k) w (map.get s q))
    ∙ ap (cond (same_key q k) w) (sym (get-content_of s q)) ∙ sym (get-updated (content_of s) k w q))

gone_by : (b : Bool) (x : Option (Option (List ℕ))) → option_flatten (cond b None x) ≡ cond b None (option_flatten x)
gone_by true x = refl
gone_by false x = refl

pub content_of-remove : (s : Slots) (k : List ℕ) → content_of (map.remove s k) ≡ updated (content_of s) k None
content_of-remove s k = same_content _ _ (λ q. get-content_of (map.remove s k) q
    ∙ ap option_flatten (get-remove nat_list_cmp_total s k q) ∙ gone_by (same_key q k) (map.get s q)
    ∙ ap (cond (same_key q k) None) (sym (get-content_of s q)) ∙ sym (get-updated (content_of s) k None q))

pub content_of-empty : content_of map.empty ≡ nothing_stored
content_of-empty = same_content _ _ (λ q. get-content_of map.empty q ∙ ap option_flatten (get-empty (slice_cmp nat_cmp) q) ∙ sym (get-empty (slice_cmp nat_cmp) q))

-- ---- how many keys have a value
abbrev pub held : Option (List ℕ) → ℕ
held o = cond (is_some o) 1 0

counted_insert : (b : Bool) (n m : ℕ) → m ≡ cond b n (n + 1) → m + cond b 1 0 ≡ n + 1
counted_insert true n m e = omega arith
counted_insert false n m e = omega arith

counted_remove : (b : Bool) (n m : ℕ) → (b ≡ true → 0 < n) → m ≡ cond b (n - 1) n → m + cond b 1 0 ≡ n
counted_remove true n m some e = let h : 0 < n = some refl in omega arith
counted_remove false n m some e = omega arith

-- a key that is there is counted
none_in_empty : (c : Content) (k : List ℕ) → c ≡ map.empty → is_some (map.get c k) ≡ true → ⊥
none_in_empty c k e h = true≢false (sym h ∙ ap is_some (ap (λ d. map.get d k) e ∙ get-empty (slice_cmp nat_cmp) k))

pub counted_one : (c : Content) (k : List ℕ) → is_some (map.get c k) ≡ true → 0 < map.len c
counted_one c k h = elim (map.len c) as (λ n. map.len c ≡ n → 0 < n) [
  | zero ↦ λ e. absurd (none_in_empty c k (empty_of_len c e) h)
  | suc n ↦ λ e. omega arith
] refl

pub len-updated : (c : Content) (k : List ℕ) (w : Option (List ℕ)) → map.len (updated c k w) + held (map.get c k) ≡ map.len c + held w
len-updated c k (Some v) = counted_insert (is_some (map.get c k)) (map.len c) _ (len-insert nat_list_cmp_total c k v)
len-updated c k None =
    let e = counted_remove (is_some (map.get c k)) (map.len c) _ (counted_one c k) (len-remove nat_list_cmp_total c k) in omega arith

one_more : (b c : Bool) (m n l : ℕ) → m + cond c 1 0 ≡ n + cond b 1 0 → n ≤ l → m ≤ suc l
one_more true true m n l e h = omega arith
one_more true false m n l e h = omega arith
one_more false true m n l e h = omega arith
one_more false false m n l e h = omega arith

len-left_by : (es : List (List ℕ × Option (List ℕ))) → map.len (left_by es) ≤ length es
len-left_by [] = rw len-empty (omega arith)
len-left_by (e ∷ es) = one_more (is_some e.1) (is_some (map.get (left_by es) e.0)) _ _ _ (len-updated (left_by es) e.0 e.1) (len-left_by es)

pub len-content_of : (s : Slots) → map.len (content_of s) ≤ map.len s
unfolding content_of
len-content_of s = subst (λ n. map.len (left_by (map.entries s)) ≤ n) (sym (len-entries s)) (len-left_by (map.entries s))

-- ---- the next pair
-- the entries that have a value
abbrev live_and : List ℕ → Option (List ℕ) → List (List ℕ × List ℕ) → List (List ℕ × List ℕ)
live_and k (Some v) es = (k, v) ∷ es
live_and k None es = es

abbrev lively : List (List ℕ × Option (List ℕ)) → List (List ℕ × List ℕ)
lively [] = []
lively (e ∷ es) = live_and e.0 e.1 (lively es)

first : (a b : Bool) → T (a && b) → T a
first true b p = tt
first false b p = p

second : (a b : Bool) → T (a && b) → T b
second true b p = p
second false b p = absurd p

both : (a b : Bool) → T a → T b → T (a && b)
both true b p q = q
both false b p q = absurd p

below_lively : (k : List ℕ) (es : List (List ℕ × Option (List ℕ))) → T (below_all (slice_cmp nat_cmp) k es) → T (below_all (slice_cmp nat_cmp) k (lively es))
below_lively k [] h = tt
below_lively k (e ∷ es) h = step e.1 (below_lively k es (second _ _ h))
  where
    step : (w : Option (List ℕ)) → T (below_all (slice_cmp nat_cmp) k (lively es)) → T (below_all (slice_cmp nat_cmp) k (live_and e.0 w (lively es)))
    step (Some v) r = both _ _ (first _ _ h) r
    step None r = r

less : (r : Ordering) → T (is_lt r) → r ≡ Less
less Less p = refl
less Equal p = absurd p
less Greater p = absurd p

put_first : {X : Type 0} (k : List ℕ) (v : X) (es : List (List ℕ × X)) → T (below_all (slice_cmp nat_cmp) k es) → put (slice_cmp nat_cmp) k v es ≡ (k, v) ∷ es
put_first k v [] h = refl
put_first k v (e ∷ es) h = ap (λ r. by_order r ((k, v) ∷ e ∷ es) ((e.0, v) ∷ es) (e ∷ put (slice_cmp nat_cmp) k v es)) (less _ (first _ _ h))

find_below : {X : Type 0} (k : List ℕ) (es : List (List ℕ × X)) → T (below_all (slice_cmp nat_cmp) k es) → map.find (slice_cmp nat_cmp) k es ≡ None
find_below k [] h = refl
find_below k (e ∷ es) h = ap (λ r. cond (is_eq r) (Some e.1) (map.find (slice_cmp nat_cmp) k es)) (less _ (first _ _ h)) ∙ find_below k es (second _ _ h)

remove_absent : (c : Content) (k : List ℕ) → map.get c k ≡ None → updated c k None ≡ c
remove_absent c k e = ap (updated c k) (sym e) ∙ updated-get c k

no_length : {A : Type 0} (es : List A) → length es ≡ 0 → es ≡ []
no_length [] e = refl
no_length (x ∷ es) e = absurd (omega arith)

entries-empty : map.entries (map.empty {X = List ℕ} {R = slice_cmp nat_cmp}) ≡ []
entries-empty = no_length _ (sym (len-entries map.empty) ∙ len-empty (slice_cmp nat_cmp) (List ℕ))

entries-updated : (c : Content) (k : List ℕ) (w : Option (List ℕ)) (es : List (List ℕ × List ℕ)) → map.entries c ≡ es → T (below_all (slice_cmp nat_cmp) k es)
    → map.entries (updated c k w) ≡ live_and k w es
entries-updated c k (Some v) es rest h = entries-insert nat_list_cmp_total c k v ∙ ap (put (slice_cmp nat_cmp) k v) rest ∙ put_first k v es h
entries-updated c k None es rest h = ap map.entries (remove_absent c k (get-entries c k ∙ ap (map.find (slice_cmp nat_cmp) k) rest ∙ find_below k es h)) ∙ rest

entries-left_by : (es : List (List ℕ × Option (List ℕ))) → T (is_sorted (slice_cmp nat_cmp) es) → map.entries (left_by es) ≡ lively es
entries-left_by [] h = entries-empty
entries-left_by (e ∷ es) h = entries-updated (left_by es) e.0 e.1 (lively es) (entries-left_by es (second _ _ h)) (below_lively e.0 es (first _ _ h))

turn : (r s : Ordering) → s ≡ ordering_reverse r → not (is_lt s) ≡ is_le r
turn Less s e = ap (λ t. not (is_lt t)) e
turn Equal s e = ap (λ t. not (is_lt t)) e
turn Greater s e = ap (λ t. not (is_lt t)) e

abbrev pub from_key : List ℕ → List (List ℕ × Option (List ℕ)) → List (List ℕ × Option (List ℕ))
from_key key es = filter (λ e. range_contains (slice_cmp nat_cmp) (Included key) Unbounded e.0) es

first_live-step : (p : List ℕ → Bool) (k : List ℕ) (w : Option (List ℕ)) (b : Bool) (es : List (List ℕ × List ℕ)) (fs : List (List ℕ × Option (List ℕ)))
    → find (λ e. p e.0) es ≡ first_live fs → p k ≡ b → find (λ e. p e.0) (live_and k w es) ≡ first_live (cond (b && true) ((k, w) ∷ fs) fs)
first_live-step p k (Some v) true es fs rest h = ap (λ b. cond b (Some (k, v)) (find (λ e. p e.0) es)) h
first_live-step p k (Some v) false es fs rest h = ap (λ b. cond b (Some (k, v)) (find (λ e. p e.0) es)) h ∙ rest
first_live-step p k None true es fs rest h = rest
first_live-step p k None false es fs rest h = rest

first_live-from_key : (key : List ℕ) (es : List (List ℕ × Option (List ℕ))) → find (λ e. not (is_lt (slice_cmp nat_cmp e.0 key))) (lively es) ≡ first_live (from_key key es)
first_live-from_key key [] = refl
first_live-from_key key (e ∷ es) = first_live-step (λ k. not (is_lt (slice_cmp nat_cmp k key))) e.0 e.1 (is_le (slice_cmp nat_cmp key e.0)) (lively es) (from_key key es)
    (first_live-from_key key es) (turn (slice_cmp nat_cmp key e.0) (slice_cmp nat_cmp e.0 key) (nat_list_cmp_total.antisymm e.0 key))

pub next_pair-content_of : (s : Slots) (key : List ℕ) → next_pair (content_of s) key ≡ first_live (from_key key (map.entries s))
unfolding content_of
next_pair-content_of s key = ap (find (λ e. not (is_lt (slice_cmp nat_cmp e.0 key)))) (entries-left_by (map.entries s) (entries_sorted s)) ∙ first_live-from_key key (map.entries s)

-- ---- a tree of slots, by its entries
abbrev pub Entries : Type 0
Entries = List (List ℕ × Option (List ℕ))

abbrev pub slots_of : Entries → Slots
slots_of es = map.from_entries {R = slice_cmp nat_cmp} es

abbrev pub slot_at : List ℕ → Entries → Option (Option (List ℕ))
slot_at q es = lookup (is_at (slice_cmp nat_cmp q)) es

pub get-slots : (es : Entries) (s : Slots) (q : List ℕ) → slots_of es ≡ s → map.get s q ≡ slot_at q es
get-slots es s q view = ap (λ t. map.get t q) (sym view) ∙ get-tree nat_list_cmp_total es q

pub get-live : (es : Entries) (s : Slots) (q : List ℕ) (x : Option (Option (List ℕ))) → slots_of es ≡ s → x ≡ slot_at q es → option_flatten x ≡ map.get (content_of s) q
get-live es s q x view e = ap option_flatten (e ∙ sym (get-slots es s q view)) ∙ sym (get-content_of s q)

pub next_pair-slots : (es : Entries) (s : Slots) (key : List ℕ) → slots_of es ≡ s → IsStrictlySortedBy (slice_cmp nat_cmp) (keys_of es)
    → next_pair (content_of s) key ≡ first_live (from_key key es)
next_pair-slots es s key view sorted = next_pair-content_of s key
    ∙ ap (λ t. first_live (from_key key t)) (ap map.entries (sym view) ∙ entries-from_entries nat_list_cmp_total bytes_tell_apart es sorted)

pub content_of-with_slot : (s : Slots) (k : List ℕ) (w : Option (Option (List ℕ))) → content_of (with_slot s k w) ≡ updated (content_of s) k (option_flatten w)
content_of-with_slot s k (Some w) = content_of-insert s k w
content_of-with_slot s k None = content_of-remove s k

len-from_entries : (es : Entries) → map.len (slots_of es) ≤ length es
len-from_entries [] = rw len-empty (omega arith)
len-from_entries (e ∷ es) = at_most_one_more (is_some (map.get (slots_of es) e.0)) _ _ _ (len-insert nat_list_cmp_total (slots_of es) e.0 e.1) (len-from_entries es)
  where
    at_most_one_more : (b : Bool) (m n l : ℕ) → m ≡ cond b n (n + 1) → n ≤ l → m ≤ suc l
    at_most_one_more true m n l e h = omega arith
    at_most_one_more false m n l e h = omega arith

-- the tree fs has w at k, and else what the tree es has
abbrev pub Changes : Entries → Entries → List ℕ → Option (Option (List ℕ)) → Type 0
Changes es fs k w = (q : List ℕ) → slot_at q fs ≡ cond (is_at (slice_cmp nat_cmp k) q) w (slot_at q es)

pub slots_of-changes : (es fs : Entries) (k : List ℕ) (w : Option (Option (List ℕ))) → Changes es fs k w → slots_of fs ≡ with_slot (slots_of es) k w
slots_of-changes es fs k (Some w) h = from_entries-insert nat_list_cmp_total bytes_tell_apart es fs k w h
slots_of-changes es fs k None h = from_entries-remove nat_list_cmp_total bytes_tell_apart es fs k h

module _ (es fs : Entries) (k : List ℕ) (w old : Option (Option (List ℕ))) (live : ℕ) (h : Changes es fs k w) (had : old ≡ slot_at k es) (count : live ≡ map.len (content_of (slots_of es))) where
  had_value : option_flatten old ≡ map.get (content_of (slots_of es)) k
  had_value = get-live es (slots_of es) k old refl had

  content_after : content_of (slots_of fs) ≡ updated (content_of (slots_of es)) k (option_flatten w)
  content_after = ap content_of (slots_of-changes es fs k w h) ∙ content_of-with_slot (slots_of es) k w

  len_after : map.len (content_of (slots_of fs)) + held (option_flatten old) ≡ live + held (option_flatten w)
  len_after = rw (content_after, had_value, count) (len-updated (content_of (slots_of es)) k (option_flatten w))

  pub counted_before : is_some (option_flatten old) ≡ true → 0 < live
  counted_before e = subst (λ n. 0 < n) (sym count) (counted_one (content_of (slots_of es)) k (ap is_some (sym had_value) ∙ e))

  pub room_after : live + held (option_flatten w) ≤ length fs + held (option_flatten old)
  room_after = let a = len_after in let b = len-content_of (slots_of fs) in let c = len-from_entries fs in omega arith

  pub counted_after : (n : ℕ) → n + held (option_flatten old) ≡ live + held (option_flatten w) → n ≡ map.len (content_of (slots_of fs))
  counted_after n e = let a = len_after in omega arith

pub len-nothing : map.len (content_of (slots_of [])) ≡ 0
len-nothing = ap map.len content_of-empty ∙ len-empty (slice_cmp nat_cmp) (List ℕ)

pub content_of-remove_absent : (s : Slots) (k : List ℕ) → map.get (content_of s) k ≡ None → content_of (map.remove s k) ≡ content_of s
content_of-remove_absent s k e = content_of-remove s k ∙ remove_absent (content_of s) k e
