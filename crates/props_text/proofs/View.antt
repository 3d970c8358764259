-- A map of pairs and the list of its pairs.
use Rattle.std.proofs.Common.{◌≡◌, ℕ, suc, ◌+◌, ◌<◌, ◌≤◌, T, List, ◌∷◌, ◌++◌, length, get_or, take, drop, Some, None, sym, ap, ◌∙◌, add-one, drop-cons, option_map, slice_get}
use Rattle.std.proofs.lemmas.List.{take-append-drop, map-append}
use Rattle.std.proofs.lemmas.Option.{slice_get-map, slice_get-get_or, slice_get_past}
use Rattle.std.specs.Ordering.{nat_cmp}
use Rattle.std.specs.Cmp.Lexicographic.{slice_cmp}
use Rattle.std.specs.FinMap.{entries, get, len, find, entries-from_sorted, get-entries, len-entries}
use Rattle.props_text.specs.declared.pairs.Pair.{Pair}
use Rattle.props_text.specs.Pairs.{Props}
use Rattle.props_text.specs.Sorted.{pairs_of, rises, props_from}

pub entries-view : (ps : List Pair) (m : Props) → T (rises (pairs_of ps)) → props_from (pairs_of ps) ≡ m → entries m ≡ pairs_of ps
entries-view ps m h e = ap entries (sym e) ∙ entries-from_sorted (slice_cmp nat_cmp) (pairs_of ps) h

pub len-view : (ps : List Pair) (m : Props) → T (rises (pairs_of ps)) → props_from (pairs_of ps) ≡ m → len m ≡ length (pairs_of ps)
len-view ps m h e = len-entries m ∙ ap length (entries-view ps m h e)

pub get-view : (ps : List Pair) (m : Props) (q : List ℕ) → T (rises (pairs_of ps)) → props_from (pairs_of ps) ≡ m → get m q ≡ find (slice_cmp nat_cmp) q (pairs_of ps)
get-view ps m q h e = get-entries m q ∙ ap (find (slice_cmp nat_cmp) q) (entries-view ps m h e)

pub nth_some : (ps : List Pair) (m : Props) (i : ℕ) (p : Pair) → T (rises (pairs_of ps)) → props_from (pairs_of ps) ≡ m → i < length ps → p ≡ get_or ps i p
    → slice_get (entries m) i ≡ Some (p.key.items, p.value.items)
nth_some ps m i p h e l is =
    ap (λ es. slice_get es i) (entries-view ps m h e) ∙ slice_get-map (λ (p : Pair). (p.key.items, p.value.items)) ps i
    ∙ ap (option_map (λ (p : Pair). (p.key.items, p.value.items))) (slice_get-get_or ps i p l ∙ ap Some (sym is))

pub nth_none : (ps : List Pair) (m : Props) (i : ℕ) → T (rises (pairs_of ps)) → props_from (pairs_of ps) ≡ m → length ps ≤ i → slice_get (entries m) i ≡ None
nth_none ps m i h e l =
    ap (λ es. slice_get es i) (entries-view ps m h e) ∙ slice_get-map (λ (p : Pair). (p.key.items, p.value.items)) ps i
    ∙ ap (option_map (λ (p : Pair). (p.key.items, p.value.items))) (slice_get_past ps i l)

pub pairs_of-at : (ps : List Pair) (i : ℕ) (p : Pair) → i < length ps → p ≡ get_or ps i p
    → pairs_of ps ≡ pairs_of (take i ps) ++ (p.key.items, p.value.items) ∷ pairs_of (drop (i + 1) ps)
pairs_of-at ps i p l is =
    let seam : drop i ps ≡ p ∷ drop (i + 1) ps = rw add-one (drop-cons ps i p l ∙ ap (λ x. x ∷ drop (suc i) ps) (sym is)) in
    ap pairs_of (sym (take-append-drop i ps)) ∙ map-append _ (take i ps) (drop i ps) ∙ ap (λ l. pairs_of (take i ps) ++ pairs_of l) seam
