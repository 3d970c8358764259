-- A step of the search for a key, over plain lists.
use Rattle.std.proofs.Common.{◌≡◌, ℕ, ◌+◌, ◌<◌, T, List, [], ◌∷◌, ◌++◌, length, get_or, take, drop, Some, ap, subst, ◌∙◌, arith, length-drop, length-take}
use Rattle.std.specs.declared.cmp.Ordering.TheVariants.{Less, Equal, Greater}
use Rattle.std.specs.Ordering.{nat_cmp}
use Rattle.std.specs.Cmp.Lexicographic.{slice_cmp}
use Rattle.std.specs.FinMap.{find}
use Rattle.std.proofs.lemmas.Cmp.{nat_list_cmp_total}
use Rattle.props_text.specs.declared.pairs.Pair.{Pair}
use Rattle.props_text.specs.Sorted.{pairs_of, rises}
use Rattle.props_text.proofs.Search.{find-equal, find-less, find-greater, is_sorted-front, is_sorted-back}
use Rattle.props_text.proofs.View.{pairs_of-at}

cut : (ps : List Pair) (i : ℕ) (p : Pair) → i < length ps → p ≡ get_or ps i p → T (rises (pairs_of ps))
    → T (rises (pairs_of (take i ps) ++ (p.key.items, p.value.items) ∷ pairs_of (drop (i + 1) ps)))
cut ps i p l is h = subst (λ es. T (rises es)) (pairs_of-at ps i p l is) h

behind_one : (fs : List (List ℕ × List ℕ)) (e : List ℕ × List ℕ) (bs : List (List ℕ × List ℕ)) → T (rises (fs ++ e ∷ bs)) → T (rises bs)
behind_one fs e bs h = is_sorted-back (slice_cmp nat_cmp) (e ∷ []) bs (is_sorted-back (slice_cmp nat_cmp) fs (e ∷ bs) h)

pub half_equal : (q : List ℕ) (ps : List Pair) (i : ℕ) (p : Pair) → i < length ps → p ≡ get_or ps i p → T (rises (pairs_of ps))
    → slice_cmp nat_cmp q p.key.items ≡ Equal → find (slice_cmp nat_cmp) q (pairs_of ps) ≡ Some p.value.items
half_equal q ps i p l is h e =
    ap (find (slice_cmp nat_cmp) q) (pairs_of-at ps i p l is)
    ∙ find-equal (slice_cmp nat_cmp) nat_list_cmp_total q (pairs_of (take i ps)) (p.key.items, p.value.items) (pairs_of (drop (i + 1) ps)) (cut ps i p l is h) e

pub half_less : (q : List ℕ) (ps half : List Pair) (i : ℕ) (p : Pair) → i < length ps → p ≡ get_or ps i p → T (rises (pairs_of ps))
    → slice_cmp nat_cmp q p.key.items ≡ Less → half ≡ take i ps
    → (find (slice_cmp nat_cmp) q (pairs_of ps) ≡ find (slice_cmp nat_cmp) q (pairs_of half)) × T (rises (pairs_of half)) × (length half < length ps)
half_less q ps half i p l is h e front =
    let part = (ap (find (slice_cmp nat_cmp) q) (pairs_of-at ps i p l is)
    ∙ find-less (slice_cmp nat_cmp) nat_list_cmp_total q (pairs_of (take i ps)) (p.key.items, p.value.items) (pairs_of (drop (i + 1) ps)) (cut ps i p l is h) e) in
    rw front (part, is_sorted-front (slice_cmp nat_cmp) (pairs_of (take i ps)) _ (cut ps i p l is h), omega (arith, length-take i ps))

pub half_greater : (q : List ℕ) (ps half : List Pair) (i : ℕ) (p : Pair) → i < length ps → p ≡ get_or ps i p → T (rises (pairs_of ps))
    → slice_cmp nat_cmp q p.key.items ≡ Greater → half ≡ drop (i + 1) ps
    → (find (slice_cmp nat_cmp) q (pairs_of ps) ≡ find (slice_cmp nat_cmp) q (pairs_of half)) × T (rises (pairs_of half)) × (length half < length ps)
half_greater q ps half i p l is h e back =
    let part = (ap (find (slice_cmp nat_cmp) q) (pairs_of-at ps i p l is)
    ∙ find-greater (slice_cmp nat_cmp) nat_list_cmp_total q (pairs_of (take i ps)) (p.key.items, p.value.items) (pairs_of (drop (i + 1) ps)) (cut ps i p l is h) e) in
    rw back (part, behind_one (pairs_of (take i ps)) _ _ (cut ps i p l is h), omega (arith, length-drop (i + 1) ps))
