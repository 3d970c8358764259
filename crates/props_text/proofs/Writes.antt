-- A list written an entry at a time.
use Rattle.std.proofs.Common.{◌≡◌, ℕ, zero, suc, ◌+◌, ◌<◌, ◌≤◌, List, [], ◌∷◌, ◌++◌, length, get_or, take, Some, None, sym, ap, ◌∙◌, add-one, arith, slice_get, subst, ◌^◌}
use Rattle.std.specs.List.{flat_map, AllByRecursion}
use Rattle.std.proofs.lemmas.Grind.{flat_map-append}
use Rattle.std.proofs.lemmas.List.{take_all, append-nil}
use Rattle.std.proofs.lemmas.Option.{get_or_from_slice_get, slice_get_within}
use Rattle.std.proofs.Math.Seq.{take-suc}
use Rattle.props_text.specs.Written.{AreUnits}

pub none_within : {X : Type 0} (es : List X) (i : ℕ) → i < length es → None ≡ slice_get es i → ⊥
none_within [] i h e = omega arith
none_within (x ∷ es) zero h e = cc
none_within (x ∷ es) (suc i) h e = none_within es i (omega arith) e

pub flat_map_more : {X Y : Type 0} (f : X → List Y) (es : List X) (i : ℕ) (x : X) (old new : List Y) → Some x ≡ slice_get es i
    → old ≡ flat_map f (take i es) → new ≡ old ++ f x → new ≡ flat_map f (take (i + 1) es)
flat_map_more f es i x old new is was e =
    let within : i < length es = slice_get_within es i x (sym is) in
    let one : take (i + 1) es ≡ take i es ++ x ∷ [] = ap (λ n. take n es) (add-one i) ∙ take-suc es i x within ∙ ap (λ y. take i es ++ y ∷ []) (get_or_from_slice_get es i x x (sym is)) in
    e ∙ ap (λ l. l ++ f x) was ∙ ap (λ l. flat_map f (take i es) ++ l) (sym (append-nil (f x))) ∙ sym (flat_map-append f (take i es) (x ∷ [])) ∙ ap (flat_map f) (sym one)

pub flat_map_end : {X Y : Type 0} (f : X → List Y) (es : List X) (i : ℕ) (out : List Y) → length es ≤ i → out ≡ flat_map f (take i es) → out ≡ flat_map f es
flat_map_end f es i out h e = e ∙ ap (flat_map f) (take_all i es h)

AllByRecursion-append : {X : Type 0} (P : X → Type 0) (xs ys : List X) → AllByRecursion P xs → AllByRecursion P ys → AllByRecursion P (xs ++ ys)
AllByRecursion-append P [] ys h k = k
AllByRecursion-append P (x ∷ xs) ys h k = (h.0, AllByRecursion-append P xs ys h.1 k)

pub all_more : {X : Type 0} (P : X → Type 0) (es : List X) (i : ℕ) (x : X) → Some x ≡ slice_get es i → AllByRecursion P (take i es) → P x → AllByRecursion P (take (i + 1) es)
all_more P es i x is h k =
    let within : i < length es = slice_get_within es i x (sym is) in
    let one : take (i + 1) es ≡ take i es ++ x ∷ [] = ap (λ n. take n es) (add-one i) ∙ take-suc es i x within ∙ ap (λ y. take i es ++ y ∷ []) (get_or_from_slice_get es i x x (sym is)) in
    subst (AllByRecursion P) (sym one) (AllByRecursion-append P (take i es) (x ∷ []) h (k, tt))

pub all_end : {X : Type 0} (P : X → Type 0) (es : List X) (i : ℕ) → length es ≤ i → AllByRecursion P (take i es) → AllByRecursion P es
all_end P es i h k = subst (AllByRecursion P) (take_all i es h) k

pub units_more : (us : List ℕ) (i : ℕ) → i < length us → get_or us i 0 < 2 ^ 16 → AreUnits (take i us) → AreUnits (take (i + 1) us)
units_more us i h u all =
    let one : take (i + 1) us ≡ take i us ++ get_or us i 0 ∷ [] = ap (λ n. take n us) (add-one i) ∙ take-suc us i 0 h in
    subst AreUnits (sym one) (AllByRecursion-append (λ u. u < 2 ^ 16) (take i us) (get_or us i 0 ∷ []) all (u, tt))
