-- The pairs of a map by their places.
use Rattle.std.proofs.Common.{ℕ, zero, suc, ◌≡◌, ◌+◌, ◌<◌, List, [], ◌∷◌, length, drop, map, slice_get, Some, None, sym, ◌∙◌, ap, arith}

pub none_within : {X : Type 0} (es : List X) (i : ℕ) → i < length es → None ≡ slice_get es i → ⊥
none_within [] i h e = omega arith
none_within (x ∷ es) zero h e = cc
none_within (x ∷ es) (suc i) h e = none_within es i (omega arith) e

one_later : (i : ℕ) → suc (i + 1) ≡ suc i + 1
one_later i = omega arith

-- the key of the pair at a place, and those behind it
pub key_at : (es : List (List ℕ × List ℕ)) (i : ℕ) (key value : List ℕ) → Some (key, value) ≡ slice_get es i
    → drop i (map (λ e. e.0) es) ≡ key ∷ drop (i + 1) (map (λ e. e.0) es)
key_at [] i key value h = absurd cc
key_at (e ∷ es) zero key value h = let same : (key, value) ≡ e = cc in ap (λ k. k ∷ map (λ e. e.0) es) (sym (ap (λ e. e.0) same))
key_at (e ∷ es) (suc i) key value h = key_at es i key value h ∙ ap (λ n. key ∷ drop n (map (λ e. e.0) (e ∷ es))) (one_later i)
