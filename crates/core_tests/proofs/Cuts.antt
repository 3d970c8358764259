-- Events that were put behind a list are cut off.
use Rattle.std.specs.Prelude.{◌≡◌, List, [], ◌∷◌, ◌++◌, length, take, refl}
use Rattle.std.proofs.Common.{ap}

pub cut_two : {X : Type 0} (xs : List X) (a b : X) → take (length xs) ((xs ++ a ∷ []) ++ b ∷ []) ≡ xs
cut_two [] a b = refl
cut_two (x ∷ xs) a b = ap (λ ys. x ∷ ys) (cut_two xs a b)
