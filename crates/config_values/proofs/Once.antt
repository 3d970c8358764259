-- Names that are put behind others grow no fewer.
use Rattle.std.proofs.Common.{ℕ, ◌≤◌, List, [], ◌∷◌, ◌++◌, length, Bool, true, false, cond, arith}
use Rattle.std.specs.List.{fold, list_any}
use Rattle.std.proofs.lemmas.List.{length-append}
use Rattle.config_values.specs.Values.{same}
use Rattle.config_values.specs.Lists.{with_name}

one_more : (b : Bool) (names : List (List ℕ)) (name : List ℕ) → length names ≤ length (cond b names (names ++ name ∷ []))
one_more true names name = omega arith
one_more false names name = omega (arith, length-append names (name ∷ []))

pub once_grows : (names rest : List (List ℕ)) → length names ≤ length (fold with_name names rest)
once_grows names [] = omega arith
once_grows names (x ∷ xs) =
    let a = one_more (list_any (λ n. same n x) names) names x in
    let b = once_grows (with_name names x) xs in
    omega arith
