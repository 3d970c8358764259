-- Names, each once.
use Rattle.std.proofs.Common.{ℕ, ◌≡◌, List, [], ◌∷◌, ◌++◌, Option, Some, None, Ok, Bool, true, false, cond, ◌||◌, refl, ◌∙◌, ap}
use Rattle.std.specs.List.{fold, list_any}
use Rattle.samza_model.specs.Checkpoint.{are_distinct}
use Rattle.config_values.specs.Values.{same}
use Rattle.config_values.specs.Lists.{with_name, each_once, outputs}
use Rattle.job_config.proofs.Topics.{names_in_hold}

neither : (a b : Bool) → (a || b) ≡ false → (a ≡ false) × (b ≡ false)
neither true b is = absurd cc
neither false b is = (refl, is)

otherwise : (b c : Bool) → cond b false c ≡ true → (b ≡ false) × (c ≡ true)
otherwise true c is = absurd cc
otherwise false c is = (refl, is)

none_behind : (p : List ℕ → Bool) (names : List (List ℕ)) (name : List ℕ) → list_any p names ≡ false → p name ≡ false → list_any p (names ++ name ∷ []) ≡ false
none_behind p [] name none last = ap (λ b. b || false) last
none_behind p (x ∷ xs) name none last =
    let parts = neither (p x) (list_any p xs) none in
    ap (λ b. b || list_any p (xs ++ name ∷ [])) parts.0 ∙ none_behind p xs name parts.1 last

-- a name that isn't there yet makes none stand twice
distinct_behind : (names : List (List ℕ)) (name : List ℕ) → list_any (λ n. same n name) names ≡ false → are_distinct names ≡ true → are_distinct (names ++ name ∷ []) ≡ true
distinct_behind [] name new all = refl
distinct_behind (x ∷ xs) name new all =
    let apart = neither (same x name) (list_any (λ n. same n name) xs) new in
    let parts = otherwise (list_any (same x) xs) (are_distinct xs) all in
    ap (λ b. cond b false (are_distinct (xs ++ name ∷ []))) (none_behind (same x) xs name parts.0 apart.0) ∙ distinct_behind xs name apart.1 parts.1

distinct_with : (b : Bool) (names : List (List ℕ)) (name : List ℕ) → list_any (λ n. same n name) names ≡ b → are_distinct names ≡ true → are_distinct (cond b names (names ++ name ∷ [])) ≡ true
distinct_with true names name is all = all
distinct_with false names name is all = distinct_behind names name is all

all_distinct : (names done : List (List ℕ)) → are_distinct done ≡ true → are_distinct (fold with_name done names) ≡ true
all_distinct [] done begun = begun
all_distinct (x ∷ xs) done begun = all_distinct xs (with_name done x) (distinct_with (list_any (λ n. same n x) done) done x refl begun)

once_distinct : (names : List (List ℕ)) → are_distinct (each_once names) ≡ true
unfolding each_once
once_distinct names = all_distinct names [] refl

pub outputs_distinct : (most : ℕ) (t : Option (List ℕ)) (found : List (List ℕ)) → outputs most t ≡ Ok found → are_distinct found ≡ true
unfolding outputs
outputs_distinct most None found is = absurd cc
outputs_distinct most (Some t) found is = names_in_hold (λ names. are_distinct names ≡ true) each_once once_distinct most t found is
