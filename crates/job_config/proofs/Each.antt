-- A row for each of a list, one after another.
use Rattle.std.proofs.Common.{◌≡◌, ℕ, List, [], ◌∷◌, ◌++◌, length, Result, Ok, Err, refl, sym, ◌∙◌, ap, append_assoc}
use Rattle.std.proofs.lemmas.List.{append-nil, nil_from_length}
use Rattle.job_config.specs.declared.rows.RowFault.{RowFault}
use Rattle.job_config.specs.declared.rows.RowFault.TheVariants.{Bad, NoMemory}
use Rattle.job_config.specs.Asking.{Fault, Asks, ◌>>=◌, on_ok, gives, each}
use Rattle.job_config.specs.Outcome.{FailsRow}

-- these, and then what asking gives
abbrev pub with_front : {A : Type 0} → List A → Result (List A × List (List ℕ)) Fault → Result (List A × List (List ℕ)) Fault
with_front front (Ok r) = Ok (front ++ r.0, r.1)
with_front front (Err e) = Err e

in_front : {A : Type 0} (front : List A) (y : A) (r : Result (List A × List (List ℕ)) Fault)
    → with_front front (on_ok r (λ ys. gives (y ∷ ys))) ≡ with_front (front ++ y ∷ []) r
in_front {A = A} front y (Ok r) = let same : front ++ (y ∷ r.0) ≡ (front ++ y ∷ []) ++ r.0 = sym (append_assoc front (y ∷ []) r.0) in ap (λ (ys : List A). Ok (ys, r.1)) same
in_front front y (Err e) = refl

each_more : {A B : Type 0} (front : List B) (x : A) (xs : List A) (f : A → Asks B) (y : B) (asked now : List (List ℕ)) → f x asked ≡ Ok (y, now)
    → with_front front (each (x ∷ xs) f asked) ≡ with_front (front ++ y ∷ []) (each xs f now)
unfolding each
each_more {A = A} {B = B} front x xs f y asked now is =
    ap (λ (r : Result (B × List (List ℕ)) Fault). with_front front (on_ok r (λ z. each xs f >>= λ zs. gives (z ∷ zs)))) is
    ∙ in_front front y (each xs f now)

each_fails : {A B : Type 0} (front : List B) (x : A) (xs : List A) (f : A → Asks B) (e : Fault) (asked : List (List ℕ)) → f x asked ≡ Err e
    → with_front front (each (x ∷ xs) f asked) ≡ Err e
unfolding each
each_fails {A = A} {B = B} front x xs f e asked is =
    ap (λ (r : Result (B × List (List ℕ)) Fault). with_front front (on_ok r (λ z. each xs f >>= λ zs. gives (z ∷ zs)))) is

each_ends : {A B : Type 0} (front : List B) (f : A → Asks B) (asked : List (List ℕ)) → with_front front (each [] f asked) ≡ Ok (front, asked)
unfolding each
each_ends {B = B} front f asked = ap (λ (ys : List B). Ok (ys, asked)) (append-nil front)

each_begins : {B : Type 0} (r : Result (List B × List (List ℕ)) Fault) → with_front [] r ≡ r
each_begins (Ok r) = refl
each_begins (Err e) = refl

-- What a loop over the list keeps: these rows, and then those of what is left, are all rows.
pub rows_begin : {A B : Type 0} (front : List B) (left xs : List A) (f : A → Asks B) (asked : List (List ℕ)) → front ≡ [] → left ≡ xs
    → with_front front (each left f asked) ≡ each xs f asked
rows_begin {A = A} {B = B} front left xs f asked none all =
    ap (λ (ys : List B). with_front ys (each left f asked)) none ∙ each_begins (each left f asked) ∙ ap (λ (zs : List A). each zs f asked) all

pub rows_go_on : {A B : Type 0} (front new : List B) (x : A) (left rest : List A) (f : A → Asks B) (y : B) (asked now : List (List ℕ)) (w : Result (List B × List (List ℕ)) Fault)
    → left ≡ x ∷ rest → f x asked ≡ Ok (y, now) → new ≡ front ++ y ∷ [] → with_front front (each left f asked) ≡ w → with_front new (each rest f now) ≡ w
rows_go_on {A = A} {B = B} front new x left rest f y asked now w first is pushed all =
    ap (λ (ys : List B). with_front ys (each rest f now)) pushed
    ∙ sym (each_more front x rest f y asked now is)
    ∙ sym (ap (λ (xs : List A). with_front front (each xs f asked)) first) ∙ all

pub rows_fail : {A B : Type 0} (front : List B) (x : A) (left rest : List A) (f : A → Asks B) (fault : RowFault) (asked : List (List ℕ)) (w : Result (List B × List (List ℕ)) Fault)
    → left ≡ x ∷ rest → FailsRow fault (f x asked) → with_front front (each left f asked) ≡ w → FailsRow fault w
rows_fail front x left rest f NoMemory asked w first fails all = tt
rows_fail {A = A} front x left rest f (Bad key what) asked w first fails all =
    sym all ∙ ap (λ (xs : List A). with_front front (each xs f asked)) first ∙ each_fails front x rest f (key, what) asked fails

pub rows_end : {A B : Type 0} (front : List B) (left : List A) (f : A → Asks B) (asked : List (List ℕ)) (w : Result (List B × List (List ℕ)) Fault) → length left ≡ 0
    → with_front front (each left f asked) ≡ w → w ≡ Ok (front, asked)
rows_end {A = A} front left f asked w none all =
    sym all ∙ ap (λ (xs : List A). with_front front (each xs f asked)) (nil_from_length left none) ∙ each_ends front f asked
