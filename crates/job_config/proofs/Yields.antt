-- What holds of the values that asking gives.
use Rattle.std.proofs.Common.{◌≡◌, ℕ, List, [], ◌∷◌, ◌++◌, length, map, Option, Result, Ok, Err, refl, ap, subst, arith}
use Rattle.std.specs.FinMap.{get}
use Rattle.std.specs.List.{AllByRecursion}
use Rattle.props_text.specs.Pairs.{Props}
use Rattle.config_values.specs.declared.faults.What.{What}
use Rattle.job_config.specs.Asking.{Fault, Asks, ◌>>=◌, on_ok, gives, row_of, row, each, unless}

-- asking gave this, through what it asked for first
pub through : {A B : Type 0} (first : Result (A × List (List ℕ)) Fault) (f : A → Asks B) (r : B × List (List ℕ)) → on_ok first f ≡ Ok r
    → (x : A × List (List ℕ)) × (first ≡ Ok x) × (f x.0 x.1 ≡ Ok r)
through (Ok x) f r is = (x, refl, is)
through (Err e) f r is = absurd cc

-- what is given is given
pub just_given : {A : Type 0} (x : A) (asked : List (List ℕ)) (r : A × List (List ℕ)) → gives x asked ≡ Ok r → x ≡ r.0
just_given {A = A} x asked r is = let same : (x, asked) ≡ r = cc is in ap (λ (z : A × List (List ℕ)). z.0) same

row_of_gave : {A : Type 0} (key : List ℕ) (says : Result A What) (asked : List (List ℕ)) (r : A × List (List ℕ)) → row_of key says asked ≡ Ok r → says ≡ Ok r.0
row_of_gave {A = A} key (Ok x) asked r is = let same : (x, asked ++ key ∷ []) ≡ r = cc is in ap (λ (z : A × List (List ℕ)). Ok z.0) same
row_of_gave key (Err what) asked r is = absurd cc

-- a row gave what its key's value says
pub row_gave : {A : Type 0} (p : Props) (key : List ℕ) (says : Option (List ℕ) → Result A What) (asked : List (List ℕ)) (r : A × List (List ℕ)) → row p key says asked ≡ Ok r → says (get p key) ≡ Ok r.0
unfolding row
row_gave p key says asked r is = row_of_gave key (says (get p key)) asked r is

-- what isn't refused was given
pub unless_gave : {A : Type 0} (said : Result A Fault) (asked : List (List ℕ)) (r : A × List (List ℕ)) → unless said asked ≡ Ok r → said ≡ Ok r.0
unless_gave {A = A} (Ok x) asked r is = let same : (x, asked) ≡ r = cc is in ap (λ (z : A × List (List ℕ)). Ok z.0) same
unless_gave (Err e) asked r is = absurd cc

-- a row for each, of which each has a property if it had one before
module _ {A B : Type 0} (P : A → Type 0) (Q : B → Type 0) (f : A → Asks B) (then : (x : A) (asked : List (List ℕ)) (r : B × List (List ℕ)) → P x → f x asked ≡ Ok r → Q r.0) where
  pub each_all : (xs : List A) (asked : List (List ℕ)) (r : List B × List (List ℕ)) → AllByRecursion P xs → each xs f asked ≡ Ok r → AllByRecursion Q r.0 × (length r.0 ≡ length xs)
  unfolding each
  each_all [] asked r all is =
      let same : ([], asked) ≡ r = cc is in
      subst (λ (z : List B × List (List ℕ)). AllByRecursion Q z.0 × (length z.0 ≡ 0)) same (tt, refl)
  each_all (x ∷ xs) asked r all is =
      let one = through (f x asked) (λ y. each xs f >>= λ ys. gives (y ∷ ys)) r is in
      let more = through (each xs f one.0.1) (λ ys. gives (one.0.0 ∷ ys)) r one.2 in
      let rest = each_all xs one.0.1 more.0 all.1 more.1 in
      let same : (one.0.0 ∷ more.0.0, more.0.1) ≡ r = cc more.2 in
      subst (λ (z : List B × List (List ℕ)). AllByRecursion Q z.0 × (length z.0 ≡ length (x ∷ xs))) same
      ((then x asked one.0 all.0 one.1, rest.0), omega (arith, rest.1))

-- a row for each, of which each keeps what is seen of it
module _ {A B C : Type 0} (see : A → C) (show : B → C) (f : A → Asks B) (keeps : (x : A) (asked : List (List ℕ)) (r : B × List (List ℕ)) → f x asked ≡ Ok r → show r.0 ≡ see x) where
  pub each_keeps : (xs : List A) (asked : List (List ℕ)) (r : List B × List (List ℕ)) → each xs f asked ≡ Ok r → map show r.0 ≡ map see xs
  unfolding each
  each_keeps [] asked r is =
      let same : ([], asked) ≡ r = cc is in
      subst (λ (z : List B × List (List ℕ)). map show z.0 ≡ []) same refl
  each_keeps (x ∷ xs) asked r is =
      let one = through (f x asked) (λ y. each xs f >>= λ ys. gives (y ∷ ys)) r is in
      let more = through (each xs f one.0.1) (λ ys. gives (one.0.0 ∷ ys)) r one.2 in
      let rest = each_keeps xs one.0.1 more.0 more.1 in
      let same : (one.0.0 ∷ more.0.0, more.0.1) ≡ r = cc more.2 in
      subst (λ (z : List B × List (List ℕ)). map show z.0 ≡ map see (x ∷ xs)) same
      (cc (rest, keeps x asked one.0 one.1))
