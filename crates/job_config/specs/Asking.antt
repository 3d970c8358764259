-- How the keys are asked for, one after another: a value and the keys asked for so far, or the first bad key.
use Rattle.std.specs.Prelude.{ℕ, List, [], ◌∷◌, ◌++◌, Option, Result, Ok, Err}
use Rattle.std.specs.FinMap.{get}
use Rattle.props_text.specs.Pairs.{Props}
use Rattle.config_values.specs.declared.faults.What.{What}

-- a bad key, and what is wrong with it
abbrev pub Fault : Type 0
Fault = List ℕ × What

-- from the keys asked for so far to the value and the keys asked for, or the fault
abbrev pub Asks : Type 0 → Type 0
Asks A = List (List ℕ) → Result (A × List (List ℕ)) Fault

abbrev pub on_ok : {A B : Type 0} → Result (A × List (List ℕ)) Fault → (A → Asks B) → Result (B × List (List ℕ)) Fault
on_ok (Ok r) f = f r.0 r.1
on_ok (Err e) f = Err e

infixl 10 ◌>>=◌
abbrev pub ◌>>=◌ : {A B : Type 0} → Asks A → (A → Asks B) → Asks B
m >>= f = λ asked. on_ok (m asked) f

abbrev pub gives : {A : Type 0} → A → Asks A
gives x = λ asked. Ok (x, asked)

abbrev pub row_of : {A : Type 0} → List ℕ → Result A What → Asks A
row_of key (Ok x) = λ asked. Ok (x, asked ++ key ∷ [])
row_of key (Err what) = λ asked. Err (key, what)

-- one row of the table: a key, and what its value says
unfoldable pub row : {A : Type 0} → Props → List ℕ → (Option (List ℕ) → Result A What) → Asks A
row p key says = row_of key (says (get p key))

-- a row for each of these, one after another
unfoldable pub each : {A B : Type 0} → List A → (A → Asks B) → Asks (List B)
each [] f = gives []
each (x ∷ xs) f = do
  y ← f x
  ys ← each xs f
  gives (y ∷ ys)

-- a refusal that names a key, where something says so
abbrev pub unless : {A : Type 0} → Result A Fault → Asks A
unless (Ok x) = gives x
unless (Err e) = λ asked. Err e
