-- Where a callback in flight stands, and what holds there.
use Rattle.std.proofs.Common.{Result, Ok, Err, OnOk, ℕ, zero, suc, ◌≡◌, ◌≢◌, ◌<◌, inl, inr, List, [], ◌∷◌, length, get_or, set, Option, Some, None, refl, sym, ap, arith, rules, eq-eqb, subst}
use Rattle.std.specs.List.{remove}
use Rattle.std.specs.Option.{option_map}
use Rattle.std.proofs.lemmas.Bool.{cases_eq, ne_eqb}
use Rattle.samza_model.specs.declared.acts.Answer.{Answer}
use Rattle.samza_model.specs.declared.flights.Flight.{Flight}
use Rattle.samza_model.specs.Events.{answered, flight_of, with_answer, without}
use Rattle.slow_model.specs.Steps.{place_in}

abbrev pub no_flight : Flight
no_flight = record {
  number = 0;
  input = 0;
  envelope = record {
    ssp = record { system = []; stream = []; partition = 0 };
    offset = 0;
    body = record { key = []; value = None };
  };
  delivered = 0;
  answers = [];
}

-- the first callback with the number

pub place_at : (n : ℕ) (fs : List Flight) (i : ℕ) → i < length fs → ((k : ℕ) → k < i → (get_or fs k no_flight).number ≢ n) → (get_or fs i no_flight).number ≡ n → place_in n fs ≡ Some i
place_at n [] i lt differ e = absurd (omega (arith, lt))
place_at n (f ∷ fs) zero lt differ e = rw (eq-eqb f.number n e) refl
place_at n (f ∷ fs) (suc i) lt differ e = rw (ne_eqb f.number n (differ 0 (omega arith)), place_at n fs i (omega (arith, lt)) (λ k l. differ (suc k) (omega (arith, l))) e) refl

pub place_none : (n : ℕ) (fs : List Flight) → ((k : ℕ) → k < length fs → (get_or fs k no_flight).number ≢ n) → place_in n fs ≡ None
place_none n [] differ = refl
place_none n (f ∷ fs) differ = rw (ne_eqb f.number n (differ 0 (omega arith)), place_none n fs (λ k l. differ (suc k) (omega (arith, l)))) refl

-- what is where the callback with this number stands
pub record IsPlace (n : ℕ) (fs : List Flight) (i : ℕ) : Type 0 where
  pub within : i < length fs
  pub flies : flight_of n fs ≡ Some (get_or fs i no_flight)
  pub answered : (a : Answer) → answered n a fs ≡ set fs i (with_answer a (get_or fs i no_flight))
  pub without : without n fs ≡ remove fs i

suc_of : (p : Option ℕ) (i : ℕ) → option_map suc p ≡ Some i → (j : ℕ) × (p ≡ Some j) × (i ≡ suc j)
suc_of None i e = absurd (search rules)
suc_of (Some j) i e = (j, refl, grind (arith, e))

pub is_place : (n : ℕ) (fs : List Flight) (i : ℕ) → place_in n fs ≡ Some i → IsPlace n fs i
is_place n [] i e = absurd (search rules)
is_place n (f ∷ fs) i e =
    elim (cases_eq f.number n) [
      | inl q ↦
          let here : Some 0 ≡ Some i = rw (eq-eqb f.number n q) at e in
          let zero_is : 0 ≡ i = grind (arith, here) in
          subst (λ k. IsPlace n (f ∷ fs) k) zero_is (record {
            within = omega arith;
            flies = rw (eq-eqb f.number n q) refl;
            answered = λ a. rw (eq-eqb f.number n q) refl;
            without = rw (eq-eqb f.number n q) refl;
          })
      | inr ne ↦
          let later = suc_of (place_in n fs) i (rw (ne_eqb f.number n ne) at e) in
          let rest = is_place n fs later.0 later.1 in
          subst (λ k. IsPlace n (f ∷ fs) k) (sym later.2) (record {
            within = omega (arith, rest.within);
            flies = rw (ne_eqb f.number n ne) rest.flies;
            answered = λ a. rw (ne_eqb f.number n ne) (ap (λ l. f ∷ l) (rest.answered a));
            without = rw (ne_eqb f.number n ne) (ap (λ l. f ∷ l) rest.without);
          })
    ]

-- what holds where there is none
pub record IsNoPlace (n : ℕ) (fs : List Flight) : Type 0 where
  pub none : flight_of n fs ≡ None
  pub answered : (a : Answer) → answered n a fs ≡ fs
  pub without : without n fs ≡ fs

none_of : (p : Option ℕ) → option_map suc p ≡ None → p ≡ None
none_of None e = refl
none_of (Some j) e = absurd (search rules)

pub is_no_place : (n : ℕ) (fs : List Flight) → place_in n fs ≡ None → IsNoPlace n fs
is_no_place n [] e = record { none = refl; answered = λ a. refl; without = refl }
is_no_place n (f ∷ fs) e =
    elim (cases_eq f.number n) [
      | inl q ↦ absurd (clash (rw (eq-eqb f.number n q) at e))
      | inr ne ↦
          let rest = is_no_place n fs (none_of (place_in n fs) (rw (ne_eqb f.number n ne) at e)) in
          record {
            none = rw (ne_eqb f.number n ne) rest.none;
            answered = λ a. rw (ne_eqb f.number n ne) (ap (λ l. f ∷ l) (rest.answered a));
            without = rw (ne_eqb f.number n ne) (ap (λ l. f ∷ l) rest.without);
          }
    ]
  where
    clash : ◌≡◌ {A = Option ℕ} (Some 0) None → ⊥
    clash e = search rules

pub on_ok : {T E P Q : Type 0} (r : Result T E) → (P → Q) → OnOk r P → OnOk r Q
on_ok (Ok x) f p = f p
on_ok (Err e) f p = tt
