-- What one event more does to the acts that are left.
use Rattle.std.proofs.Common.{slice_get, inl, inr, zero, suc, ℕ, ◌+◌, ◌≡◌, ◌<◌, ◌≤◌, ◌==◌, Bool, true, false, if◌then◌else◌, List, [], ◌∷◌, ◌++◌, length, length-append, Some, refl, sym, ◌∙◌, ap, subst, arith}
use Rattle.std.specs.List.{AllByRecursion}
use Rattle.std.proofs.lemmas.Bool.{cases_eq, eq-eqb, eqb-true, ne_eqb}
use Rattle.callback_manager.specs.Callbacks.{numbers}
use Rattle.std.proofs.lemmas.Option.{none-some, same_Some}
use Rattle.samza_model.specs.declared.acts.Answer.{Answer}
use Rattle.samza_model.specs.declared.flights.Flight.{Flight}
use Rattle.samza_model.specs.Events.{answered, flight_of, with_answer, without}
use Rattle.run_loop.specs.Measures.{acts_left}

pub acts_more : (fs : List Flight) (f : Flight) → f.answers ≡ [] → acts_left (fs ++ f ∷ []) ≡ acts_left fs + 1024
acts_more [] f none = omega (arith, ap length none)
acts_more (g ∷ fs) f none = omega (arith, acts_more fs f none)

-- the found one has the number
pub number_is : (n : ℕ) (fs : List Flight) (f : Flight) → flight_of n fs ≡ Some f → f.number ≡ n
number_is n [] f is = absurd (none-some f is)
number_is n (g ∷ fs) f is = (elim (g.number == n) as (λ b. (g.number == n) ≡ b → (if b then Some g else flight_of n fs) ≡ Some f → f.number ≡ n) [
  | true ↦ λ same is. sym (ap (λ (x : Flight). x.number) (same_Some g f is)) ∙ eqb-true g.number n same
  | false ↦ λ other is. number_is n fs f is
]) refl is

-- of the found one
pub the_found : (P : Flight → Type 0) (n : ℕ) (fs : List Flight) (f : Flight) → AllByRecursion P fs → flight_of n fs ≡ Some f → P f
the_found P n [] f all is = absurd (none-some f is)
the_found P n (g ∷ fs) f all is = (elim (g.number == n) as (λ b. (if b then Some g else flight_of n fs) ≡ Some f → P f) [
  | true ↦ λ is. subst P (same_Some g f is) all.0
  | false ↦ λ is. the_found P n fs f all.1 is
]) is

pub acts_answered : (n : ℕ) (a : Answer) (fs : List Flight) (f : Flight) → flight_of n fs ≡ Some f → length f.answers < 1023 → acts_left (answered n a fs) < acts_left fs
acts_answered n a [] f is few = absurd (none-some f is)
acts_answered n a (g ∷ fs) f is few = (elim (g.number == n) as (λ b. (if b then Some g else flight_of n fs) ≡ Some f → acts_left (if b then with_answer a g ∷ fs else g ∷ answered n a fs) < acts_left (g ∷ fs)) [
  | true ↦ λ is.
      let same : length g.answers ≡ length f.answers = ap (λ (x : Flight). length x.answers) (same_Some g f is) in
      omega (arith, same, few, length-append g.answers (a ∷ []))
  | false ↦ λ is. omega (arith, acts_answered n a fs f is few)
]) is

pub acts_without : (n : ℕ) (fs : List Flight) (f : Flight) → flight_of n fs ≡ Some f → length f.answers ≤ 1023 → acts_left (without n fs) < acts_left fs
acts_without n [] f is few = absurd (none-some f is)
acts_without n (g ∷ fs) f is few = (elim (g.number == n) as (λ b. (if b then Some g else flight_of n fs) ≡ Some f → acts_left (if b then fs else g ∷ without n fs) < acts_left (g ∷ fs)) [
  | true ↦ λ is.
      let same : length g.answers ≡ length f.answers = ap (λ (x : Flight). length x.answers) (same_Some g f is) in
      omega (arith, same, few)
  | false ↦ λ is. omega (arith, acts_without n fs f is few)
]) is

-- at each place stands the number of one that is in flight
pub found_at : (fs : List Flight) (place n : ℕ) → slice_get (numbers fs) place ≡ Some n → (f : Flight) × (flight_of n fs ≡ Some f)
found_at [] place n is = absurd (none-some n is)
found_at (g ∷ fs) zero n is = (g, ap (λ (b : Bool). if b then Some g else flight_of n fs) (eq-eqb g.number n (same_Some g.number n is)))
found_at (g ∷ fs) (suc place) n is =
    let rest = found_at fs place n is in
    elim (cases_eq g.number n) [
      | inl same ↦ (g, ap (λ (b : Bool). if b then Some g else flight_of n fs) (eq-eqb g.number n same))
      | inr other ↦ (rest.0, ap (λ (b : Bool). if b then Some g else flight_of n fs) (ne_eqb g.number n other) ∙ rest.1)
    ]
