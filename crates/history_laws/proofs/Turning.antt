-- What an act makes of its turn, told by the event.
use Rattle.std.proofs.Common.{◌⊎◌, inl, inr, ◌≤◌, ℕ, ◌≡◌, ◌<◌, true, false, if◌then◌else◌, List, Option, Some, None, nat_lt, refl, sym, ◌∙◌, ap}
use Rattle.std.proofs.lemmas.Bool.{ltb-true, ltb-false}
use Rattle.samza_model.specs.declared.acts.Act.{Act}
use Rattle.samza_model.specs.declared.acts.Answer.{Answer}
use Rattle.samza_model.specs.declared.turns.Failure.{Failure}
use Rattle.samza_model.specs.declared.turns.Why.{Why}
use Rattle.samza_model.specs.declared.turns.Why.TheVariants.{TooMany}
use Rattle.samza_model.specs.declared.flights.Flight.{Flight}
use Rattle.samza_model.specs.declared.events.Event.TheVariants.{Did, Complete, Failed}
use Rattle.samza_model.specs.Content.{State, answer_of}
use Rattle.samza_model.specs.Lawful.{call_event, ends_or_goes_on, failure_of, window_event, window_failure}
use Rattle.samza_model.specs.Runs.{End}

pub did_is : (f : Flight) (state : State) (act : Act) (course : Option End) (n i : ℕ) (did : Act) (answer : Answer) → Did n i did answer ≡ call_event f state act course → (course ≡ None) × (did ≡ act) × (answer ≡ answer_of state act)
did_is f state act None n i did answer is = (refl, cc, cc)
did_is f state act (Some None) n i did answer is = absurd cc
did_is f state act (Some (Some why)) n i did answer is = absurd cc

pub complete_is : (f : Flight) (state : State) (act : Act) (course : Option End) (n : ℕ) → Complete n ≡ call_event f state act course → course ≡ Some None
complete_is f state act None n is = absurd cc
complete_is f state act (Some None) n is = refl
complete_is f state act (Some (Some why)) n is = absurd cc

pub failed_is : (f : Flight) (state : State) (act : Act) (course : Option End) (failure : Failure) → Failed failure ≡ call_event f state act course → (course ≡ Some (Some failure.why)) × (failure ≡ failure_of f failure.why)
failed_is f state act None failure is = absurd cc
failed_is f state act (Some None) failure is = absurd cc
failed_is f state act (Some (Some why)) failure is =
    let same : failure ≡ failure_of f why = cc in
    let same_why : why ≡ failure.why = ap (λ (x : Failure). x.why) (sym same) in
    (ap (λ (w : Why). Some (Some w)) same_why, same ∙ ap (failure_of f) same_why)

pub window_failed_is : (answers : List Answer) (state : State) (act : Act) (course : Option End) (failure : Failure) → Failed failure ≡ window_event answers state act course → course ≡ Some (Some failure.why)
window_failed_is answers state act None failure is = absurd cc
window_failed_is answers state act (Some None) failure is = absurd cc
window_failed_is answers state act (Some (Some why)) failure is =
    let same : failure ≡ window_failure why = cc in
    ap (λ (x : Failure). Some (Some x.why)) (sym same)

abbrev pub IsNone : Option End → Type 0
IsNone x = x ≡ None

abbrev IsDone : Option End → Type 0
IsDone x = x ≡ Some None

pub goes_on : (made : ℕ) (x : Option End) → ends_or_goes_on made x ≡ None → IsNone x × (made < 1023)
goes_on made None = elim (nat_lt made 1023) as (λ b. nat_lt made 1023 ≡ b → IsNone (if b then None else Some (Some TooMany)) → IsNone None × (made < 1023)) [
  | true ↦ λ lt is. (refl, ltb-true made 1023 lt)
  | false ↦ λ lt is. absurd cc
] refl
goes_on made (Some end) = λ is. absurd cc

pub is_done : (made : ℕ) (x : Option End) → ends_or_goes_on made x ≡ Some None → x ≡ Some None
is_done made None = elim (nat_lt made 1023) as (λ b. IsDone (if b then None else Some (Some TooMany)) → IsDone None) [
  | true ↦ λ is. is
  | false ↦ λ is. absurd cc
]
is_done made (Some end) = λ is. is

-- an act fails a turn, or is one too many
abbrev pub FailsBy : ℕ → Option End → Why → Type 0
FailsBy made x why = (x ≡ Some (Some why)) ⊎ (IsNone x × (1023 ≤ made) × (TooMany ≡ why))

pub fails_by : (made : ℕ) (x : Option End) (why : Why) → ends_or_goes_on made x ≡ Some (Some why) → FailsBy made x why
fails_by made (Some end) why is = inl is
fails_by made None why is = (elim (nat_lt made 1023) as (λ b. nat_lt made 1023 ≡ b → (if b then None else Some (Some TooMany)) ≡ Some (Some why) → FailsBy made None why) [
  | true ↦ λ lt is. absurd cc
  | false ↦ λ lt is. inr (refl, ltb-false made 1023 lt, cc)
]) refl is
