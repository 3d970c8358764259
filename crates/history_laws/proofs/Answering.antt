-- How often a callback is answered.
use Rattle.std.proofs.Common.{ℕ, ◌≡◌, ◌<◌, true, false, ◌==◌, if◌then◌else◌, List, [], ◌∷◌, length, Some, subst, arith}
use Rattle.std.specs.List.{AllByRecursion}
use Rattle.std.proofs.lemmas.List.{length-append}
use Rattle.samza_model.specs.declared.acts.Act.{Act}
use Rattle.samza_model.specs.declared.acts.Answer.{Answer}
use Rattle.samza_model.specs.declared.flights.Flight.{Flight}
use Rattle.samza_model.specs.declared.events.Event.{Event}
use Rattle.samza_model.specs.declared.events.Event.TheVariants.{Deliver, Did, Complete, Failed, WindowDid, WindowEnded}
use Rattle.samza_model.specs.Events.{answered, begun, flight_of, flights, state_after, with_answer}
use Rattle.samza_model.specs.Lawful.{Given, IsLawful, MayAct, course}
use Rattle.samza_model.specs.Runs.{end_at}
use Rattle.history_laws.specs.Answers.{HasFewAnswers}
use Rattle.history_laws.proofs.Flying.{all_more, all_without, all_without_turn}
use Rattle.history_laws.proofs.Turning.{did_is, goes_on}

-- what holds of each one, and of the one with this number when it is answered, holds of each one then
all_with_answered : (P : Flight → Type 0) (n : ℕ) (a : Answer) (f : Flight) (fs : List Flight) → flight_of n fs ≡ Some f → P (with_answer a f) → AllByRecursion P fs → AllByRecursion P (answered n a fs)
all_with_answered P n a f [] found now all = tt
all_with_answered P n a f (g ∷ fs) found now all = (elim (g.number == n) as (λ b. (if b then Some g else flight_of n fs) ≡ Some f → AllByRecursion P (if b then with_answer a g ∷ fs else g ∷ answered n a fs)) [
  | true ↦ λ is. (subst (λ x. P (with_answer a x)) (same is) now, all.1)
  | false ↦ λ is. (all.0, all_with_answered P n a f fs is now all.1)
]) found
  where
    same : Some g ≡ Some f → f ≡ g
    same is = cc

fewer : (k : Given) (h : List Event) (n i : ℕ) (did : Act) (answer : Answer) → (may : MayAct k h n (Did n i did answer)) → length may.flight.answers < 1023
fewer k h n i did answer may =
    let f = may.flight in
    let is = did_is f (state_after k.state h) may.act (course k.setup (length f.answers) may.act) n i did answer may.event in
    (goes_on (length f.answers) (end_at k.setup may.act) is.0).1

answer_more : (a : Answer) (f : Flight) → length f.answers < 1023 → HasFewAnswers (with_answer a f)
answer_more a f lt = omega (arith, length-append f.answers (a ∷ []), lt)

pub few_answers : (k : Given) (h : List Event) → IsLawful k h → AllByRecursion HasFewAnswers (flights k.setup h)
unfolding IsLawful flights
few_answers k [] lawful = tt
few_answers k (Deliver n p o m t ∷ h) lawful = all_more HasFewAnswers (flights k.setup h) (begun k.setup n p o m t) (few_answers k h lawful.0) (omega arith)
few_answers k (Did n i act answer ∷ h) lawful =
    all_with_answered HasFewAnswers n answer lawful.1.flight (flights k.setup h) lawful.1.flies (answer_more answer lawful.1.flight (fewer k h n i act answer lawful.1)) (few_answers k h lawful.0)
few_answers k (Complete n ∷ h) lawful = all_without HasFewAnswers n (flights k.setup h) (few_answers k h lawful.0)
few_answers k (Failed f ∷ h) lawful = all_without_turn HasFewAnswers f.turn (flights k.setup h) (few_answers k h lawful.0)
few_answers k (WindowDid i act answer ∷ h) lawful = few_answers k h lawful.0
few_answers k (WindowEnded ∷ h) lawful = few_answers k h lawful.0
