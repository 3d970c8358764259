-- Where a callback failed, with one input.
use Rattle.std.proofs.Common.{ℕ, ◌≡◌, ◌==◌, if◌then◌else◌, true, false, List, [], ◌∷◌, length, Option, Some, None, inl, inr, refl, ◌∙◌, ap, subst, arith, true≢false}
use Rattle.std.specs.List.{AllByRecursion}
use Rattle.std.proofs.lemmas.Option.{none-some, same_Some}
use Rattle.samza_model.specs.declared.turns.Turn.{Turn}
use Rattle.samza_model.specs.declared.turns.Turn.TheVariants.{Call, Window}
use Rattle.samza_model.specs.declared.turns.Failure.{Failure}
use Rattle.samza_model.specs.declared.flights.Flight.{Flight}
use Rattle.samza_model.specs.declared.events.Event.{Event}
use Rattle.samza_model.specs.declared.events.Event.TheVariants.{Deliver, Did, Complete, Failed, WindowDid, WindowEnded}
use Rattle.samza_model.specs.Events.{begun, first_failure, flight_of, flights, state_after}
use Rattle.samza_model.specs.Lawful.{Given, IsLawful, MayFail, course}
use Rattle.samza_model.specs.Ran.{is_window}
use Rattle.history_laws.proofs.Expiring.{first_of}
use Rattle.history_laws.proofs.Flying.{all_answered, all_more, all_without, all_without_turn}
use Rattle.history_laws.proofs.Turning.{failed_is}

abbrev IsOfFirst : Flight → Type 0
IsOfFirst f = f.input ≡ 0

-- each callback in flight is of the one input
all_first : (k : Given) (h : List Event) → length k.starts ≡ 1 → IsLawful k h → AllByRecursion IsOfFirst (flights k.setup h)
unfolding IsLawful flights
all_first k [] one lawful = tt
all_first k (Deliver n p o m t ∷ h) one lawful = all_more IsOfFirst (flights k.setup h) (begun k.setup n p o m t) (all_first k h one lawful.0) (omega (arith, one, lawful.1.input))
all_first k (Did n i act answer ∷ h) one lawful = all_answered IsOfFirst (λ a f is. is) n answer (flights k.setup h) (all_first k h one lawful.0)
all_first k (Complete n ∷ h) one lawful = all_without IsOfFirst n (flights k.setup h) (all_first k h one lawful.0)
all_first k (Failed f ∷ h) one lawful = all_without_turn IsOfFirst f.turn (flights k.setup h) (all_first k h one lawful.0)
all_first k (WindowDid i act answer ∷ h) one lawful = all_first k h one lawful.0
all_first k (WindowEnded ∷ h) one lawful = all_first k h one lawful.0

found_first : (n : ℕ) (fs : List Flight) (f : Flight) → AllByRecursion IsOfFirst fs → flight_of n fs ≡ Some f → f.input ≡ 0
found_first n [] f all is = absurd (none-some f is)
found_first n (g ∷ fs) f all is =
    (elim (g.number == n) as (λ b. (if b then Some g else flight_of n fs) ≡ Some f → f.input ≡ 0) [
      | true ↦ λ e. subst (λ (x : Flight). x.input ≡ 0) (same_Some g f e) all.0
      | false ↦ λ e. found_first n fs f all.1 e
    ]) is

module _ (k : Given) (one : length k.starts ≡ 1) where
  abbrev IsPlaced : Failure → Type 0
  IsPlaced f = (offset : ℕ) × (f.place ≡ Some (0, offset))

  placed : (flight : Flight) (f : Failure) → flight.input ≡ 0 → f.place ≡ Some (flight.input, flight.envelope.offset) → IsPlaced f
  placed flight f first is = (flight.envelope.offset, is ∙ ap (λ (p : ℕ). Some (p, flight.envelope.offset)) first)

  of_turn : (h : List Event) (f : Failure) (turn : Turn) → IsLawful k h → is_window turn ≡ false → MayFail k h f turn → IsPlaced f
  of_turn h f (Call n) lawful call (inl may) =
      let is = failed_is may.flight (state_after k.state h) may.act (course k.setup (length may.flight.answers) may.act) f may.event in
      placed may.flight f (found_first n (flights k.setup h) may.flight (all_first k h one lawful) may.flies) (ap (λ (x : Failure). x.place) is.1)
  of_turn h f (Call n) lawful call (inr may) =
      placed may.flight f (found_first n (flights k.setup h) may.flight (all_first k h one lawful) may.flies) (ap (λ (x : Failure). x.place) may.failure)
  of_turn h f Window lawful call may = absurd (true≢false call)

  pub failure_placed : (h : List Event) (f : Failure) → IsLawful k h → first_failure h ≡ Some f → is_window f.turn ≡ false → IsPlaced f
  unfolding IsLawful first_failure
  failure_placed [] f lawful is call = absurd (none-some f is)
  failure_placed (Deliver n p o m t ∷ h) f lawful is call = failure_placed h f lawful.0 is call
  failure_placed (Did n i act answer ∷ h) f lawful is call = failure_placed h f lawful.0 is call
  failure_placed (Complete n ∷ h) f lawful is call = failure_placed h f lawful.0 is call
  failure_placed (Failed g ∷ h) f lawful is call = elim (first_of (first_failure h) g f is) [
    | inl now ↦ subst IsPlaced now.1 (of_turn h g g.turn lawful.0 (ap (λ (x : Failure). is_window x.turn) now.1 ∙ call) lawful.1)
    | inr before ↦ failure_placed h f lawful.0 before call
  ]
  failure_placed (WindowDid i act answer ∷ h) f lawful is call = failure_placed h f lawful.0 is call
  failure_placed (WindowEnded ∷ h) f lawful is call = failure_placed h f lawful.0 is call
