-- What a message that is delivered, and an act, make of a unit that goes on.
use Rattle.std.proofs.Common.{ℕ, ◌+◌, ◌-◌, ◌*◌, ◌≡◌, ◌<◌, ◌≤◌, true, false, if◌then◌else◌, List, [], ◌∷◌, ◌++◌, length, get_or, Option, Some, None, refl, sym, ◌∙◌, ap, subst, arith, true≢false, nat_lt}
use Rattle.std.proofs.lemmas.Bool.{ltb-true}
use Rattle.std.proofs.lemmas.Option.{none-some}
use Rattle.samza_model.specs.declared.messages.Record.{Record}
use Rattle.samza_model.specs.declared.acts.Act.{Act}
use Rattle.samza_model.specs.declared.turns.Failure.{Failure}
use Rattle.samza_model.specs.declared.turns.Why.{Why}
use Rattle.samza_model.specs.declared.turns.Why.TheVariants.{TooMany}
use Rattle.samza_model.specs.Ran.{is_of_window}
use Rattle.history_laws.specs.Fails.{IsNotExpired}
use Rattle.std.specs.List.{AllByRecursion}
use Rattle.samza_model.specs.declared.setups.Setup.{Setup}
use Rattle.samza_model.specs.declared.events.Event.{Event}
use Rattle.samza_model.specs.declared.events.Event.TheVariants.{Deliver, Did, Complete, Failed}
use Rattle.samza_model.specs.declared.flights.Flight.{Flight}
use Rattle.samza_model.specs.Content.{State, answer_of}
use Rattle.samza_model.specs.Events.{answered, begun, deliveries_of, earlier, first_failure, flight_of, flights, without}
use Rattle.samza_model.specs.Files.{Image}
use Rattle.samza_model.specs.Histories.{marked, whole}
use Rattle.samza_model.specs.Lawful.{call_event, course, ends_or_goes_on, failure_of}
use Rattle.samza_model.specs.Meaning.{Meaning}
use Rattle.samza_model.specs.Runs.{End, end_at}
use Rattle.history_laws.specs.Answers.{HasFewAnswers}
use Rattle.history_laws.proofs.Shared.{at_course, few_answers}
use Rattle.core_steps.specs.Cores.{given, next_at, Stands as CoreStands}
use Rattle.task_core.specs.Acting.{applied}
use Rattle.unit_steps.specs.Units.{UnitValue, Adds}
use Rattle.run_loop.specs.Measures.{acts_left, turns_left}
use Rattle.run_loop.specs.Messages.{IsOfMessage}
use Rattle.run_loop.specs.Runs.{IsGoing, IsStanding}
use Rattle.run_loop.specs.Stops.{IsFailed}
use Rattle.run_loop.proofs.Counting.{acts_answered, acts_more, acts_without, number_is, the_found}
use Rattle.run_loop.proofs.Standing.{ends_are, flies_as, next_more, one_input}

-- a message is delivered
fewer : (end next next' : ℕ) (before after : List Flight) → next < end → next' ≡ next + 1 → acts_left after ≡ acts_left before + 1024
    → 1025 * (end - next') + acts_left after < 1025 * (end - next) + acts_left before
fewer end next next' before after lt more acts = omega (arith, lt, more, acts)

-- an act that is answered has fewer than 1,023 before it
goes_on : (s : Setup) (made : ℕ) (act : Act) → course s made act ≡ None → made < 1023
goes_on s made act is = by_end (end_at s act) is
  where
    below : (if nat_lt made 1023 then None else Some (Some TooMany)) ≡ None → made < 1023
    below is = (elim (nat_lt made 1023) as (λ b. nat_lt made 1023 ≡ b → (if b then None else Some (Some TooMany)) ≡ None → made < 1023) [
      | true ↦ λ lt is. ltb-true made 1023 lt
      | false ↦ λ ge is. absurd (none-some (Some TooMany) (sym is))
    ]) refl is

    by_end : (x : Option End) → ends_or_goes_on made x ≡ None → made < 1023
    by_end None is = below is
    by_end (Some end) is = absurd (none-some end (sym is))

-- an act's event is of a message
act_of_message : (f : Flight) (state : State) (act : Act) (end : Option End) → ((why : Why) → end ≡ Some (Some why) → IsNotExpired why) → IsOfMessage (call_event f state act end)
act_of_message f state act None not = tt
act_of_message f state act (Some None) not = tt
act_of_message f state act (Some (Some why)) not = (refl, not why refl)

pub of_message : (s : Setup) (f : Flight) (state : State) (act : Act) → IsOfMessage (call_event f state act (course s (length f.answers) act))
of_message s f state act = act_of_message f state act (course s (length f.answers) act) (λ why is. at_course s (length f.answers) act why is)

module _ {P D S : Type 0} (meaning : P → Meaning) (tells : Type 0) (reads : D → Image) (number : D → ℕ) (images : D → Image → Type 0) (since : D → ℕ → Image → Type 0) (old new : UnitValue P D S)
    (st : IsStanding meaning tells reads number images since old) (going : IsGoing old) where
  module _ (e : Event) (a : Adds meaning tells reads number images since old new e) where
    after : CoreStands st.outside new.core (e ∷ whole st.history) (length (marked st.history))
    after = (a.history st.outside st.history st.stands).core

    flights_after : new.core.callbacks.flights ≡ flights old.core.setup (e ∷ whole st.history)
    flights_after = flies_as st.outside old.core new.core (a.same.core st.outside) (whole st.history) (e ∷ whole st.history) (length (marked st.history)) (length (marked st.history)) st.stands.core after

    next_after : (n : ℕ) → deliveries_of 0 (e ∷ whole st.history) ≡ deliveries_of 0 (whole st.history) + n → next_at new.core 0 ≡ next_at old.core 0 + n
    next_after n more = next_more st.outside old.core new.core (a.same.core st.outside) (whole st.history) (e ∷ whole st.history) (length (marked st.history)) (length (marked st.history)) n (one_input old.core st.core st.set_up) st.stands.core after more

    failed_after : new.core.failed ≡ first_failure (e ∷ whole st.history)
    failed_after = after.failed

    still_unbroken : new.broken ≡ false
    still_unbroken = a.marks.2 ∙ going.unbroken

    ends_after : get_or new.core.ends 0 0 ≡ get_or old.core.ends 0 0
    ends_after = ends_are st.outside old.core new.core (a.same.core st.outside)

  module _ (n o : ℕ) (m : Record) (t : ℕ) (a : Adds meaning tells reads number images since old new (Deliver n 0 o m t)) (more : next_at old.core 0 < get_or old.core.ends 0 0) where
    pub going_delivered : IsGoing new
    unfolding first_failure
    going_delivered = record {
      sound = failed_after (Deliver n 0 o m t) a ∙ sym st.stands.core.failed ∙ going.sound;
      unbroken = still_unbroken (Deliver n 0 o m t) a;
      closed = a.window refl ∙ going.closed;
    }

    pub left_delivered : turns_left new.core < turns_left old.core
    unfolding flights deliveries_of
    left_delivered =
        let e : Event = Deliver n 0 o m t in
        let next = next_after e a 1 refl in
        let flies : new.core.callbacks.flights ≡ old.core.callbacks.flights ++ begun old.core.setup n 0 o m t ∷ [] =
        flights_after e a ∙ ap (λ (fs : List Flight). fs ++ begun old.core.setup n 0 o m t ∷ []) (sym st.stands.core.flies) in
        let acts : acts_left new.core.callbacks.flights ≡ acts_left old.core.callbacks.flights + 1024 = ap acts_left flies ∙ acts_more old.core.callbacks.flights (begun old.core.setup n 0 o m t) refl in
        subst (λ (end : ℕ). 1025 * (end - next_at new.core 0) + acts_left new.core.callbacks.flights < 1025 * (get_or old.core.ends 0 0 - next_at old.core 0) + acts_left old.core.callbacks.flights)
        (sym (ends_after e a))
        (fewer (get_or old.core.ends 0 0) (next_at old.core 0) (next_at new.core 0) old.core.callbacks.flights new.core.callbacks.flights more next acts)

  module _ (n : ℕ) (f : Flight) (flies : flight_of n old.core.callbacks.flights ≡ Some f) (state : State) (act : Act) where
    few : length f.answers ≤ 1023
    few = the_found HasFewAnswers n old.core.callbacks.flights f
        (subst (λ (fs : List Flight). AllByRecursion HasFewAnswers fs) (sym st.stands.core.flies) (few_answers (given st.outside old.core) (whole st.history) st.stands.core.lawful)) flies

    -- the turns that are left, by the acts
    less : (e : Event) (a : Adds meaning tells reads number images since old new e) → deliveries_of 0 (e ∷ whole st.history) ≡ deliveries_of 0 (whole st.history)
        → acts_left new.core.callbacks.flights < acts_left old.core.callbacks.flights → turns_left new.core < turns_left old.core
    less e a none acts =
        let next = next_after e a 0 (omega (arith, none)) in
        let same : next_at new.core 0 ≡ next_at old.core 0 = omega (arith, next) in
        let ends = ends_after e a in
        omega (arith, ap (λ (x : ℕ). 1025 * (get_or new.core.ends 0 0 - x)) same, ap (λ (x : ℕ). 1025 * (x - next_at old.core 0)) ends, acts)

    -- the unit goes on, or its turn failed
    abbrev pub Outcome : Option End → Type 0
    Outcome end = ((applied act end).failed ≡ false → IsGoing new × (turns_left new.core < turns_left old.core)) × ((applied act end).failed ≡ true → IsFailed new)

    goes : (e : Event) (a : Adds meaning tells reads number images since old new e) → is_of_window e ≡ false → first_failure (e ∷ whole st.history) ≡ first_failure (whole st.history) → IsGoing new
    goes e a none sound = record {
      sound = failed_after e a ∙ sound ∙ sym st.stands.core.failed ∙ going.sound;
      unbroken = still_unbroken e a;
      closed = a.window none ∙ going.closed;
    }

    pub outcome : (end : Option End) → course old.core.setup (length f.answers) act ≡ end → Adds meaning tells reads number images since old new (call_event f state act end) → Outcome end
    unfolding flights deliveries_of first_failure
    outcome None is a =
        let e : Event = Did f.number (length f.answers) act (answer_of state act) in
        let number = number_is n old.core.callbacks.flights f flies in
        let after : new.core.callbacks.flights ≡ answered n (answer_of state act) old.core.callbacks.flights =
        flights_after e a ∙ ap (λ (fs : List Flight). answered f.number (answer_of state act) fs) (sym st.stands.core.flies) ∙ ap (λ (k : ℕ). answered k (answer_of state act) old.core.callbacks.flights) number in (
          λ go. (goes e a refl refl, less e a refl (subst (λ (fs : List Flight). acts_left fs < acts_left old.core.callbacks.flights) (sym after) (acts_answered n (answer_of state act) old.core.callbacks.flights f flies (goes_on old.core.setup (length f.answers) act is)))),
          λ stop. absurd (true≢false (sym stop)),
        )
    outcome (Some None) is a =
        let e : Event = Complete f.number in
        let number = number_is n old.core.callbacks.flights f flies in
        let after : new.core.callbacks.flights ≡ without n old.core.callbacks.flights =
        flights_after e a ∙ ap (λ (fs : List Flight). without f.number fs) (sym st.stands.core.flies) ∙ ap (λ (k : ℕ). without k old.core.callbacks.flights) number in (
          λ go. (goes e a refl refl, less e a refl (subst (λ (fs : List Flight). acts_left fs < acts_left old.core.callbacks.flights) (sym after) (acts_without n old.core.callbacks.flights f flies few))),
          λ stop. absurd (true≢false (sym stop)),
        )
    outcome (Some (Some why)) is a =
        let e : Event = Failed (failure_of f why) in (
          λ go. absurd (true≢false go),
          λ stop. record {
            failure = failure_of f why;
            is = failed_after e a ∙ ap (λ (x : Option Failure). earlier x (failure_of f why)) (sym st.stands.core.failed ∙ going.sound);
            unbroken = still_unbroken e a;
          },
        )
