-- One message in flight at a time: the job does whole messages, one after another.
use Rattle.std.proofs.Common.{ℕ, ◌-◌, ◌≡◌, ◌≢◌, ◌<◌, ◌⊎◌, inl, inr, Bool, true, false, ◌==◌, if◌then◌else◌, List, [], ◌∷◌, ◌++◌, length, Option, Some, None, refl, sym, ◌∙◌, ap, subst, arith}
use Rattle.std.proofs.lemmas.List.{length-append}
use Rattle.std.proofs.lemmas.Option.{none-some}
use Rattle.samza_model.specs.declared.messages.Envelope.{Envelope}
use Rattle.samza_model.specs.declared.messages.Record.{Record}
use Rattle.samza_model.specs.declared.acts.Act.{Act}
use Rattle.samza_model.specs.declared.acts.Answer.{Answer}
use Rattle.samza_model.specs.declared.turns.Turn.{Turn}
use Rattle.samza_model.specs.declared.turns.Turn.TheVariants.{Call, Window}
use Rattle.samza_model.specs.declared.turns.Failure.{Failure}
use Rattle.samza_model.specs.declared.turns.Why.{Why}
use Rattle.samza_model.specs.declared.flights.Flight.{Flight}
use Rattle.samza_model.specs.declared.events.Event.{Event}
use Rattle.samza_model.specs.declared.events.Event.TheVariants.{Deliver, Did, Complete, Failed, WindowDid, WindowEnded}
use Rattle.samza_model.specs.Content.{State, answer_of, changed}
use Rattle.samza_model.specs.Events.{answered, begun, earlier, first_failure, flight_of, flights, ssp_at, state_after, with_answer, without, without_turn}
use Rattle.samza_model.specs.Lawful.{Given, IsLawful, MayAct, MayExpire, MayFail, call_event, course, IsAct}
use Rattle.samza_model.specs.Meaning.{Meaning}
use Rattle.samza_model.specs.Ran.{HasNoWindows, is_window}
use Rattle.samza_model.specs.Runs.{Run, end_at, folds, run_on, runs}
use Rattle.samza_model.proofs.Laws.{fold_more, fold_of_none, turn_ends, turn_goes_on, turn_is_over}
use Rattle.history_laws.specs.Fails.{IsNotExpired, IsOfLast}
use Rattle.history_laws.specs.Folds.{delivered}
use Rattle.history_laws.proofs.Turning.{complete_is, did_is, failed_is, fails_by, goes_on, is_done}
use Rattle.history_laws.proofs.Expiring.{first_of}

module _ (job : Meaning) (k : Given) (told : k.job ≡ Some job) (alone : k.setup.concurrency ≡ 1) where
  -- nothing is in flight
  record IsIdle (h : List Event) : Type 0 where
    pub none : flights k.setup h ≡ []
    pub done : folds job k.setup (delivered k.setup h) k.state ≡ Some (state_after k.state h)

  -- one message is in flight, and was done so far
  record IsBusy (h : List Event) (f : Flight) : Type 0 where
    pub one : flights k.setup h ≡ f ∷ []
    pub earlier_ones : List Envelope
    pub state : State
    pub last : delivered k.setup h ≡ earlier_ones ++ f.envelope ∷ []
    pub done : folds job k.setup earlier_ones k.state ≡ Some state
    pub among : f.input < length k.starts
    pub ssp : f.envelope.ssp ≡ ssp_at k.setup f.input
    pub so_far : runs job k.setup f.envelope state ≡ run_on job k.setup f.envelope (1023 - length f.answers) (state_after k.state h) f.answers

  abbrev IsStage : List Event → Type 0
  IsStage h = IsIdle h ⊎ ((f : Flight) × IsBusy h f)

  -- the one in flight
  the_one : (n : ℕ) (f g : Flight) → flight_of n (f ∷ []) ≡ Some g → ((f.number == n) ≡ true) × (f ≡ g)
  the_one n f g = elim (f.number == n) as (λ b. (if b then Some f else None) ≡ Some g → (b ≡ true) × (f ≡ g)) [
    | true ↦ λ is. (refl, some_is is)
    | false ↦ λ is. absurd (none-some g is)
  ]
    where
      some_is : Some f ≡ Some g → f ≡ g
      some_is is = cc

  -- an act of the one in flight
  record ActsOn (h : List Event) (f : Flight) (n : ℕ) (e : Event) : Type 0 where
    pub number : (f.number == n) ≡ true
    pub act : Act
    pub of_job : act ≡ job.act f.envelope f.answers
    pub event : e ≡ call_event f (state_after k.state h) act (course k.setup (length f.answers) act)

  is_act : (e : Envelope) (answers : List Answer) (act : Act) → IsAct k.job e answers act → act ≡ job.act e answers
  is_act e answers act = λ is. subst (λ (j : Option Meaning). IsAct j e answers act) told is

  acts_on : (h : List Event) (f : Flight) (n : ℕ) (e : Event) → flights k.setup h ≡ f ∷ [] → MayAct k h n e → ActsOn h f n e
  acts_on h f n e one may =
      let the = the_one n f may.flight (sym (ap (flight_of n) one) ∙ may.flies) in
      let P : Flight → Type 0 = λ g. (act : Act) × (act ≡ job.act g.envelope g.answers) × (e ≡ call_event g (state_after k.state h) act (course k.setup (length g.answers) act)) in
      let of_it = subst P (sym the.1) (may.act, is_act may.flight.envelope may.flight.answers may.act may.of_job, may.event) in
      record { number = the.0; act = of_it.0; of_job = of_it.1; event = of_it.2 }

  no_flight : (n : ℕ) (h : List Event) (e : Event) → flights k.setup h ≡ [] → MayAct k h n e → ⊥
  no_flight n h e none may = none-some may.flight (sym (ap (flight_of n) none) ∙ may.flies)

  answered_one : (n : ℕ) (a : Answer) (f : Flight) → (f.number == n) ≡ true → answered n a (f ∷ []) ≡ with_answer a f ∷ []
  answered_one n a f is = ap (λ (b : Bool). if b then with_answer a f ∷ [] else f ∷ []) is

  without_one : (n : ℕ) (f : Flight) → (f.number == n) ≡ true → without n (f ∷ []) ≡ []
  without_one n f is = ap (λ (b : Bool). if b then [] else f ∷ []) is

  begins : (h : List Event) (n p o : ℕ) (m : Record) (t : ℕ) → p < length k.starts → length (flights k.setup h) < k.setup.concurrency → IsStage h → IsStage (Deliver n p o m t ∷ h)
  unfolding flights delivered state_after
  begins h n p o m t among room (inl idle) = inr (
    begun k.setup n p o m t,
    record {
      one = ap (λ (fs : List Flight). fs ++ begun k.setup n p o m t ∷ []) idle.none;
      earlier_ones = delivered k.setup h;
      state = state_after k.state h;
      last = refl;
      done = idle.done;
      among = among;
      ssp = refl;
      so_far = refl;
    },
  )
  begins h n p o m t among room (inr (f, busy)) = absurd (omega (arith, room, alone, ap length busy.one))

  acts : (h : List Event) (n i : ℕ) (did : Act) (answer : Answer) → MayAct k h n (Did n i did answer) → IsStage h → IsStage (Did n i did answer ∷ h)
  unfolding flights delivered state_after
  acts h n i did answer may (inl idle) = absurd (no_flight n h (Did n i did answer) idle.none may)
  acts h n i did answer may (inr (f, busy)) =
      let s = k.setup in
      let state = state_after k.state h in
      let on = acts_on h f n (Did n i did answer) busy.one may in
      let is = did_is f state on.act (course s (length f.answers) on.act) n i did answer on.event in
      let goes = goes_on (length f.answers) (end_at s on.act) is.0 in
      let of_job : did ≡ job.act f.envelope f.answers = is.1 ∙ on.of_job in
      let on_end : end_at s did ≡ None = ap (end_at s) is.1 ∙ goes.0 in
      let same_answer : answer_of state did ≡ answer = ap (answer_of state) is.1 ∙ sym is.2 in
      let left = 1023 - length f.answers in
      let some : left ≢ 0 = λ none. absurd (omega (arith, none, goes.1)) in
      let fewer : left - 1 ≡ 1023 - length (f.answers ++ answer ∷ []) = omega (arith, length-append f.answers (answer ∷ [])) in
      inr (
        with_answer answer f,
        record {
          one = ap (answered n answer) busy.one ∙ answered_one n answer f on.number;
          earlier_ones = busy.earlier_ones;
          state = busy.state;
          last = busy.last;
          done = busy.done;
          among = busy.among;
          ssp = busy.ssp;
          so_far = busy.so_far
              ∙ turn_goes_on job s f.envelope state f.answers left did of_job on_end some
              ∙ ap (λ (a : Answer). run_on job s f.envelope (left - 1) (changed state did) (f.answers ++ a ∷ [])) same_answer
              ∙ ap (λ (x : ℕ). run_on job s f.envelope x (changed state did) (f.answers ++ answer ∷ [])) fewer;
        },
      )

  completes : (h : List Event) (n : ℕ) → MayAct k h n (Complete n) → IsStage h → IsStage (Complete n ∷ h)
  unfolding flights delivered state_after
  completes h n may (inl idle) = absurd (no_flight n h (Complete n) idle.none may)
  completes h n may (inr (f, busy)) =
      let s = k.setup in
      let state = state_after k.state h in
      let on = acts_on h f n (Complete n) busy.one may in
      let end = is_done (length f.answers) (end_at s on.act) (complete_is f state on.act (course s (length f.answers) on.act) n on.event) in
      inl (record {
        none = ap (without n) busy.one ∙ without_one n f on.number;
        done = ap (λ (es : List Envelope). folds job s es k.state) busy.last
            ∙ fold_more job s busy.earlier_ones f.envelope k.state busy.state state busy.done
            (busy.so_far ∙ turn_ends job s f.envelope state f.answers (1023 - length f.answers) on.act None on.of_job end);
      })

  not_sound : (x : Option Failure) (f : Failure) → earlier x f ≡ None → ⊥
  not_sound None f is = none-some f (sym is)
  not_sound (Some e) f is = none-some e (sym is)

  stage : (h : List Event) → HasNoWindows None h → IsLawful k h → first_failure h ≡ None → IsStage h
  unfolding IsLawful first_failure flights delivered state_after
  stage [] quiet lawful sound = inl (record { none = refl; done = fold_of_none job k.setup k.state })
  stage (Deliver n p o m t ∷ h) quiet lawful sound = begins h n p o m t lawful.1.input lawful.1.room (stage h quiet.1 lawful.0 sound)
  stage (Did n i act answer ∷ h) quiet lawful sound = acts h n i act answer lawful.1 (stage h quiet.1 lawful.0 sound)
  stage (Complete n ∷ h) quiet lawful sound = completes h n lawful.1 (stage h quiet.1 lawful.0 sound)
  stage (Failed f ∷ h) quiet lawful sound = absurd (not_sound (first_failure h) f sound)
  stage (WindowDid i act answer ∷ h) quiet lawful sound = absurd cc
  stage (WindowEnded ∷ h) quiet lawful sound = absurd cc

  -- nothing is in flight any more, and the one that failed was the last
  record IsOver (h : List Event) (f : Failure) : Type 0 where
    pub none : flights k.setup h ≡ []
    pub last : IsNotExpired f.why → IsOfLast job k h f

  -- what the job leaves of a message at an act that fails it
  failed_run : (e : Envelope) (state : State) (answers : List Answer) (act : Act) (why : Why) → act ≡ job.act e answers → course k.setup (length answers) act ≡ Some (Some why)
      → run_on job k.setup e (1023 - length answers) state answers ≡ record { state = state; end = Some why }
  failed_run e state answers act why of_job is = elim (fails_by (length answers) (end_at k.setup act) why is) [
    | inl at ↦ turn_ends job k.setup e state answers (1023 - length answers) act (Some why) of_job at
    | inr over ↦
        turn_is_over job k.setup e state answers (1023 - length answers) act of_job over.0 (omega (arith, over.1))
        ∙ ap (λ (w : Why). record { state = state; end = Some w }) over.2
  ]

  fails : (h : List Event) (n : ℕ) (f : Failure) (g : Flight) → MayAct k h n (Failed f) → IsBusy h g → IsOfLast job k (Failed f ∷ h) f
  unfolding delivered state_after
  fails h n f g may busy =
      let state = state_after k.state h in
      let on = acts_on h g n (Failed f) busy.one may in
      let is = failed_is g state on.act (course k.setup (length g.answers) on.act) f on.event in
      let run : runs job k.setup g.envelope busy.state ≡ record { state = state; end = Some f.why } =
      busy.so_far ∙ failed_run g.envelope state g.answers on.act f.why on.of_job is.0 in
      record {
        before = busy.earlier_ones;
        last = g.envelope;
        all = busy.last;
        state = busy.state;
        done = busy.done;
        why = ap (λ (r : Run). r.end) run;
        left = ap (λ (r : Run). r.state) run;
        input = g.input;
        among = busy.among;
        ssp = busy.ssp;
        place = ap (λ (x : Failure). x.place) is.1;
      }

  is_expired : (h : List Event) (n : ℕ) (f : Failure) → MayExpire k h n f → IsNotExpired f.why → ⊥
  is_expired h n f may not = subst (λ (x : Failure). IsNotExpired x.why) may.failure not

  taken_out : (h : List Event) (n : ℕ) (f g : Flight) → flight_of n (flights k.setup h) ≡ Some g → IsBusy h f → without n (flights k.setup h) ≡ []
  taken_out h n f g flies busy = ap (without n) busy.one ∙ without_one n f (the_one n f g (sym (ap (flight_of n) busy.one) ∙ flies)).0

  none_flies : (n : ℕ) (fs : List Flight) (f : Flight) → fs ≡ [] → flight_of n fs ≡ Some f → ⊥
  none_flies n fs f none flies = none-some f (sym (ap (flight_of n) none) ∙ flies)

  none_fails : (h : List Event) (f : Failure) (turn : Turn) → is_window turn ≡ false → MayFail k h f turn → flights k.setup h ≡ [] → ⊥
  none_fails h f (Call n) quiet (inl may) none = no_flight n h (Failed f) none may
  none_fails h f (Call n) quiet (inr may) none = none_flies n (flights k.setup h) may.flight none may.flies
  none_fails h f Window quiet may none = absurd cc

  ends : (h : List Event) (f : Failure) (turn : Turn) → is_window turn ≡ false → MayFail k h f turn → IsStage h → (without_turn turn (flights k.setup h) ≡ []) × (IsNotExpired f.why → IsOfLast job k (Failed f ∷ h) f)
  ends h f Window quiet may stands = absurd cc
  ends h f (Call n) quiet may (inl idle) = absurd (none_fails h f (Call n) quiet may idle.none)
  ends h f (Call n) quiet (inl may) (inr (g, busy)) = (taken_out h n g may.flight may.flies busy, λ _. fails h n f g may busy)
  ends h f (Call n) quiet (inr may) (inr (g, busy)) = (taken_out h n g may.flight may.flies busy, λ not. absurd (is_expired h n f may not))

  over : (h : List Event) → HasNoWindows None h → IsLawful k h → (f : Failure) → first_failure h ≡ Some f → IsOver h f
  unfolding IsLawful first_failure flights
  over [] quiet lawful f is = absurd (none-some f is)
  over (Deliver n p o m t ∷ h) quiet lawful f is = absurd (none-some f (sym lawful.1.sound ∙ is))
  over (Did n i act answer ∷ h) quiet lawful f is = absurd (no_flight n h (Did n i act answer) (over h quiet.1 lawful.0 f is).none lawful.1)
  over (Complete n ∷ h) quiet lawful f is = absurd (no_flight n h (Complete n) (over h quiet.1 lawful.0 f is).none lawful.1)
  over (Failed g ∷ h) quiet lawful f is = elim (first_of (first_failure h) g f is) [
    | inl now ↦
        let end = ends h g g.turn quiet.0 lawful.1 (stage h quiet.1 lawful.0 now.0) in
        subst (IsOver (Failed g ∷ h)) now.1 (record { none = end.0; last = end.1 })
    | inr before ↦ absurd (none_fails h g g.turn quiet.0 lawful.1 (over h quiet.1 lawful.0 f before).none)
  ]
  over (WindowDid i act answer ∷ h) quiet lawful f is = absurd cc
  over (WindowEnded ∷ h) quiet lawful f is = absurd cc

  pub folded : (h : List Event) → HasNoWindows None h → IsLawful k h → flights k.setup h ≡ [] → first_failure h ≡ None → folds job k.setup (delivered k.setup h) k.state ≡ Some (state_after k.state h)
  folded h quiet lawful idle sound = at_end (stage h quiet lawful sound)
    where
      at_end : IsStage h → folds job k.setup (delivered k.setup h) k.state ≡ Some (state_after k.state h)
      at_end (inl stands) = stands.done
      at_end (inr (f, busy)) = absurd (omega (arith, ap length (sym idle ∙ busy.one)))

pub failure_is_the_folds : (job : Meaning) (k : Given) (h : List Event) (f : Failure) → k.job ≡ Some job → k.setup.concurrency ≡ 1 → HasNoWindows None h
    → IsLawful k h → first_failure h ≡ Some f → IsNotExpired f.why → IsOfLast job k h f
failure_is_the_folds job k h f told alone quiet lawful is not = (over job k told alone h quiet lawful f is).last not
