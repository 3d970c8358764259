-- From what the parts of a core are after a call to what the core is.
use Rattle.std.proofs.Common.{ℕ, ◌≡◌, ◌<◌, ◌∷◌, List, length, Option, Some, None, Result, Ok, Err, OnOk, OnErr, refl, sym, ◌∙◌, ap, subst}
use Rattle.samza_model.specs.declared.messages.Record.{Record}
use Rattle.samza_model.specs.declared.acts.Act.{Act}
use Rattle.samza_model.specs.declared.acts.Answer.{Answer}
use Rattle.samza_model.specs.declared.events.Event.{Event}
use Rattle.samza_model.specs.declared.events.Event.TheVariants.{Did, Complete, Failed}
use Rattle.samza_model.specs.Content.{answer_of}
use Rattle.samza_model.specs.declared.flights.Flight.{Flight}
use Rattle.samza_model.specs.Events.{flight_of, answered, begun, without, earlier}
use Rattle.samza_model.specs.declared.turns.Failure.{Failure}
use Rattle.samza_model.specs.declared.turns.Why.{Why}
use Rattle.std.proofs.Common.{◌+◌, ◌++◌, [], get_or, set, arith}
use Rattle.std.proofs.lemmas.List.{get_or_read}
use Rattle.samza_model.specs.declared.events.Event.TheVariants.{Deliver}
use Rattle.offset_window.specs.Windows.{Window, next_of, delivered, completed, is_inside, is_done}
use Rattle.core_steps.specs.Lanes.{lane_at, IsOpenAt}
use Rattle.core_steps.specs.Places.{place_failure}
use Rattle.samza_model.specs.Lawful.{course, failure_of}
use Rattle.samza_model.specs.Journals.{Trimmed, belongs}
use Rattle.std.specs.Prelude.{filter}
use Rattle.output_log.specs.Outputs.{Sent, IsCleared as AreCleared, cleared_at}
use Rattle.samza_model.specs.Content.{sent_at}
use Rattle.std.proofs.lemmas.List.{get_or_past}
use Rattle.std.proofs.Common.{◌≤◌, ◌⊎◌, inl, inr}
use Rattle.core_steps.specs.Held.{contents_of, tracked_at}
use Rattle.kv_store.specs.Tracked.{Tracked, no_keys}
use Rattle.callback_manager.specs.Callbacks.{CallbacksValue, entry_of}
use Rattle.callback_manager.specs.declared.callbacks.Entry.{Entry}
use Rattle.samza_model.specs.declared.acts.Act.TheVariants.{Done}
use Rattle.std.proofs.Common.{is_some, true, false, rules}
use Rattle.core_steps.specs.Held.{Held, state_of, held_after}
use Rattle.samza_model.specs.declared.acts.Scope.{Scope}
use Rattle.window_timer.specs.declared.times.Times.{Times}
use Rattle.window_timer.specs.Times.{commit_made}
use Rattle.core_steps.specs.Cores.{CoreValue, asked_behind, IsCore, MayBegin, next_at, Adds, IsBody, IsCallAct, deliver_event, act_event, after_deliver, after_act, after_complete, after_failure, after_commit, uncovered_now, IsCleared, Commits}
use Rattle.core_steps.proofs.Steps.{deliver_stands, act_stands, complete_stands, commit_stands, number_is, failure_stands}
use Rattle.core_steps.proofs.CoreKept.{deliver_core, acted_core, complete_core, commit_core, the_found, failure_core}

pub begun_core : (u v : CoreValue) (p : ℕ) (m : Record) → IsCore u → p < length u.starts → MayBegin u p → v ≡ after_deliver u p m → IsCore v
begun_core u v p m core lt may is = subst IsCore (sym is) (deliver_core u p m core lt may)

pub deliver_adds : {T E : Type 0} (r : Result T E) (u v : CoreValue) (p : ℕ) (m : Record) → IsCore u → p < length u.starts → MayBegin u p → OnOk r (v ≡ after_deliver u p m) → OnOk r (Adds (IsBody p (next_at u p) m) u v (deliver_event u p m))
deliver_adds (Ok x) u v p m core lt may is = subst (λ w. Adds (IsBody p (next_at u p) m) u w (deliver_event u p m)) (sym is) (record {
  same = λ o. refl;
  times = refl;
  last = refl;
  journal = refl;
  window = λ _. refl;
  history = λ o h a body s. deliver_stands u p m core lt may o h a body s;
})
deliver_adds (Err e) u v p m core lt may is = tt

-- the core with these parts
abbrev pub with_parts : CoreValue → CallbacksValue → Held → Trimmed → Option Scope → CoreValue
with_parts u callbacks held journal asked =
    record {
      setup = u.setup;
      starts = u.starts;
      ends = u.ends;
      lanes = u.lanes;
      callbacks = callbacks;
      held = held;
      failed = u.failed;
      window = u.window;
      since = journal.since;
      kept = journal.kept;
      times = u.times;
      asked = asked;
      last = u.last;
    }

abbrev pub with_flights : CallbacksValue → List Flight → CallbacksValue
with_flights c fs = record { flights = fs; next = c.next; limit = c.limit }

pub act_closes : (u : CoreValue) (n : ℕ) (a : Answer) (act : Act) (callbacks : CallbacksValue) (held : Held) (journal : Trimmed) (asked : Option Scope) → IsCore u
    → callbacks ≡ with_flights u.callbacks (answered n a u.callbacks.flights) → held ≡ held_after u.held act
    → IsCore (with_parts u callbacks held journal asked)
act_closes u n a act callbacks held journal asked core answered_ made =
    subst (λ (c : CallbacksValue). IsCore (with_parts u c held journal asked)) (sym answered_) (subst (λ (l : Held). IsCore (with_parts u (with_flights u.callbacks (answered n a u.callbacks.flights)) l journal asked)) (sym made) (acted_core u n a act journal.since journal.kept asked core))

pub act_undone : (u : CoreValue) (callbacks : CallbacksValue) (held : Held) (journal : Trimmed) → IsCore u
    → callbacks ≡ u.callbacks → held ≡ u.held → IsCore (with_parts u callbacks held journal u.asked)
act_undone u callbacks held journal core same kept =
    subst (λ (c : CallbacksValue). IsCore (with_parts u c held journal u.asked)) (sym same) (subst (λ (l : Held). IsCore (with_parts u u.callbacks l journal u.asked)) (sym kept) (record {
      inputs = core.inputs;
      lanes = core.lanes;
      ends = core.ends;
      within = core.within;
      spans = core.spans;
      limit = core.limit;
      sized = core.sized;
      undone = core.undone;
      apart = core.apart;
      idle = core.idle;
      timed = core.timed;
      runnable = core.runnable;
      few = core.few;
    }))

pub act_is : (u : CoreValue) (n made : ℕ) (a : Answer) (act : Act) (callbacks : CallbacksValue) (held : Held) (journal : Trimmed) (asked : Option Scope) (f : Flight) → flight_of n u.callbacks.flights ≡ Some f
    → made ≡ length f.answers → a ≡ answer_of (state_of u.held) act
    → callbacks ≡ with_flights u.callbacks (answered n a u.callbacks.flights) → held ≡ held_after u.held act
    → journal ≡ record { since = Did n made act a ∷ u.since; kept = u.kept } → asked ≡ asked_behind u act → with_parts u callbacks held journal asked ≡ after_act u f act
act_is u n made a act callbacks held journal asked f flies count answer answered_ made_ noted asked_is =
    let number = sym (number_is n u.callbacks.flights f flies) in
    (λ i. with_parts u (answered_ i) (made_ i) (noted i) (asked_is i))
    ∙ (λ i. with_parts u (with_flights u.callbacks (answered (number i) (answer i) u.callbacks.flights)) (held_after u.held act) (record { since = Did (number i) (count i) act (answer i) ∷ u.since; kept = u.kept }) (asked_behind u act))

pub act_adds : (u v : CoreValue) (n : ℕ) (f : Flight) (act : Act) → IsCore u → flight_of n u.callbacks.flights ≡ Some f → course u.setup (length f.answers) act ≡ None → v ≡ after_act u f act → Adds (IsCallAct f act) u v (act_event u f act)
act_adds u v n f act core flies goes is = subst (λ w. Adds (IsCallAct f act) u w (act_event u f act)) (sym is) (record {
  same = λ o. refl;
  times = refl;
  last = refl;
  journal = refl;
  window = λ _. refl;
  history = λ o h a of_job s. act_stands u n f act core flies goes o h a of_job s;
})

pub begun_is : (u : CoreValue) (p off : ℕ) (m : Record) (w : Window) (lanes : List Window) (callbacks : CallbacksValue) (journal : Trimmed) → IsCore u → p < length u.starts → w ≡ get_or u.lanes p w → off ≡ next_of w
    → lanes ≡ set u.lanes p (delivered (lane_at u.lanes p))
    → callbacks ≡ record { flights = u.callbacks.flights ++ begun u.setup u.callbacks.next p off m u.times.moment ∷ []; next = u.callbacks.next + 1; limit = u.callbacks.limit }
    → journal ≡ record { since = Deliver u.callbacks.next p off m u.times.moment ∷ u.since; kept = u.kept }
    → record { setup = u.setup; starts = u.starts; ends = u.ends; lanes = lanes; callbacks = callbacks; held = u.held; failed = u.failed; window = u.window; since = journal.since; kept = journal.kept; times = u.times; asked = u.asked; last = u.last } ≡ after_deliver u p m
begun_is u p off m w lanes callbacks journal core lt read off_is lanes_are began noted =
    let d : Window = record { low = 0; done = []; span = 0 } in
    let at : off ≡ next_at u p = off_is ∙ ap next_of (get_or_read u.lanes p w (omega (arith, lt, core.lanes)) read d) in
    (λ i. record { setup = u.setup; starts = u.starts; ends = u.ends; lanes = lanes_are i; callbacks = began i; held = u.held; failed = u.failed; window = u.window; since = (noted i).since; kept = (noted i).kept; times = u.times; asked = u.asked; last = u.last })
    ∙ (λ i. record {
      setup = u.setup;
      starts = u.starts;
      ends = u.ends;
      lanes = set u.lanes p (delivered (lane_at u.lanes p));
      callbacks = record { flights = u.callbacks.flights ++ begun u.setup u.callbacks.next p (at i) m u.times.moment ∷ []; next = u.callbacks.next + 1; limit = u.callbacks.limit };
      held = u.held;
      failed = u.failed;
      window = u.window;
      since = Deliver u.callbacks.next p (at i) m u.times.moment ∷ u.since;
      kept = u.kept;
      times = u.times;
      asked = u.asked;
      last = u.last;
    })

-- a callback ends

pub record IsReady (u : CoreValue) (e : Entry) : Type 0 where
  pub place : e.input < length u.lanes
  pub inside : is_inside (lane_at u.lanes e.input) e.envelope.offset ≡ true
  pub undone : is_done (lane_at u.lanes e.input) e.envelope.offset ≡ false

pub some_of : (o : Option Flight) → is_some o ≡ true → (f : Flight) × (o ≡ Some f)
some_of None e = absurd (clash e)
  where
    clash : false ≡ true → ⊥
    clash q = search rules
some_of (Some f) e = (f, refl)

pub ready : (u : CoreValue) (n : ℕ) (f : Flight) (e : Entry) → IsCore u → flight_of n u.callbacks.flights ≡ Some f → e ≡ entry_of f → IsReady u e
ready u n f e core flies is =
    let at = the_found (IsOpenAt u.lanes) n u.callbacks.flights f core.undone flies in
    subst (λ x. IsReady u x) (sym is) (record { place = at.input; inside = at.inside; undone = at.undone })

pub complete_is : (u : CoreValue) (n : ℕ) (f : Flight) (e : Entry) (lanes : List Window) (callbacks : CallbacksValue) (journal : Trimmed) → flight_of n u.callbacks.flights ≡ Some f → e ≡ entry_of f
    → lanes ≡ set u.lanes e.input (completed (lane_at u.lanes e.input) e.envelope.offset)
    → callbacks ≡ with_flights u.callbacks (without n u.callbacks.flights)
    → journal ≡ record { since = Complete n ∷ u.since; kept = u.kept }
    → record { setup = u.setup; starts = u.starts; ends = u.ends; lanes = lanes; callbacks = callbacks; held = u.held; failed = u.failed; window = u.window; since = journal.since; kept = journal.kept; times = u.times; asked = u.asked; last = u.last } ≡ after_complete u f
complete_is u n f e lanes callbacks journal flies is lanes_are ended noted =
    let number = sym (number_is n u.callbacks.flights f flies) in
    (λ i. record { setup = u.setup; starts = u.starts; ends = u.ends; lanes = lanes_are i; callbacks = ended i; held = u.held; failed = u.failed; window = u.window; since = (noted i).since; kept = (noted i).kept; times = u.times; asked = u.asked; last = u.last })
    ∙ (λ i. record {
      setup = u.setup;
      starts = u.starts;
      ends = u.ends;
      lanes = set u.lanes (is i).input (completed (lane_at u.lanes (is i).input) (is i).envelope.offset);
      callbacks = with_flights u.callbacks (without (number i) u.callbacks.flights);
      held = u.held;
      failed = u.failed;
      window = u.window;
      since = Complete (number i) ∷ u.since;
      kept = u.kept;
      times = u.times;
      asked = u.asked;
      last = u.last;
    })

pub completed_core : (u v : CoreValue) (n : ℕ) (f : Flight) → IsCore u → flight_of n u.callbacks.flights ≡ Some f → v ≡ after_complete u f → IsCore v
completed_core u v n f core flies is =
    subst IsCore (sym is) (complete_core u f core (ap (λ m. flight_of m u.callbacks.flights) (number_is n u.callbacks.flights f flies) ∙ flies))

pub complete_adds : (u v : CoreValue) (n : ℕ) (f : Flight) → IsCore u → flight_of n u.callbacks.flights ≡ Some f → v ≡ after_complete u f → Adds (IsCallAct f Done) u v (Complete f.number)
complete_adds u v n f core flies is = subst (λ w. Adds (IsCallAct f Done) u w (Complete f.number)) (sym is) (record {
  same = λ o. refl;
  times = refl;
  last = refl;
  journal = refl;
  window = λ _. refl;
  history = λ o h a of_job s. complete_stands u n f Done core flies refl o h a of_job s;
})

-- a callback fails

pub failure_is : (u : CoreValue) (n : ℕ) (f : Flight) (why : Why) (x : Failure) (failed : Option Failure) (callbacks : CallbacksValue) (journal : Trimmed) → flight_of n u.callbacks.flights ≡ Some f → x ≡ place_failure n f why
    → failed ≡ earlier u.failed x
    → callbacks ≡ with_flights u.callbacks (without n u.callbacks.flights)
    → journal ≡ record { since = Failed x ∷ u.since; kept = u.kept }
    → record { setup = u.setup; starts = u.starts; ends = u.ends; lanes = u.lanes; callbacks = callbacks; held = u.held; failed = failed; window = u.window; since = journal.since; kept = journal.kept; times = u.times; asked = u.asked; last = u.last } ≡ after_failure u f why
failure_is u n f why x failed callbacks journal flies is failed_is ended noted =
    let number = sym (number_is n u.callbacks.flights f flies) in
    let same : x ≡ failure_of f why = is ∙ ap (λ m. place_failure m f why) number in
    (λ i. record { setup = u.setup; starts = u.starts; ends = u.ends; lanes = u.lanes; callbacks = ended i; held = u.held; failed = failed_is i; window = u.window; since = (noted i).since; kept = (noted i).kept; times = u.times; asked = u.asked; last = u.last })
    ∙ (λ i. record {
      setup = u.setup;
      starts = u.starts;
      ends = u.ends;
      lanes = u.lanes;
      callbacks = with_flights u.callbacks (without (number i) u.callbacks.flights);
      held = u.held;
      failed = earlier u.failed (same i);
      window = u.window;
      since = Failed (same i) ∷ u.since;
      kept = u.kept;
      times = u.times;
      asked = u.asked;
      last = u.last;
    })

pub failed_core : (u v : CoreValue) (n : ℕ) (f : Flight) (why : Why) → IsCore u → flight_of n u.callbacks.flights ≡ Some f → v ≡ after_failure u f why → IsCore v
failed_core u v n f why core flies is =
    subst IsCore (sym is) (failure_core u f why core (ap (λ m. flight_of m u.callbacks.flights) (number_is n u.callbacks.flights f flies) ∙ flies))

pub failure_adds : (u v : CoreValue) (n : ℕ) (f : Flight) (act : Act) (why : Why) → IsCore u → flight_of n u.callbacks.flights ≡ Some f → course u.setup (length f.answers) act ≡ Some (Some why) → v ≡ after_failure u f why → Adds (IsCallAct f act) u v (Failed (failure_of f why))
failure_adds u v n f act why core flies ends is = subst (λ w. Adds (IsCallAct f act) u w (Failed (failure_of f why))) (sym is) (record {
  same = λ o. refl;
  times = refl;
  last = refl;
  journal = refl;
  window = λ _. refl;
  history = λ o h a of_job s. failure_stands u n f act why core flies ends o h a of_job s;
})

-- a mark is made

pub cleared_is : (old : Held) (stores : List Tracked) (o o' : Sent) → contents_of stores ≡ contents_of old.stores → ((i : ℕ) → i < length stores → (tracked_at stores i).dirty ≡ no_keys) → o ≡ record { unsent = old.unsent; cleared = old.cleared } → AreCleared o o' → IsCleared old (record { stores = stores; unsent = o'.unsent; cleared = o'.cleared })
cleared_is old stores o o' same clean is cleared =
    let at = subst (λ (x : Sent). AreCleared x o') is cleared in
    record {
      stores = same;
      as_many = at.as_many;
      none = λ j. by_place j (lt_cases j (length old.unsent)) at.none at.as_many;
      counted = at.counted;
      clean = clean;
    }
  where
    lt_cases : (a b : ℕ) → (a < b) ⊎ (b ≤ a)
    lt_cases a b = search (arith, rules)

    by_place : (j : ℕ) → (j < length old.unsent) ⊎ (length old.unsent ≤ j) → ((k : ℕ) → k < length old.unsent → sent_at o'.unsent k ≡ []) → length o'.unsent ≡ length old.unsent → sent_at o'.unsent j ≡ []
    by_place j (inl lt) none many = none j lt
    by_place j (inr le) none many = get_or_past o'.unsent j [] (omega (arith, le, many))

-- the core with what a mark changes
abbrev pub marked_parts : CoreValue → Held → Trimmed → Times → ℕ → CoreValue
marked_parts u held journal times last =
    record {
      setup = u.setup;
      starts = u.starts;
      ends = u.ends;
      lanes = u.lanes;
      callbacks = u.callbacks;
      held = held;
      failed = u.failed;
      window = u.window;
      since = journal.since;
      kept = journal.kept;
      times = times;
      asked = u.asked;
      last = last;
    }

pub commit_is : (u : CoreValue) (held : Held) (journal : Trimmed) (times : Times) (last : ℕ) (ns : List ℕ) → ns ≡ uncovered_now u
    → journal ≡ record { since = []; kept = filter (belongs ns) (u.since ++ u.kept) } → times ≡ commit_made u.times → last ≡ u.last + 1
    → marked_parts u held journal times last ≡ after_commit u held
commit_is u held journal times last ns is trimmed restarted next =
    (λ i. marked_parts u held (trimmed i) (restarted i) (next i))
    ∙ (λ i. marked_parts u held (record { since = []; kept = filter (belongs (is i)) (u.since ++ u.kept) }) (commit_made u.times) (u.last + 1))

pub committed_core : (u v : CoreValue) (held : Held) → IsCore u → IsCleared u.held held → v ≡ after_commit u held → IsCore v
committed_core u v held core cleared is = subst IsCore (sym is) (commit_core u held core cleared)

pub commits : (u v : CoreValue) (held : Held) → IsCore u → IsCleared u.held held → v ≡ after_commit u held → Commits u v
commits u v held core cleared is = subst (Commits u) (sym is) (record {
  same = λ o. refl;
  times = refl;
  last = refl;
  journal = refl;
  window = refl;
  history = λ o h a s. commit_stands u held core cleared o h a s;
})
