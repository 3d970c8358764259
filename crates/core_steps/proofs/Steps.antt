-- Each call's step leaves the core standing by the events before and its own.
use Rattle.std.proofs.Common.{ℕ, zero, suc, ◌+◌, ◌-◌, ◌≡◌, ◌≢◌, ◌<◌, ◌≤◌, ◌⊎◌, inl, inr, Bool, true, false, ◌&&◌, ◌||◌, ◌==◌, eqb, ltb, leb, if◌then◌else◌, List, [], ◌∷◌, ◌++◌, length, get_or, set, take, drop, Option, Some, None, cond, refl, sym, ◌∙◌, ap, subst, arith, rules, eq-eqb, append_assoc}
use Rattle.std.proofs.lemmas.Bool.{cases_eq, ne_eqb}
use Rattle.std.proofs.lemmas.List.{get_or-set_same, get_or-set_other, length-set, get_or-map, map-set}
use Rattle.samza_model.specs.declared.messages.Record.{Record}
use Rattle.samza_model.specs.declared.acts.Act.{Act}
use Rattle.samza_model.specs.declared.acts.Act.TheVariants.{Get, Next, Put, Delete, Send, AskCommit, AskShutdown, Done, Fail}
use Rattle.samza_model.specs.declared.acts.Answer.{Answer}
use Rattle.samza_model.specs.declared.turns.Why.{Why}
use Rattle.samza_model.specs.declared.turns.Why.TheVariants.{Limits}
use Rattle.samza_model.specs.declared.turns.Failure.{Failure}
use Rattle.std.specs.List.{AllByRecursion}
use Rattle.std.specs.Prelude.{IfSome}
use Rattle.samza_model.specs.declared.setups.Setup.{Setup}
use Rattle.samza_model.specs.declared.events.Event.{Event}
use Rattle.samza_model.specs.declared.events.Event.TheVariants.{Deliver, Did, Complete, Failed, WindowDid, WindowEnded}
use Rattle.std.specs.FinMap as fin
use Rattle.samza_model.specs.Content.{found, found_pair, next_pair, Content, State, changed, answer_of, sent_at, store_at, nothing_stored, updated}
use Rattle.samza_model.specs.Limits.{act_fits}
use Rattle.samza_model.specs.Runs.{End}
use Rattle.samza_model.specs.declared.flights.Flight.{Flight}
use Rattle.samza_model.specs.Events.{flight_of, begun, is_at, flights, answered, without, deliveries, deliveries_of, is_covered, past, low, first_failure, earlier, window_open, window_answers, state_after, older, newer}
use Rattle.samza_model.specs.Lawful.{ends_or_goes_on, IsWindowAct, Given, IsLawful, MayDeliver, MayAct, MayWindow, start_at, course, call_event, window_event, failure_of, window_failure}
use Rattle.samza_model.specs.declared.acts.Scope.{Scope}
use Rattle.samza_model.specs.declared.acts.Scope.TheVariants.{CurrentTask, AllTasks}
use Rattle.samza_model.specs.Requests.{greater_scope, shutdown_of, shutdown_asked}
use Rattle.samza_model.specs.Journals.{kept_of}
use Rattle.kv_store.specs.Tracked.{Tracked, Keys, no_keys, with_change, with_key, AgreesOnClean}
use Rattle.kv_store.proofs.Laws.{AgreesOnClean-more}
use Rattle.offset_window.specs.Windows.{Window, next_of, is_inside, is_done, delivered, completed}
use Rattle.core_steps.specs.Changes.{changed_in, with_act}
use Rattle.core_steps.specs.Held.{Held, IsSized, tracked_at, contents_of, state_of, held_after}
use Rattle.core_steps.specs.Lanes.{lane_at, IsLane, IsOpenAt, AreApart}
use Rattle.core_steps.specs.Cores.{CoreValue, Outside, given, IsIdle, IsCore, IsHeld, IsWindow, Stands, MayBegin, next_at, IsBody, IsCallAct, IsWinAct, deliver_event, act_event, window_act_event, after_deliver, after_act, after_complete, after_failure, after_window_act, after_window_end, after_window_failure, after_open_window, after_commit, uncovered_now, IsCleared}
use Rattle.core_steps.specs.Laws.{IsFresh, FreshStands, CommitStands, DeliverStands, ActStands, CompleteStands, FailureStands, WindowActStands, WindowEndStands, WindowFailureStands, OpenWindowStands, TimesStand}
use Rattle.samza_model.specs.Journals.{lows_of}
use Rattle.core_steps.proofs.Trimmed.{trims}
use Rattle.std.proofs.Common.{length-append, append-nil}
use Rattle.std.specs.Prelude.{filter}
use Rattle.samza_model.specs.Journals.{belongs, uncovered_by}
use Rattle.output_log.specs.Outputs.{cleared_at}
use Rattle.core_steps.proofs.Lanes.{low_is, lane_same, lane_delivered, lane_completed}

asks_no_more : (a : Option Scope) → greater_scope a None ≡ a
asks_no_more None = refl
asks_no_more (Some CurrentTask) = refl
asks_no_more (Some AllTasks) = refl

pub newer_more : (a : ℕ) (h : List Event) (e : Event) → a ≤ length h → newer a (e ∷ h) ≡ e ∷ newer a h
newer_more a h e le =
    let k : suc (length h) - a ≡ suc (length h - a) = omega (arith, le) in
    ap (λ n. take n (e ∷ h)) k

pub older_more : (a : ℕ) (h : List Event) (e : Event) → a ≤ length h → older a (e ∷ h) ≡ older a h
older_more a h e le =
    let k : suc (length h) - a ≡ suc (length h - a) = omega (arith, le) in
    ap (λ n. drop n (e ∷ h)) k

abbrev number_or : Option Flight → ℕ
number_or None = 0
number_or (Some x) = x.number

abbrev flight_or : Flight → Option Flight → Flight
flight_or g None = g
flight_or g (Some x) = x

pub number_is : (n : ℕ) (fs : List Flight) (f : Flight) → flight_of n fs ≡ Some f → f.number ≡ n
number_is n [] f is = absurd (none is)
  where
    none : None ≡ Some f → ⊥
    none e = search rules
number_is n (g ∷ fs) f is =
    elim (cases_eq g.number n) [
      | inl q ↦
          let here : Some g ≡ Some f = rw (eq-eqb g.number n q) at is in
          sym (numbers here) ∙ q
      | inr ne ↦ number_is n fs f (rw (ne_eqb g.number n ne) at is)
    ]
  where
    numbers : Some g ≡ Some f → g.number ≡ f.number
    numbers e = ap number_or e

still_clean : (state : State) (h : List Event) (e : Event) (a i : ℕ) (t : Tracked) → a ≤ length h → AgreesOnClean t (store_at (state_after state (older a h)).stores i) → AgreesOnClean t (store_at (state_after state (older a (e ∷ h))).stores i)
still_clean state h e a i t le agrees = subst (λ (g : List Event). AgreesOnClean t (store_at (state_after state g).stores i)) (sym (older_more a h e le)) agrees

-- what an event that changes no state leaves
held_same : (state : State) (h : List Event) (e : Event) (a : ℕ) (held : Held) → state_after state (e ∷ h) ≡ state_after state h → ((i : ℕ) (g : List Event) → changed_in i (e ∷ g) ≡ changed_in i g) → a ≤ length h → IsHeld state h a held → IsHeld state (e ∷ h) a held
held_same state h e a held same unchanged le is = record {
  stores = ap (λ (s : State). s.stores) same ∙ is.stores;
  as_many = ap (λ (s : State). length s.sent) same ∙ is.as_many;
  sent = λ j. ap (λ (s : State). sent_at s.sent j) same ∙ is.sent j ∙ ap (λ (g : List Event). sent_at (state_after state g).sent j ++ sent_at held.unsent j) (sym (older_more a h e le));
  cleared = λ j l. is.cleared j l ∙ ap (λ (g : List Event). length (sent_at (state_after state g).sent j)) (sym (older_more a h e le));
  clean = λ i l. still_clean state h e a i (tracked_at held.stores i) le (is.clean i l);
  dirty = λ i l. is.dirty i l ∙ sym (unchanged i (newer a h)) ∙ ap (λ (g : List Event). changed_in i g) (sym (newer_more a h e le));
}

answer_same : (s t : State) (act : Act) → s.stores ≡ t.stores → answer_of s act ≡ answer_of t act
unfolding answer_of
answer_same s t (Get i key) e = ap (λ (c : List Content). answer_of (record { stores = c; sent = s.sent }) (Get i key)) e
answer_same s t (Next i key) e = ap (λ (c : List Content). answer_of (record { stores = c; sent = s.sent }) (Next i key)) e
answer_same s t (Put i key value) e = refl
answer_same s t (Delete i key) e = refl
answer_same s t (Send j body) e = refl
answer_same s t (AskCommit scope) e = refl
answer_same s t (AskShutdown scope) e = refl
answer_same s t Done e = refl
answer_same s t (Fail code) e = refl

and_left : (x y : Bool) → (x && y) ≡ true → x ≡ true
and_left true y e = refl
and_left false y e = e

goes : (b : Bool) (made : ℕ) → ends_or_goes_on made (if b then None else Some (Some Limits)) ≡ None → b ≡ true
goes true made e = refl
goes false made e = absurd (clash e)
  where
    clash : Some (Some Limits) ≡ None → ⊥
    clash q = search rules

fits_goes_on : (s : Setup) (made : ℕ) (act : Act) → course s made act ≡ None → act_fits s act ≡ true
fits_goes_on s made (Get i key) e = goes (act_fits s (Get i key)) made e
fits_goes_on s made (Next i key) e = goes (act_fits s (Next i key)) made e
fits_goes_on s made (Put i key value) e = goes (act_fits s (Put i key value)) made e
fits_goes_on s made (Delete i key) e = goes (act_fits s (Delete i key)) made e
fits_goes_on s made (Send j body) e = goes (act_fits s (Send j body)) made e
fits_goes_on s made (AskCommit scope) e = refl
fits_goes_on s made (AskShutdown scope) e = refl
fits_goes_on s made Done e = refl
fits_goes_on s made (Fail code) e = refl

pub content_at : (stores : List Tracked) (i : ℕ) → i < length stores → store_at (contents_of stores) i ≡ (tracked_at stores i).content
content_at stores i lt = get_or-map (λ (t : Tracked). t.content) stores i (record { content = nothing_stored; dirty = no_keys }) nothing_stored lt

stored : (stores : List Tracked) (i : ℕ) (key : List ℕ) (value : Option (List ℕ)) → i < length stores
    → set (contents_of stores) i (updated (store_at (contents_of stores) i) key value) ≡ contents_of (set stores i (with_change (tracked_at stores i) key value))
stored stores i key value lt =
    sym (map-set (λ (t : Tracked). t.content) stores i (with_change (tracked_at stores i) key value) ∙ ap (λ (c : Content). set (contents_of stores) i (updated c key value)) (sym (content_at stores i lt)))

sent_set : (all before unsent : List (List Record)) (j k : ℕ) (body : Record) → j < length all → j < length unsent → ((i : ℕ) → sent_at all i ≡ sent_at before i ++ sent_at unsent i)
    → sent_at (set all j (sent_at all j ++ body ∷ [])) k ≡ sent_at before k ++ sent_at (set unsent j (sent_at unsent j ++ body ∷ [])) k
sent_set all before unsent j k body in_all in_unsent is =
    elim (cases_eq k j) [
      | inl e ↦
          ap (λ i. sent_at (set all j (sent_at all j ++ body ∷ [])) i) e
          ∙ get_or-set_same all j (sent_at all j ++ body ∷ []) [] in_all
          ∙ ap (λ l. l ++ body ∷ []) (is j)
          ∙ append_assoc (sent_at before j) (sent_at unsent j) (body ∷ [])
          ∙ ap (λ l. sent_at before j ++ l) (sym (get_or-set_same unsent j (sent_at unsent j ++ body ∷ []) [] in_unsent))
          ∙ ap (λ i. sent_at before i ++ sent_at (set unsent j (sent_at unsent j ++ body ∷ [])) i) (sym e)
      | inr ne ↦
          get_or-set_other all j k (sent_at all j ++ body ∷ []) [] ne
          ∙ is k
          ∙ ap (λ l. sent_at before k ++ l) (sym (get_or-set_other unsent j k (sent_at unsent j ++ body ∷ []) [] ne))
    ]

store_in : (i n m : ℕ) (rest : Bool) → (ltb i n && rest) ≡ true → m ≡ n → i < m
store_in i n m rest fits same =
    let lt : i < n = ltb_lt i n (and_left (ltb i n) rest fits) in
    omega (arith, lt, same)
  where
    ltb_lt : (x y : ℕ) → ltb x y ≡ true → x < y
    ltb_lt x y e = search (arith, rules)

-- the stores are changed, and nothing is sent
stores_changed : (state : State) (h : List Event) (e : Event) (a : ℕ) (held : Held) (stores : List Tracked) → (state_after state (e ∷ h)).stores ≡ contents_of stores → (state_after state (e ∷ h)).sent ≡ (state_after state h).sent → a ≤ length h
    → ((i : ℕ) (c : Content) → i < length stores → ((i < length held.stores) → AgreesOnClean (tracked_at held.stores i) c) → AgreesOnClean (tracked_at stores i) c)
    → ((i : ℕ) → i < length stores → ((i < length held.stores) → (tracked_at held.stores i).dirty ≡ changed_in i (newer a h)) → (tracked_at stores i).dirty ≡ changed_in i (e ∷ newer a h))
    → IsHeld state h a held → IsHeld state (e ∷ h) a (record { stores = stores; unsent = held.unsent; cleared = held.cleared })
stores_changed state h e a held stores now same le clean dirty is = record {
  stores = now;
  as_many = ap length same ∙ is.as_many;
  sent = λ j. ap (λ l. sent_at l j) same ∙ is.sent j ∙ ap (λ (g : List Event). sent_at (state_after state g).sent j ++ sent_at held.unsent j) (sym (older_more a h e le));
  cleared = λ j l. is.cleared j l ∙ ap (λ (g : List Event). length (sent_at (state_after state g).sent j)) (sym (older_more a h e le));
  clean = λ i l. still_clean state h e a i (tracked_at stores i) le (clean i (store_at (state_after state (older a h)).stores i) l (λ lt. is.clean i lt));
  dirty = λ i l. dirty i l (λ lt. is.dirty i lt) ∙ ap (λ (g : List Event). changed_in i g) (sym (newer_more a h e le));
}

-- the keys that are dirty behind a change of a store
stored_dirty : (stores : List Tracked) (i k : ℕ) (key : List ℕ) (value : Option (List ℕ)) (keys : Keys) → i < length stores → k < length (set stores i (with_change (tracked_at stores i) key value))
    → (k < length stores → (tracked_at stores k).dirty ≡ keys) → (tracked_at (set stores i (with_change (tracked_at stores i) key value)) k).dirty ≡ (if i == k then with_key keys key else keys)
stored_dirty stores i k key value keys lt inside was =
    let d : Tracked = record { content = nothing_stored; dirty = no_keys } in
    let t = with_change (tracked_at stores i) key value in
    let before = was (omega (arith, inside, length-set stores i t)) in
    elim (cases_eq i k) [
      | inl e ↦ rw (eq-eqb i k e)
          (ap (λ (x : Tracked). x.dirty) (ap (λ (n : ℕ). get_or (set stores i t) n d) (sym e) ∙ get_or-set_same stores i t d lt)
          ∙ ap (λ (n : ℕ). with_key (tracked_at stores n).dirty key) e ∙ ap (λ (ks : Keys). with_key ks key) before)
      | inr ne ↦ rw (ne_eqb i k ne) (ap (λ (x : Tracked). x.dirty) (get_or-set_other stores i k t d (λ e. ne (sym e))) ∙ before)
    ]

stored_clean : (stores : List Tracked) (i k : ℕ) (key : List ℕ) (value : Option (List ℕ)) (c : Content) → i < length stores → k < length (set stores i (with_change (tracked_at stores i) key value))
    → (k < length stores → AgreesOnClean (tracked_at stores k) c) → AgreesOnClean (tracked_at (set stores i (with_change (tracked_at stores i) key value)) k) c
stored_clean stores i k key value c lt inside was =
    let d : Tracked = record { content = nothing_stored; dirty = no_keys } in
    let t = with_change (tracked_at stores i) key value in
    let agrees = was (omega (arith, inside, length-set stores i t)) in
    elim (cases_eq k i) [
      | inl e ↦ subst (λ (x : Tracked). AgreesOnClean x c)
          (sym (ap (λ (n : ℕ). get_or (set stores i t) n d) e ∙ get_or-set_same stores i t d lt))
          (AgreesOnClean-more (tracked_at stores i) c key value (subst (λ (n : ℕ). AgreesOnClean (tracked_at stores n) c) e agrees))
      | inr ne ↦ subst (λ (x : Tracked). AgreesOnClean x c) (sym (get_or-set_other stores i k t d ne)) agrees
    ]

-- what an act leaves
held_act : (setup : Setup) (state : State) (h : List Event) (e : Event) (a : ℕ) (held : Held) (act : Act) → act_fits setup act ≡ true → IsSized setup held → state_after state (e ∷ h) ≡ changed (state_after state h) act
    → ((i : ℕ) (g : List Event) → changed_in i (e ∷ g) ≡ with_act i (changed_in i g) act) → a ≤ length h
    → IsHeld state h a held → IsHeld state (e ∷ h) a (held_after held act)
unfolding changed
held_act setup state h e a held (Put i key value) fits sized same more le is =
    let lt = store_in i (length setup.stores) (length held.stores) _ (and_left _ _ fits) sized.stores in
    stores_changed state h e a held (set held.stores i (with_change (tracked_at held.stores i) key (Some value)))
    (ap (λ (s : State). s.stores) same ∙ ap (λ c. set c i (updated (store_at c i) key (Some value))) is.stores ∙ stored held.stores i key (Some value) lt)
    (ap (λ (s : State). s.sent) same) le (λ k c inside was. stored_clean held.stores i k key (Some value) c lt inside was)
    (λ k inside was. stored_dirty held.stores i k key (Some value) (changed_in k (newer a h)) lt inside was ∙ sym (more k (newer a h))) is
held_act setup state h e a held (Delete i key) fits sized same more le is =
    let lt = store_in i (length setup.stores) (length held.stores) _ fits sized.stores in
    stores_changed state h e a held (set held.stores i (with_change (tracked_at held.stores i) key None))
    (ap (λ (s : State). s.stores) same ∙ ap (λ c. set c i (updated (store_at c i) key None)) is.stores ∙ stored held.stores i key None lt)
    (ap (λ (s : State). s.sent) same) le (λ k c inside was. stored_clean held.stores i k key None c lt inside was)
    (λ k inside was. stored_dirty held.stores i k key None (changed_in k (newer a h)) lt inside was ∙ sym (more k (newer a h))) is
held_act setup state h e a held (Send j body) fits sized same more le is =
    let lt = store_in j (length setup.outputs) (length held.unsent) _ (and_left _ _ fits) sized.outputs in
    let all = (state_after state h).sent in
    let grown = set all j (sent_at all j ++ body ∷ []) in
    let now : (state_after state (e ∷ h)).sent ≡ grown = ap (λ (s : State). s.sent) same in
    record {
      stores = ap (λ (s : State). s.stores) same ∙ is.stores;
      as_many = ap length now ∙ length-set all j (sent_at all j ++ body ∷ []) ∙ is.as_many ∙ sym (length-set held.unsent j (sent_at held.unsent j ++ body ∷ []));
      sent = λ k. ap (λ l. sent_at l k) now
          ∙ sent_set all (state_after state (older a h)).sent held.unsent j k body (omega (arith, lt, is.as_many)) lt is.sent
          ∙ ap (λ (g : List Event). sent_at (state_after state g).sent k ++ sent_at (set held.unsent j (sent_at held.unsent j ++ body ∷ [])) k) (sym (older_more a h e le));
      cleared = λ k l. is.cleared k (omega (arith, l, length-set held.unsent j (sent_at held.unsent j ++ body ∷ []))) ∙ ap (λ (g : List Event). length (sent_at (state_after state g).sent k)) (sym (older_more a h e le));
      clean = λ k l. still_clean state h e a k (tracked_at held.stores k) le (is.clean k l);
      dirty = λ k l. is.dirty k l ∙ sym (more k (newer a h)) ∙ ap (λ (g : List Event). changed_in k g) (sym (newer_more a h e le));
    }
held_act setup state h e a held (Get i key) fits sized same more le is = held_same state h e a held same more le is
held_act setup state h e a held (Next i key) fits sized same more le is = held_same state h e a held same more le is
held_act setup state h e a held (AskCommit scope) fits sized same more le is = held_same state h e a held same more le is
held_act setup state h e a held (AskShutdown scope) fits sized same more le is = held_same state h e a held same more le is
held_act setup state h e a held Done fits sized same more le is = held_same state h e a held same more le is
held_act setup state h e a held (Fail code) fits sized same more le is = held_same state h e a held same more le is

pub act_stands : ActStands
unfolding flights deliveries deliveries_of is_covered first_failure window_open window_answers state_after changed_in IsLawful
act_stands u n f act core flies goes o h a of_job s =
    let e = act_event u f act in
    let number = number_is n u.callbacks.flights f flies in
    let found : flight_of f.number (flights u.setup h) ≡ Some f = ap (λ l. flight_of f.number l) (sym s.flies) ∙ ap (λ m. flight_of m u.callbacks.flights) number ∙ flies in
    let answer = answer_same (state_of u.held) (state_after o.state h) act (sym s.held.stores) in
    let may : MayAct (given o u) h f.number e = record {
      flight = f;
      flies = found;
      act = act;
      of_job = of_job;
      event = ap (λ x. Did f.number (length f.answers) act x) answer ∙ ap (call_event f (state_after o.state h) act) (sym goes);
    } in
    record {
      lawful = (s.lawful, may);
      number = s.number;
      flies = ap (answered f.number (answer_of (state_of u.held) act)) s.flies;
      lanes = s.lanes;
      held = held_act u.setup o.state h e a u.held act (fits_goes_on u.setup (length f.answers) act goes) core.sized refl (λ i g. refl) s.within s.held;
      failed = s.failed;
      window = window_kept u.window s.window;
      asked = ap (λ x. greater_scope x (shutdown_of (Some act))) s.asked;
      within = omega (arith, s.within);
      since = (λ i. e ∷ s.since i) ∙ sym (newer_more a h e s.within);
      kept = s.kept ∙ ap (kept_of (given o u)) (sym (older_more a h e s.within));
    }
  where
    window_kept : (w : Option (List Answer)) → IsWindow h w → IsWindow (act_event u f act ∷ h) w
    window_kept (Some answers) is = is
    window_kept None is = is

no_window : Window
no_window = record { low = 0; done = []; span = 0 }

pub deliver_stands : DeliverStands
unfolding flights deliveries deliveries_of is_covered first_failure window_open window_answers state_after changed_in IsLawful
deliver_stands u p m core lt may o h a body s =
    let k = given o u in
    let e = deliver_event u p m in
    let w = lane_at u.lanes p in
    let lane = s.lanes p lt in
    let low_at = low_is (λ x. is_covered u.setup p x h) (start_at k p) (deliveries_of p h) w lane in
    let come : MayDeliver k h u.callbacks.next p (next_at u p) m = record {
      input = lt;
      number = s.number;
      offset = lane.next;
      before_end = may.more;
      body = body;
      room = omega (arith, may.room, ap length s.flies);
      spanned = omega (arith, low_at, may.near, core.spans p lt);
      sound = sym s.failed ∙ may.sound;
      closed = (subst (IsWindow h) may.closed s.window).0;
    } in
    record {
      lawful = (s.lawful, come);
      number = ap (λ n. n + 1) s.number;
      flies = ap (λ l. l ++ begun u.setup u.callbacks.next p (next_at u p) m u.times.moment ∷ []) s.flies;
      lanes = λ q within. elim (cases_eq q p) [
        | inl same ↦ subst (λ r. IsLane (λ x. is_covered u.setup r x h) (start_at k r) (start_at k r + (if p == r then deliveries_of r h + 1 else deliveries_of r h)) (lane_at (set u.lanes p (delivered w)) r)) (sym same) (here lane)
        | inr ne ↦ other q ne (s.lanes q within)
      ];
      held = held_same o.state h e a u.held refl (λ i g. refl) s.within s.held;
      failed = s.failed;
      window = window_kept u.window s.window;
      asked = s.asked ∙ sym (asks_no_more (shutdown_asked h));
      within = omega (arith, s.within);
      since = (λ i. e ∷ s.since i) ∙ sym (newer_more a h e s.within);
      kept = s.kept ∙ ap (kept_of k) (sym (older_more a h e s.within));
    }
  where
    window_kept : (x : Option (List Answer)) → IsWindow h x → IsWindow (deliver_event u p m ∷ h) x
    window_kept (Some answers) is = is
    window_kept None is = is

    here : IsLane (λ x. is_covered u.setup p x h) (start_at (given o u) p) (start_at (given o u) p + deliveries_of p h) (lane_at u.lanes p)
        → IsLane (λ x. is_covered u.setup p x h) (start_at (given o u) p) (start_at (given o u) p + (if p == p then deliveries_of p h + 1 else deliveries_of p h)) (lane_at (set u.lanes p (delivered (lane_at u.lanes p))) p)
    here lane =
        let start = start_at (given o u) p in
        let d = deliveries_of p h in
        let more : (if p == p then d + 1 else d) ≡ d + 1 = rw (eq-eqb p p refl) refl in
        let upto : start + (if p == p then d + 1 else d) ≡ (start + d) + 1 = omega (arith, more) in
        let is = get_or-set_same u.lanes p (delivered (lane_at u.lanes p)) (record { low = 0; done = []; span = 0 }) (omega (arith, lt, core.lanes)) in
        subst (λ x. IsLane (λ y. is_covered u.setup p y h) start (start + (if p == p then d + 1 else d)) x) (sym is)
        (subst (λ x. IsLane (λ y. is_covered u.setup p y h) start x (delivered (lane_at u.lanes p))) (sym upto) (lane_delivered (λ y. is_covered u.setup p y h) start (start + d) (lane_at u.lanes p) lane))

    other : (q : ℕ) → q ≢ p → IsLane (λ x. is_covered u.setup q x h) (start_at (given o u) q) (start_at (given o u) q + deliveries_of q h) (lane_at u.lanes q)
        → IsLane (λ x. is_covered u.setup q x h) (start_at (given o u) q) (start_at (given o u) q + (if p == q then deliveries_of q h + 1 else deliveries_of q h)) (lane_at (set u.lanes p (delivered (lane_at u.lanes p))) q)
    other q ne lane =
        let start = start_at (given o u) q in
        let d = deliveries_of q h in
        let same : (if p == q then d + 1 else d) ≡ d = rw (ne_eqb p q (λ e. ne (sym e))) refl in
        let is = get_or-set_other u.lanes p q (delivered (lane_at u.lanes p)) (record { low = 0; done = []; span = 0 }) ne in
        subst (λ x. IsLane (λ y. is_covered u.setup q y h) start (start + (if p == q then d + 1 else d)) x) (sym is)
        (subst (λ x. IsLane (λ y. is_covered u.setup q y h) start (start + x) (lane_at u.lanes q)) (sym same) lane)

all_found : (P : Flight → Type 0) (n : ℕ) (fs : List Flight) (f : Flight) → AllByRecursion P fs → flight_of n fs ≡ Some f → P f
all_found P n [] f all is = absurd (none is)
  where
    none : None ≡ Some f → ⊥
    none e = search rules
all_found P n (g ∷ fs) f all is =
    elim (cases_eq g.number n) [
      | inl q ↦ subst P (unwrapped (rw (eq-eqb g.number n q) at is)) all.0
      | inr ne ↦ all_found P n fs f all.1 (rw (ne_eqb g.number n ne) at is)
    ]
  where
    unwrapped : Some g ≡ Some f → g ≡ f
    unwrapped e = ap (flight_or g) e

and_both : (x y : Bool) → (x && y) ≡ true → (x ≡ true) × (y ≡ true)
and_both true y e = (refl, e)
and_both false y e = absurd (clash e)
  where
    clash : false ≡ true → ⊥
    clash q = search rules

leb_le : (x y : ℕ) → leb x y ≡ true → x ≤ y
leb_le x y e = search (arith, rules)

ltb_lt : (x y : ℕ) → ltb x y ≡ true → x < y
ltb_lt x y e = search (arith, rules)

at_self : (f : Flight) → is_at f.input f.envelope.offset (Some f) ≡ true
at_self f = rw (eq-eqb f.input f.input refl, eq-eqb f.envelope.offset f.envelope.offset refl) refl

at_other_offset : (f : Flight) (x : ℕ) → x ≢ f.envelope.offset → is_at f.input x (Some f) ≡ false
at_other_offset f x ne = rw (eq-eqb f.input f.input refl, ne_eqb f.envelope.offset x (λ e. ne (sym e))) refl

at_other_input : (f : Flight) (q x : ℕ) → q ≢ f.input → is_at q x (Some f) ≡ false
at_other_input f q x ne = rw (ne_eqb f.input q (λ e. ne (sym e))) refl

pub complete_stands : CompleteStands
unfolding flights deliveries deliveries_of is_covered first_failure window_open window_answers state_after changed_in IsLawful
complete_stands u n f act core flies ends o h a of_job s =
    let k = given o u in
    let e : Event = Complete f.number in
    let number = number_is n u.callbacks.flights f flies in
    let found : flight_of f.number (flights u.setup h) ≡ Some f = ap (λ l. flight_of f.number l) (sym s.flies) ∙ ap (λ m. flight_of m u.callbacks.flights) number ∙ flies in
    let may : MayAct k h f.number e = record {
      flight = f;
      flies = found;
      act = act;
      of_job = of_job;
      event = ap (call_event f (state_after o.state h) act) (sym ends);
    } in
    let is_open = all_found (IsOpenAt u.lanes) n u.callbacks.flights f core.undone flies in
    record {
      lawful = (s.lawful, may);
      number = s.number;
      flies = ap (without f.number) s.flies;
      lanes = λ q within. elim (cases_eq q f.input) [
        | inl same ↦ subst (λ r. IsLane (λ x. is_at r x (flight_of f.number (flights u.setup h)) || is_covered u.setup r x h) (start_at k r) (start_at k r + deliveries_of r h) (lane_at (set u.lanes f.input (completed (lane_at u.lanes f.input) f.envelope.offset)) r)) (sym same)
            (here found is_open (s.lanes f.input (subst (λ r. r < length u.starts) same within)))
        | inr ne ↦ other q ne found (s.lanes q within)
      ];
      held = held_same o.state h e a u.held refl (λ i g. refl) s.within s.held;
      failed = s.failed;
      window = window_kept u.window s.window;
      asked = s.asked ∙ sym (asks_no_more (shutdown_asked h));
      within = omega (arith, s.within);
      since = (λ i. e ∷ s.since i) ∙ sym (newer_more a h e s.within);
      kept = s.kept ∙ ap (kept_of k) (sym (older_more a h e s.within));
    }
  where
    window_kept : (x : Option (List Answer)) → IsWindow h x → IsWindow (Complete f.number ∷ h) x
    window_kept (Some answers) is = is
    window_kept None is = is

    here : flight_of f.number (flights u.setup h) ≡ Some f → IsOpenAt u.lanes f
        → IsLane (λ x. is_covered u.setup f.input x h) (start_at (given o u) f.input) (start_at (given o u) f.input + deliveries_of f.input h) (lane_at u.lanes f.input)
        → IsLane (λ x. is_at f.input x (flight_of f.number (flights u.setup h)) || is_covered u.setup f.input x h) (start_at (given o u) f.input) (start_at (given o u) f.input + deliveries_of f.input h) (lane_at (set u.lanes f.input (completed (lane_at u.lanes f.input) f.envelope.offset)) f.input)
    here found is_open lane =
        let w = lane_at u.lanes f.input in
        let x = f.envelope.offset in
        let inside = and_both (leb w.low x) (ltb x (next_of w)) is_open.inside in
        let done = lane_completed (λ y. is_covered u.setup f.input y h) (λ y. is_at f.input y (flight_of f.number (flights u.setup h)) || is_covered u.setup f.input y h)
        (start_at (given o u) f.input) (start_at (given o u) f.input + deliveries_of f.input h) x w (leb_le w.low x inside.0) (ltb_lt x (next_of w) inside.1)
        (ap (λ g. is_at f.input x g || is_covered u.setup f.input x h) found ∙ ap (λ b. b || is_covered u.setup f.input x h) (at_self f))
        (λ y ne. ap (λ g. is_at f.input y g || is_covered u.setup f.input y h) found ∙ ap (λ b. b || is_covered u.setup f.input y h) (at_other_offset f y ne))
        lane in
        subst (λ v. IsLane (λ y. is_at f.input y (flight_of f.number (flights u.setup h)) || is_covered u.setup f.input y h) (start_at (given o u) f.input) (start_at (given o u) f.input + deliveries_of f.input h) v)
        (sym (get_or-set_same u.lanes f.input (completed w x) (record { low = 0; done = []; span = 0 }) is_open.input)) done

    other : (q : ℕ) → q ≢ f.input → flight_of f.number (flights u.setup h) ≡ Some f
        → IsLane (λ x. is_covered u.setup q x h) (start_at (given o u) q) (start_at (given o u) q + deliveries_of q h) (lane_at u.lanes q)
        → IsLane (λ x. is_at q x (flight_of f.number (flights u.setup h)) || is_covered u.setup q x h) (start_at (given o u) q) (start_at (given o u) q + deliveries_of q h) (lane_at (set u.lanes f.input (completed (lane_at u.lanes f.input) f.envelope.offset)) q)
    other q ne found lane =
        subst (λ v. IsLane (λ y. is_at q y (flight_of f.number (flights u.setup h)) || is_covered u.setup q y h) (start_at (given o u) q) (start_at (given o u) q + deliveries_of q h) v)
        (sym (get_or-set_other u.lanes f.input q (completed (lane_at u.lanes f.input) f.envelope.offset) (record { low = 0; done = []; span = 0 }) ne))
        (lane_same (λ y. is_covered u.setup q y h) (λ y. is_at q y (flight_of f.number (flights u.setup h)) || is_covered u.setup q y h) _ _ _
        (λ y. ap (λ g. is_at q y g || is_covered u.setup q y h) found ∙ ap (λ b. b || is_covered u.setup q y h) (at_other_input f q y ne)) lane)

earlier_some : (x : Option Failure) (f : Failure) → earlier x f ≡ None → ⊥
earlier_some None f e = search rules
earlier_some (Some g) f e = search rules

pub failure_stands : FailureStands
unfolding flights deliveries deliveries_of is_covered first_failure window_open window_answers state_after changed_in IsLawful
failure_stands u n f act why core flies ends o h a of_job s =
    let k = given o u in
    let e : Event = Failed (failure_of f why) in
    let number = number_is n u.callbacks.flights f flies in
    let found : flight_of f.number (flights u.setup h) ≡ Some f = ap (λ l. flight_of f.number l) (sym s.flies) ∙ ap (λ m. flight_of m u.callbacks.flights) number ∙ flies in
    let may : MayAct k h f.number e = record {
      flight = f;
      flies = found;
      act = act;
      of_job = of_job;
      event = ap (call_event f (state_after o.state h) act) (sym ends);
    } in
    record {
      lawful = (s.lawful, inl may);
      number = s.number;
      flies = ap (without f.number) s.flies;
      lanes = s.lanes;
      held = held_same o.state h e a u.held refl (λ i g. refl) s.within s.held;
      failed = ap (λ x. earlier x (failure_of f why)) s.failed;
      window = window_kept u.window s.window;
      asked = s.asked ∙ sym (asks_no_more (shutdown_asked h));
      within = omega (arith, s.within);
      since = (λ i. e ∷ s.since i) ∙ sym (newer_more a h e s.within);
      kept = s.kept ∙ ap (kept_of k) (sym (older_more a h e s.within));
    }
  where
    window_kept : (x : Option (List Answer)) → IsWindow h x → IsWindow (Failed (failure_of f why) ∷ h) x
    window_kept (Some answers) is = is
    window_kept None is = (is.0, λ e. absurd (earlier_some (first_failure h) (failure_of f why) e))

module _ (u : CoreValue) (answers : List Answer) (act : Act) (core : IsCore u) (is : u.window ≡ Some answers) (o : Outside) (h : List Event) (a : ℕ) (of_job : IsWinAct answers act o u) (s : Stands o u h a) where
  idle : IsIdle u answers
  idle = subst (λ w. IfSome w (IsIdle u)) is core.idle

  same_answers : answers ≡ window_answers h
  same_answers = subst (IsWindow h) is s.window

  may_window : (end : Option End) (e : Event) → course u.setup (length answers) act ≡ end → e ≡ window_event answers (state_after o.state h) act end → MayWindow (given o u) h e
  may_window end e at event = record {
    idle = sym s.flies ∙ idle.0;
    sound = sym s.failed ∙ idle.1;
    act = act;
    of_job = subst (λ l. IsWindowAct o.job l act) same_answers of_job;
    event = event ∙ ap (window_event answers (state_after o.state h) act) (sym at) ∙ ap (λ l. window_event l (state_after o.state h) act (course u.setup (length l) act)) same_answers;
  }

pub window_act_stands : WindowActStands
unfolding flights deliveries deliveries_of is_covered first_failure window_open window_answers state_after changed_in IsLawful
window_act_stands u answers act core is goes_on o h a of_job s =
    let e = window_act_event u answers act in
    let answer = answer_same (state_of u.held) (state_after o.state h) act (sym s.held.stores) in
    record {
      lawful = (s.lawful, may_window u answers act core is o h a of_job s None e goes_on (ap (λ x. WindowDid (length answers) act x) answer));
      number = s.number;
      flies = s.flies;
      lanes = s.lanes;
      held = held_act u.setup o.state h e a u.held act (fits_goes_on u.setup (length answers) act goes_on) core.sized refl (λ i g. refl) s.within s.held;
      failed = s.failed;
      window = ap (λ l. l ++ answer_of (state_of u.held) act ∷ []) (same_answers u answers act core is o h a of_job s);
      asked = ap (λ x. greater_scope x (shutdown_of (Some act))) s.asked;
      within = omega (arith, s.within);
      since = (λ i. e ∷ s.since i) ∙ sym (newer_more a h e s.within);
      kept = s.kept ∙ ap (kept_of (given o u)) (sym (older_more a h e s.within));
    }

pub window_end_stands : WindowEndStands
unfolding flights deliveries deliveries_of is_covered first_failure window_open window_answers state_after changed_in IsLawful
window_end_stands u answers act core is ends o h a of_job s =
    let e : Event = WindowEnded in
    record {
      lawful = (s.lawful, may_window u answers act core is o h a of_job s (Some None) e ends refl);
      number = s.number;
      flies = s.flies;
      lanes = s.lanes;
      held = held_same o.state h e a u.held refl (λ i g. refl) s.within s.held;
      failed = s.failed;
      window = (refl, λ _. refl);
      asked = s.asked ∙ sym (asks_no_more (shutdown_asked h));
      within = omega (arith, s.within);
      since = (λ i. e ∷ s.since i) ∙ sym (newer_more a h e s.within);
      kept = s.kept ∙ ap (kept_of (given o u)) (sym (older_more a h e s.within));
    }

pub window_failure_stands : WindowFailureStands
unfolding flights deliveries deliveries_of is_covered first_failure window_open window_answers state_after changed_in IsLawful
window_failure_stands u answers act why core is ends o h a of_job s =
    let e : Event = Failed (window_failure why) in
    record {
      lawful = (s.lawful, may_window u answers act core is o h a of_job s (Some (Some why)) e ends refl);
      number = s.number;
      flies = s.flies;
      lanes = s.lanes;
      held = held_same o.state h e a u.held refl (λ i g. refl) s.within s.held;
      failed = ap (λ x. earlier x (window_failure why)) (sym (idle u answers act core is o h a of_job s).1 ∙ s.failed);
      window = (refl, λ q. absurd (earlier_some (first_failure h) (window_failure why) q));
      asked = s.asked ∙ sym (asks_no_more (shutdown_asked h));
      within = omega (arith, s.within);
      since = (λ i. e ∷ s.since i) ∙ sym (newer_more a h e s.within);
      kept = s.kept ∙ ap (kept_of (given o u)) (sym (older_more a h e s.within));
    }

pub open_window_stands : OpenWindowStands
open_window_stands u closed sound o h a s = record {
  lawful = s.lawful;
  number = s.number;
  flies = s.flies;
  lanes = s.lanes;
  held = s.held;
  failed = s.failed;
  window = sym ((subst (IsWindow h) closed s.window).1 (sym s.failed ∙ sound));
  asked = s.asked;
  within = s.within;
  since = s.since;
  kept = s.kept;
}

pub times_stand : TimesStand
times_stand u t o h a s = record {
  lawful = s.lawful;
  number = s.number;
  flies = s.flies;
  lanes = s.lanes;
  held = s.held;
  failed = s.failed;
  window = s.window;
  asked = s.asked;
  within = s.within;
  since = s.since;
  kept = s.kept;
}

pub got : (h : Held) (i : ℕ) (key : List ℕ) → i < length h.stores → found (fin.get (tracked_at h.stores i).content key) ≡ answer_of (state_of h) (Get i key)
unfolding answer_of
got h i key lt = ap (λ (c : Content). found (fin.get c key)) (sym (content_at h.stores i lt))

pub got_next : (h : Held) (i : ℕ) (key : List ℕ) → i < length h.stores → found_pair (next_pair (tracked_at h.stores i).content key) ≡ answer_of (state_of h) (Next i key)
unfolding answer_of
got_next h i key lt = ap (λ (c : Content). found_pair (next_pair c key)) (sym (content_at h.stores i lt))

pub take_and_drop : {X : Type 0} (n : ℕ) (xs : List X) → take n xs ++ drop n xs ≡ xs
take_and_drop zero xs = refl
take_and_drop (suc n) [] = refl
take_and_drop (suc n) (x ∷ xs) = ap (λ l. x ∷ l) (take_and_drop n xs)

pub commit_stands : CommitStands
unfolding changed_in
commit_stands u held core cleared o h a s =
    let k = given o u in
    let g = newer a h in
    let f = older a h in
    let split : g ++ f ≡ h = take_and_drop (length h - a) h in
    let law : IsLawful k (g ++ f) = subst (IsLawful k) (sym split) s.lawful in
    let none : length h - length h ≡ 0 = omega arith in
    let whole : older (length h) h ≡ h = ap (λ n. drop n h) none in
    let lows : (p : ℕ) → p < length u.starts → (lane_at u.lanes p).low ≡ lows_of k (g ++ f) p =
    λ p lt. sym (low_is (λ x. is_covered u.setup p x h) (start_at k p) (deliveries_of p h) (lane_at u.lanes p) (s.lanes p lt)) ∙ ap (λ l. lows_of k l p) (sym split) in
    let journal : u.since ++ u.kept ≡ g ++ kept_of k f = λ i. s.since i ++ s.kept i in
    record {
      lawful = s.lawful;
      number = s.number;
      flies = s.flies;
      lanes = s.lanes;
      held = record {
        stores = s.held.stores ∙ sym cleared.stores;
        as_many = s.held.as_many ∙ sym cleared.as_many;
        sent = λ j. sym (append_none (sent_at (state_after o.state h).sent j) (sent_at held.unsent j) (cleared.none j)) ∙ ap (λ (l : List Event). sent_at (state_after o.state l).sent j ++ sent_at held.unsent j) (sym whole);
        cleared = λ j l. cleared.counted j (omega (arith, l, cleared.as_many)) ∙ counts j (s.held.sent j) (s.held.cleared j (omega (arith, l, cleared.as_many))) ∙ ap (λ (l : List Event). length (sent_at (state_after o.state l).sent j)) (sym whole);
        clean = λ i l key none_dirty. ap (λ (c : Content). fin.get c key)
            (ap (λ (l : List Event). store_at (state_after o.state l).stores i) whole ∙ ap (λ (cs : List Content). store_at cs i) (s.held.stores ∙ sym cleared.stores) ∙ content_at held.stores i l);
        dirty = λ i l. cleared.clean i l ∙ ap (λ (g : List Event). changed_in i g) (sym (ap (λ n. take n h) none));
      };
      failed = s.failed;
      window = s.window;
      asked = s.asked;
      within = omega arith;
      since = sym (ap (λ n. take n h) none);
      kept = ap (λ l. filter (belongs (uncovered_by (λ p. (lane_at u.lanes p).low) l)) l) journal
          ∙ trims k (λ p. (lane_at u.lanes p).low) g f law lows ∙ ap (kept_of k) (split ∙ sym whole);
    }
  where
    append_none : {X : Type 0} (xs ys : List X) → ys ≡ [] → xs ++ ys ≡ xs
    append_none xs ys e = ap (λ l. xs ++ l) e ∙ append-nil xs

    counts : (j : ℕ) → sent_at (state_after o.state h).sent j ≡ sent_at (state_after o.state (older a h)).sent j ++ sent_at u.held.unsent j → cleared_at u.held.cleared j ≡ length (sent_at (state_after o.state (older a h)).sent j)
        → cleared_at u.held.cleared j + length (sent_at u.held.unsent j) ≡ length (sent_at (state_after o.state h).sent j)
    counts j all before = omega (arith, before, ap length all, length-append (sent_at (state_after o.state (older a h)).sent j) (sent_at u.held.unsent j))

pub fresh_stands : FreshStands
unfolding flights deliveries deliveries_of is_covered first_failure window_open window_answers state_after changed_in IsLawful
fresh_stands u o fresh held lanes = record {
  lawful = tt;
  number = fresh.next;
  flies = fresh.none;
  lanes = λ p lt. subst (λ w. IsLane (λ x. false) (start_at (given o u) p) (start_at (given o u) p + 0) w) (sym (lanes p lt)) (record {
    after = omega arith;
    next = refl;
    below = λ x le less. absurd (omega (arith, le, less));
    done = λ x le. nothing (x - start_at (given o u) p);
    stops = nothing (start_at (given o u) p - start_at (given o u) p);
  });
  held = held;
  failed = fresh.sound;
  window = subst (IsWindow []) (sym fresh.closed) (refl, λ _. refl);
  asked = fresh.unasked;
  within = omega arith;
  since = fresh.since;
  kept = fresh.kept;
}
  where
    nothing : (i : ℕ) → get_or [] i false ≡ false
    nothing zero = refl
    nothing (suc i) = refl
