-- Each call's step keeps what a core keeps.
use Rattle.std.proofs.Common.{ℕ, zero, suc, ◌+◌, ◌-◌, ◌≡◌, ◌≢◌, ◌<◌, ◌≤◌, ◌⊎◌, inl, inr, Bool, true, false, ◌&&◌, ◌||◌, ◌==◌, eqb, ltb, leb, if◌then◌else◌, List, [], ◌∷◌, ◌++◌, length, get_or, set, Option, Some, None, refl, sym, ◌∙◌, ap, subst, arith, rules, eq-eqb, length-append}
use Rattle.std.specs.Prelude.{IfSome}
use Rattle.std.specs.List.{AllByRecursion}
use Rattle.std.proofs.lemmas.Bool.{cases_eq, ne_eqb}
use Rattle.std.proofs.lemmas.List.{get_or-set_same, get_or-set_other, length-set, get_or_past}
use Rattle.samza_model.specs.declared.messages.Record.{Record}
use Rattle.samza_model.specs.declared.acts.Act.{Act}
use Rattle.samza_model.specs.declared.acts.Act.TheVariants.{Get, Next, Put, Delete, Send, AskCommit, AskShutdown, Done, Fail}
use Rattle.samza_model.specs.declared.acts.Answer.{Answer}
use Rattle.samza_model.specs.declared.setups.Setup.{Setup}
use Rattle.samza_model.specs.declared.turns.Why.{Why}
use Rattle.samza_model.specs.declared.turns.Failure.{Failure}
use Rattle.samza_model.specs.Content.{answer_of, sent_at}
use Rattle.samza_model.specs.declared.acts.Scope.{Scope}
use Rattle.samza_model.specs.declared.events.Event.{Event}
use Rattle.samza_model.specs.declared.flights.Flight.{Flight}
use Rattle.samza_model.specs.Events.{flight_of, begun, is_at, answered, with_answer, without}
use Rattle.kv_store.specs.Tracked.{with_change}
use Rattle.offset_window.specs.Windows.{Window, next_of, is_inside, is_done, delivered, completed}
use Rattle.core_steps.specs.Held.{contents_of, Held, IsSized, tracked_at, state_of, held_after}
use Rattle.core_steps.specs.Lanes.{lane_at, left, IsOpenAt, is_same_place, AreApart}
use Rattle.core_steps.specs.Times.{IsTimed}
use Rattle.window_timer.specs.declared.times.Times.{Times}
use Rattle.core_steps.specs.Cores.{CoreValue, IsIdle, IsCore, MayBegin, next_at, after_deliver, after_act, after_complete, after_failure, after_window_act, after_window_end, after_window_failure, after_open_window, with_times, after_commit, IsCleared}
use Rattle.core_steps.proofs.Lanes.{get_more, front, behind, leading_short}
use Rattle.std.specs.List.{prefix_len}
use Rattle.std.proofs.lemmas.List.{length-map}
use Rattle.kv_store.specs.Tracked.{Tracked}
use Rattle.std.proofs.lemmas.List.{length-drop}

sized_after : (s : Setup) (h : Held) (act : Act) → IsSized s h → IsSized s (held_after h act)
sized_after s h (Put i key value) sized = record { stores = length-set h.stores i (with_change (tracked_at h.stores i) key (Some value)) ∙ sized.stores; outputs = sized.outputs }
sized_after s h (Delete i key) sized = record { stores = length-set h.stores i (with_change (tracked_at h.stores i) key None) ∙ sized.stores; outputs = sized.outputs }
sized_after s h (Send j body) sized = record { stores = sized.stores; outputs = length-set h.unsent j (sent_at h.unsent j ++ body ∷ []) ∙ sized.outputs }
sized_after s h (Get i key) sized = sized
sized_after s h (Next i key) sized = sized
sized_after s h (AskCommit scope) sized = sized
sized_after s h (AskShutdown scope) sized = sized
sized_after s h Done sized = sized
sized_after s h (Fail code) sized = sized

either_is : (b : Bool) → (b ≡ true) ⊎ (b ≡ false)
either_is true = inl refl
either_is false = inr refl

all_answered : (P : Flight → Type 0) (n : ℕ) (a : Answer) (fs : List Flight) → ((f : Flight) → P f → P (with_answer a f)) → AllByRecursion P fs → AllByRecursion P (answered n a fs)
all_answered P n a [] keeps all = tt
all_answered P n a (f ∷ fs) keeps all =
    elim (either_is (f.number == n)) [
      | inl e ↦ rw e (keeps f all.0, all.1)
      | inr e ↦ rw e (all.0, all_answered P n a fs keeps all.1)
    ]

apart_answered : (n : ℕ) (a : Answer) (fs : List Flight) → AreApart fs → AreApart (answered n a fs)
apart_answered n a [] apart = tt
apart_answered n a (f ∷ fs) apart =
    elim (either_is (f.number == n)) [
      | inl e ↦ rw e (apart.0, apart.1)
      | inr e ↦ rw e (all_answered (λ g. is_same_place f g ≡ false) n a fs (λ g p. p) apart.0, apart_answered n a fs apart.1)
    ]

idle_after : (u : CoreValue) (w : Option (List Answer)) (n : ℕ) (a : Answer) → IfSome w (λ x. (u.callbacks.flights ≡ []) × (u.failed ≡ None)) → IfSome w (λ x. (answered n a u.callbacks.flights ≡ []) × (u.failed ≡ None))
idle_after u None n a idle = tt
idle_after u (Some x) n a idle = (ap (answered n a) idle.0, idle.1)

pub acted_core : (u : CoreValue) (n : ℕ) (a : Answer) (act : Act) (since kept : List Event) (asked : Option Scope) → IsCore u
    → IsCore (record { setup = u.setup; starts = u.starts; ends = u.ends; lanes = u.lanes; callbacks = record { flights = answered n a u.callbacks.flights; next = u.callbacks.next; limit = u.callbacks.limit }; held = held_after u.held act; failed = u.failed; window = u.window; since = since; kept = kept; times = u.times; asked = asked; last = u.last })
acted_core u n a act since kept asked core = record {
  inputs = core.inputs;
  lanes = core.lanes;
  ends = core.ends;
  within = core.within;
  spans = core.spans;
  limit = core.limit;
  sized = sized_after u.setup u.held act core.sized;
  undone = all_answered (IsOpenAt u.lanes) n a u.callbacks.flights (λ g p. record { input = p.input; inside = p.inside; undone = p.undone }) core.undone;
  apart = apart_answered n a u.callbacks.flights core.apart;
  idle = idle_after u u.window n a core.idle;
  timed = core.timed;
  runnable = core.runnable;
  few = core.few;
}

pub act_core : (u : CoreValue) (f : Flight) (act : Act) → IsCore u → IsCore (after_act u f act)
act_core u f act core = record {
  inputs = core.inputs;
  lanes = core.lanes;
  ends = core.ends;
  within = core.within;
  spans = core.spans;
  limit = core.limit;
  sized = sized_after u.setup u.held act core.sized;
  undone = all_answered (IsOpenAt u.lanes) f.number (answer_of (state_of u.held) act) u.callbacks.flights (λ g p. record { input = p.input; inside = p.inside; undone = p.undone }) core.undone;
  apart = apart_answered f.number (answer_of (state_of u.held) act) u.callbacks.flights core.apart;
  idle = idle_after u u.window f.number (answer_of (state_of u.held) act) core.idle;
  timed = core.timed;
  runnable = core.runnable;
  few = core.few;
}

-- one callback more

all_append : (P Q : Flight → Type 0) (fs : List Flight) (g : Flight) → ((f : Flight) → P f → Q f) → AllByRecursion P fs → Q g → AllByRecursion Q (fs ++ g ∷ [])
all_append P Q [] g keeps all q = (q, tt)
all_append P Q (f ∷ fs) g keeps all q = (keeps f all.0, all_append P Q fs g keeps all.1 q)

apart_append : (P : Flight → Type 0) (fs : List Flight) (g : Flight) → AllByRecursion P fs → ((f : Flight) → P f → is_same_place f g ≡ false) → AreApart fs → AreApart (fs ++ g ∷ [])
apart_append P [] g all away apart = (tt, tt)
apart_append P (f ∷ fs) g all away apart = (all_append (λ x. is_same_place f x ≡ false) (λ x. is_same_place f x ≡ false) fs g (λ x p. p) apart.0 (away f all.0), apart_append P fs g all.1 away apart.1)

both : (x y : Bool) → (x && y) ≡ true → (x ≡ true) × (y ≡ true)
both true y e = (refl, e)
both false y e = absurd (clash e)
  where
    clash : false ≡ true → ⊥
    clash q = search rules

and_is : (x y : Bool) → x ≡ true → y ≡ true → (x && y) ≡ true
and_is x y a b = rw (a, b) refl

leb_le : (x y : ℕ) → leb x y ≡ true → x ≤ y
leb_le x y e = search (arith, rules)

ltb_lt : (x y : ℕ) → ltb x y ≡ true → x < y
ltb_lt x y e = search (arith, rules)

le_leb : (x y : ℕ) → x ≤ y → leb x y ≡ true
le_leb x y e = search (arith, rules)

lt_ltb : (x y : ℕ) → x < y → ltb x y ≡ true
lt_ltb x y e = search (arith, rules)

no_window : Window
no_window = record { low = 0; done = []; span = 0 }

-- how many may yet be delivered

left_same : (es : List ℕ) (ws : List Window) (p : ℕ) (w : Window) → next_of w ≡ next_of (lane_at ws p) → left es (set ws p w) ≡ left es ws
left_same [] ws p w same = refl
left_same (e ∷ es) [] p w same = refl
left_same (e ∷ es) (v ∷ ws) zero w same = ap (λ n. (e - n) + left es ws) same
left_same (e ∷ es) (v ∷ ws) (suc p) w same = ap (λ n. (e - next_of v) + n) (left_same es ws p w same)

left_delivered : (es : List ℕ) (ws : List Window) (p : ℕ) → length es ≡ length ws → p < length ws → next_of (lane_at ws p) < get_or es p 0
    → suc (left es (set ws p (delivered (lane_at ws p)))) ≡ left es ws
left_delivered [] [] p same within more = absurd (omega (arith, within))
left_delivered [] (v ∷ ws) p same within more = absurd (omega (arith, same))
left_delivered (e ∷ es) [] p same within more = absurd (omega (arith, within))
left_delivered (e ∷ es) (v ∷ ws) zero same within more = omega (arith, more, length-append v.done (false ∷ []))
left_delivered (e ∷ es) (v ∷ ws) (suc p) same within more = omega (arith, left_delivered es ws p (omega (arith, same)) (omega (arith, within)) more)

pub deliver_core : (u : CoreValue) (p : ℕ) (m : Record) → IsCore u → p < length u.starts → MayBegin u p → IsCore (after_deliver u p m)
deliver_core u p m core lt may =
    let w = lane_at u.lanes p in
    let d : Window = record { low = 0; done = []; span = 0 } in
    let in_lanes : p < length u.lanes = omega (arith, lt, core.lanes) in
    let here : lane_at (set u.lanes p (delivered w)) p ≡ delivered w = get_or-set_same u.lanes p (delivered w) d in_lanes in
    let other : (q : ℕ) → q ≢ p → lane_at (set u.lanes p (delivered w)) q ≡ lane_at u.lanes q = λ q ne. get_or-set_other u.lanes p q (delivered w) d ne in
    record {
      inputs = core.inputs;
      lanes = length-set u.lanes p (delivered w) ∙ core.lanes;
      ends = core.ends;
      within = λ q l. elim (cases_eq q p) [
        | inl e ↦ omega (arith, ap (λ r. get_or u.ends r 0) e, ap (λ r. next_of (lane_at (set u.lanes p (delivered w)) r)) e, ap next_of here, length-append w.done (false ∷ []), may.more)
        | inr ne ↦ omega (arith, ap next_of (other q ne), core.within q l)
      ];
      spans = λ q l. elim (cases_eq q p) [
        | inl e ↦ ap (λ r. (lane_at (set u.lanes p (delivered w)) r).span) e ∙ ap (λ (x : Window). x.span) here ∙ core.spans p lt
        | inr ne ↦ ap (λ (x : Window). x.span) (other q ne) ∙ core.spans q l
      ];
      limit = core.limit;
      sized = core.sized;
      undone = all_append (IsOpenAt u.lanes) (IsOpenAt (set u.lanes p (delivered w))) u.callbacks.flights (begun u.setup u.callbacks.next p (next_at u p) m u.times.moment)
          (λ f. still here other f (cases_eq f.input p)) core.undone (fresh in_lanes here);
      apart = apart_append (IsOpenAt u.lanes) u.callbacks.flights (begun u.setup u.callbacks.next p (next_at u p) m u.times.moment) core.undone (λ f at. away f at (cases_eq p f.input)) core.apart;
      idle = subst (λ x. IfSome x (IsIdle (after_deliver u p m))) (sym may.closed) tt;
      timed = core.timed;
      runnable = core.runnable;
      few = omega (arith, core.few, left_delivered u.ends u.lanes p (omega (arith, core.ends, core.lanes)) in_lanes may.more);
    }
  where
    still : lane_at (set u.lanes p (delivered (lane_at u.lanes p))) p ≡ delivered (lane_at u.lanes p)
        → ((q : ℕ) → q ≢ p → lane_at (set u.lanes p (delivered (lane_at u.lanes p))) q ≡ lane_at u.lanes q)
        → (f : Flight) → (f.input ≡ p) ⊎ (f.input ≢ p) → IsOpenAt u.lanes f → IsOpenAt (set u.lanes p (delivered (lane_at u.lanes p))) f
    still here other f (inl e) at =
        let w = lane_at u.lanes p in
        let now : lane_at (set u.lanes p (delivered w)) f.input ≡ delivered w = ap (lane_at (set u.lanes p (delivered w))) e ∙ here in
        let was : lane_at u.lanes f.input ≡ w = ap (lane_at u.lanes) e in
        let inside = both _ _ (subst (λ v. is_inside v f.envelope.offset ≡ true) was at.inside) in
        record {
          input = omega (arith, at.input, length-set u.lanes p (delivered w));
          inside = subst (λ v. is_inside v f.envelope.offset ≡ true) (sym now) (and_is _ _ inside.0 (lt_ltb f.envelope.offset (next_of (delivered w)) (omega (arith, ltb_lt f.envelope.offset (next_of w) inside.1, length-append w.done (false ∷ [])))));
          undone = subst (λ v. is_done v f.envelope.offset ≡ false) (sym now) (get_more w.done (f.envelope.offset - w.low) ∙ subst (λ v. is_done v f.envelope.offset ≡ false) was at.undone);
        }
    still here other f (inr ne) at =
        let w = lane_at u.lanes p in
        record {
          input = omega (arith, at.input, length-set u.lanes p (delivered w));
          inside = subst (λ v. is_inside v f.envelope.offset ≡ true) (sym (other f.input ne)) at.inside;
          undone = subst (λ v. is_done v f.envelope.offset ≡ false) (sym (other f.input ne)) at.undone;
        }

    past_end : (ds : List Bool) (i : ℕ) → length ds ≤ i → get_or ds i false ≡ false
    past_end [] i le = refl
    past_end (x ∷ ds) zero le = absurd (omega (arith, le))
    past_end (x ∷ ds) (suc i) le = past_end ds i (omega (arith, le))

    fresh : p < length u.lanes → lane_at (set u.lanes p (delivered (lane_at u.lanes p))) p ≡ delivered (lane_at u.lanes p) → IsOpenAt (set u.lanes p (delivered (lane_at u.lanes p))) (begun u.setup u.callbacks.next p (next_at u p) m u.times.moment)
    fresh in_lanes here =
        let w = lane_at u.lanes p in
        record {
          input = omega (arith, in_lanes, length-set u.lanes p (delivered w));
          inside = subst (λ v. is_inside v (next_of w) ≡ true) (sym here) (and_is _ _ (le_leb w.low (next_of w) (omega arith)) (lt_ltb (next_of w) (next_of (delivered w)) (omega (arith, length-append w.done (false ∷ [])))));
          undone = subst (λ v. is_done v (next_of w) ≡ false) (sym here) (get_more w.done (next_of w - w.low) ∙ past_end w.done (next_of w - w.low) (omega arith));
        }

    away : (f : Flight) → IsOpenAt u.lanes f → (p ≡ f.input) ⊎ (p ≢ f.input) → is_same_place f (begun u.setup u.callbacks.next p (next_at u p) m u.times.moment) ≡ false
    away f at (inl e) =
        let inside = both _ _ (subst (λ q. is_inside (lane_at u.lanes q) f.envelope.offset ≡ true) (sym e) at.inside) in
        rw (eq-eqb p f.input e, ne_eqb (next_at u p) f.envelope.offset (λ q. absurd (omega (arith, q, ltb_lt f.envelope.offset (next_at u p) inside.1)))) refl
    away f at (inr ne) = rw (ne_eqb p f.input ne) refl

-- one callback less

without_all : (P : Flight → Type 0) (n : ℕ) (fs : List Flight) → AllByRecursion P fs → AllByRecursion P (without n fs)
without_all P n [] all = tt
without_all P n (f ∷ fs) all =
    elim (either_is (f.number == n)) [
      | inl e ↦ rw e all.1
      | inr e ↦ rw e (all.0, without_all P n fs all.1)
    ]

without_apart : (n : ℕ) (fs : List Flight) → AreApart fs → AreApart (without n fs)
without_apart n [] apart = tt
without_apart n (f ∷ fs) apart =
    elim (either_is (f.number == n)) [
      | inl e ↦ rw e apart.1
      | inr e ↦ rw e (without_all (λ g. is_same_place f g ≡ false) n fs apart.0, without_apart n fs apart.1)
    ]

abbrev flight_or : Flight → Option Flight → Flight
flight_or g None = g
flight_or g (Some x) = x

pub the_found : (P : Flight → Type 0) (n : ℕ) (fs : List Flight) (f : Flight) → AllByRecursion P fs → flight_of n fs ≡ Some f → P f
the_found P n [] f all is = absurd (none is)
  where
    none : None ≡ Some f → ⊥
    none e = search rules
the_found P n (g ∷ fs) f all is =
    elim (either_is (g.number == n)) [
      | inl e ↦ subst P (ap (flight_or g) (rw e at is)) all.0
      | inr e ↦ the_found P n fs f all.1 (rw e at is)
    ]

eqb_flip : (x y : ℕ) → eqb x y ≡ eqb y x
eqb_flip x y =
    elim (cases_eq x y) [
      | inl e ↦ eq-eqb x y e ∙ sym (eq-eqb y x (sym e))
      | inr ne ↦ ne_eqb x y ne ∙ sym (ne_eqb y x (λ e. ne (sym e)))
    ]

flipped : (f g : Flight) → is_same_place f g ≡ is_same_place g f
flipped f g = λ i. eqb_flip g.input f.input i && eqb_flip g.envelope.offset f.envelope.offset i

-- those that are left are on other offsets than the one that is taken out
away_from : (n : ℕ) (fs : List Flight) (f : Flight) → AreApart fs → flight_of n fs ≡ Some f → AllByRecursion (λ g. is_same_place f g ≡ false) (without n fs)
away_from n [] f apart is = tt
away_from n (g ∷ fs) f apart is =
    elim (either_is (g.number == n)) [
      | inl e ↦ rw e (subst (λ x. AllByRecursion (λ y. is_same_place x y ≡ false) fs) (ap (flight_or g) (rw e at is)) apart.0)
      | inr e ↦ rw e (flipped f g ∙ the_found (λ x. is_same_place g x ≡ false) n fs f apart.0 (rw e at is), away_from n fs f apart.1 (rw e at is))
    ]

both_all : (P Q R : Flight → Type 0) (fs : List Flight) → ((f : Flight) → P f → Q f → R f) → AllByRecursion P fs → AllByRecursion Q fs → AllByRecursion R fs
both_all P Q R [] make p q = tt
both_all P Q R (f ∷ fs) make p q = (make f p.0 q.0, both_all P Q R fs make p.1 q.1)

eqb_ne : (x y : ℕ) → eqb x y ≡ false → x ≢ y
eqb_ne x y e q = absurd (clash (sym (eq-eqb x y q) ∙ e))
  where
    clash : true ≡ false → ⊥
    clash r = search rules

next_completed : (w : Window) (x : ℕ) → next_of (completed w x) ≡ next_of w
next_completed w x =
    let ds = set w.done (x - w.low) true in
    omega (arith, length-drop (prefix_len (λ d. d) ds) ds, leading_short ds, length-set w.done (x - w.low) true)

-- an offset that isn't complete stays in its window where another one is completed
pub record StaysOpen (w : Window) (o : ℕ) : Type 0 where
  pub inside : is_inside w o ≡ true
  pub undone : is_done w o ≡ false

stays_open : (w : Window) (x o : ℕ) → w.low ≤ x → o ≢ x → is_inside w o ≡ true → is_done w o ≡ false → StaysOpen (completed w x) o
stays_open w x o low_x ne in_w not_done =
    let ds = set w.done (x - w.low) true in
    let n = prefix_len (λ d. d) ds in
    let inside = both (leb w.low o) (ltb o (next_of w)) in_w in
    let low_o = leb_le w.low o inside.0 in
    let here : get_or ds (o - w.low) false ≡ false = get_or-set_other w.done (x - w.low) (o - w.low) true false (λ e. ne (omega (arith, e, low_o, low_x))) ∙ not_done in
    let below : n ≤ o - w.low = not_in_front ds (o - w.low) here in
    let place : n + (o - (w.low + n)) ≡ o - w.low = omega (arith, below, low_o) in
    record {
      inside = and_is _ _ (le_leb (w.low + n) o (omega (arith, below, low_o))) (lt_ltb o (next_of (completed w x)) (omega (arith, ltb_lt o (next_of w) inside.1, next_completed w x)));
      undone = behind ds (o - (w.low + n)) ∙ ap (λ i. get_or ds i false) place ∙ here;
    }
  where
    differ : true ≡ false → ⊥
    differ e = search rules

    not_in_front : (ds : List Bool) (i : ℕ) → get_or ds i false ≡ false → prefix_len (λ d. d) ds ≤ i
    not_in_front ds i e =
        elim (lt_cases i (prefix_len (λ d. d) ds)) [
          | inl lt ↦ absurd (differ (sym (front ds i lt) ∙ e))
          | inr le ↦ le
        ]
      where
        lt_cases : (a b : ℕ) → (a < b) ⊎ (b ≤ a)
        lt_cases a b = search (arith, rules)

open_completed : (lanes : List Window) (f g : Flight) → IsOpenAt lanes f → IsOpenAt lanes g → is_same_place f g ≡ false → IsOpenAt (set lanes f.input (completed (lane_at lanes f.input) f.envelope.offset)) g
open_completed lanes f g at_f at_g apart = by_input (cases_eq g.input f.input)
  where
    by_input : (g.input ≡ f.input) ⊎ (g.input ≢ f.input) → IsOpenAt (set lanes f.input (completed (lane_at lanes f.input) f.envelope.offset)) g
    by_input (inl e) =
        let x = f.envelope.offset in
        let v = lane_at lanes f.input in
        let was : lane_at lanes g.input ≡ v = ap (lane_at lanes) e in
        let now : lane_at (set lanes f.input (completed v x)) g.input ≡ completed v x = ap (lane_at (set lanes f.input (completed v x))) e ∙ get_or-set_same lanes f.input (completed v x) (record { low = 0; done = []; span = 0 }) at_f.input in
        let other : eqb g.envelope.offset x ≡ false = rw (eq-eqb g.input f.input e) at apart in
        let inside_f = both (leb v.low x) (ltb x (next_of v)) at_f.inside in
        let kept = stays_open v x g.envelope.offset (leb_le v.low x inside_f.0) (eqb_ne g.envelope.offset x other)
        (subst (λ (y : Window). is_inside y g.envelope.offset ≡ true) was at_g.inside) (subst (λ (y : Window). is_done y g.envelope.offset ≡ false) was at_g.undone) in
        record {
          input = omega (arith, at_g.input, length-set lanes f.input (completed v x));
          inside = subst (λ (y : Window). is_inside y g.envelope.offset ≡ true) (sym now) kept.inside;
          undone = subst (λ (y : Window). is_done y g.envelope.offset ≡ false) (sym now) kept.undone;
        }
    by_input (inr ne) =
        let v = lane_at lanes f.input in
        let now : lane_at (set lanes f.input (completed v f.envelope.offset)) g.input ≡ lane_at lanes g.input = get_or-set_other lanes f.input g.input (completed v f.envelope.offset) (record { low = 0; done = []; span = 0 }) ne in
        record {
          input = omega (arith, at_g.input, length-set lanes f.input (completed v f.envelope.offset));
          inside = subst (λ (y : Window). is_inside y g.envelope.offset ≡ true) (sym now) at_g.inside;
          undone = subst (λ (y : Window). is_done y g.envelope.offset ≡ false) (sym now) at_g.undone;
        }

idle_without : (u : CoreValue) (w : Option (List Answer)) (n : ℕ) → IfSome w (λ x. (u.callbacks.flights ≡ []) × (u.failed ≡ None)) → IfSome w (λ x. (without n u.callbacks.flights ≡ []) × (u.failed ≡ None))
idle_without u None n idle = tt
idle_without u (Some x) n idle = (ap (without n) idle.0, idle.1)

pub complete_core : (u : CoreValue) (f : Flight) → IsCore u → flight_of f.number u.callbacks.flights ≡ Some f → IsCore (after_complete u f)
complete_core u f core flies =
    let v = lane_at u.lanes f.input in
    let x = f.envelope.offset in
    let d : Window = record { low = 0; done = []; span = 0 } in
    let at_f = the_found (IsOpenAt u.lanes) f.number u.callbacks.flights f core.undone flies in
    let here : lane_at (set u.lanes f.input (completed v x)) f.input ≡ completed v x = get_or-set_same u.lanes f.input (completed v x) d at_f.input in
    let other : (q : ℕ) → q ≢ f.input → lane_at (set u.lanes f.input (completed v x)) q ≡ lane_at u.lanes q = λ q ne. get_or-set_other u.lanes f.input q (completed v x) d ne in
    let in_starts : f.input < length u.starts = omega (arith, at_f.input, core.lanes) in
    record {
      inputs = core.inputs;
      lanes = length-set u.lanes f.input (completed v x) ∙ core.lanes;
      ends = core.ends;
      within = λ q l. elim (cases_eq q f.input) [
        | inl e ↦ omega (arith, ap (λ r. get_or u.ends r 0) e, ap (λ r. next_of (lane_at (set u.lanes f.input (completed v x)) r)) e, ap next_of here, next_completed v x, core.within f.input in_starts)
        | inr ne ↦ omega (arith, ap next_of (other q ne), core.within q l)
      ];
      spans = λ q l. elim (cases_eq q f.input) [
        | inl e ↦ ap (λ r. (lane_at (set u.lanes f.input (completed v x)) r).span) e ∙ ap (λ (y : Window). y.span) here ∙ core.spans f.input in_starts
        | inr ne ↦ ap (λ (y : Window). y.span) (other q ne) ∙ core.spans q l
      ];
      limit = core.limit;
      sized = core.sized;
      undone = both_all (IsOpenAt u.lanes) (λ g. is_same_place f g ≡ false) (IsOpenAt (set u.lanes f.input (completed v x))) (without f.number u.callbacks.flights)
          (λ g at_g apart. open_completed u.lanes f g at_f at_g apart) (without_all (IsOpenAt u.lanes) f.number u.callbacks.flights core.undone) (away_from f.number u.callbacks.flights f core.apart flies);
      apart = without_apart f.number u.callbacks.flights core.apart;
      idle = idle_without u u.window f.number core.idle;
      timed = core.timed;
      runnable = core.runnable;
      few = omega (arith, core.few, left_same u.ends u.lanes f.input (completed v x) (next_completed v x));
    }

no_window_open : (u : CoreValue) (w : Option (List Answer)) (n : ℕ) (f : Flight) (failed : Option Failure) (fs : List Flight) → flight_of n u.callbacks.flights ≡ Some f → IfSome w (λ x. (u.callbacks.flights ≡ []) × (u.failed ≡ None)) → IfSome w (λ x. (fs ≡ []) × (failed ≡ None))
no_window_open u None n f failed fs flies idle = tt
no_window_open u (Some x) n f failed fs flies idle = absurd (clash (sym (ap (flight_of n) idle.0) ∙ flies))
  where
    clash : None ≡ Some f → ⊥
    clash e = search rules

pub failure_core : (u : CoreValue) (f : Flight) (why : Why) → IsCore u → flight_of f.number u.callbacks.flights ≡ Some f → IsCore (after_failure u f why)
failure_core u f why core flies = record {
  inputs = core.inputs;
  lanes = core.lanes;
  ends = core.ends;
  within = core.within;
  spans = core.spans;
  limit = core.limit;
  sized = core.sized;
  undone = without_all (IsOpenAt u.lanes) f.number u.callbacks.flights core.undone;
  apart = without_apart f.number u.callbacks.flights core.apart;
  idle = no_window_open u u.window f.number f _ (without f.number u.callbacks.flights) flies core.idle;
  timed = core.timed;
  runnable = core.runnable;
  few = core.few;
}

pub window_act_core : (u : CoreValue) (answers : List Answer) (act : Act) → IsCore u → u.window ≡ Some answers → IsCore (after_window_act u answers act)
window_act_core u answers act core is = record {
  inputs = core.inputs;
  lanes = core.lanes;
  ends = core.ends;
  within = core.within;
  spans = core.spans;
  limit = core.limit;
  sized = sized_after u.setup u.held act core.sized;
  undone = core.undone;
  apart = core.apart;
  idle = subst (λ w. IfSome w (λ x. (u.callbacks.flights ≡ []) × (u.failed ≡ None))) is core.idle;
  timed = core.timed;
  runnable = core.runnable;
  few = core.few;
}

pub window_end_core : (u : CoreValue) → IsCore u → IsCore (after_window_end u)
window_end_core u core = record {
  inputs = core.inputs;
  lanes = core.lanes;
  ends = core.ends;
  within = core.within;
  spans = core.spans;
  limit = core.limit;
  sized = core.sized;
  undone = core.undone;
  apart = core.apart;
  idle = tt;
  timed = core.timed;
  runnable = core.runnable;
  few = core.few;
}

pub window_failure_core : (u : CoreValue) (why : Why) → IsCore u → IsCore (after_window_failure u why)
window_failure_core u why core = record {
  inputs = core.inputs;
  lanes = core.lanes;
  ends = core.ends;
  within = core.within;
  spans = core.spans;
  limit = core.limit;
  sized = core.sized;
  undone = core.undone;
  apart = core.apart;
  idle = tt;
  timed = core.timed;
  runnable = core.runnable;
  few = core.few;
}

pub open_window_core : (u : CoreValue) → IsCore u → u.callbacks.flights ≡ [] → u.failed ≡ None → IsCore (after_open_window u)
open_window_core u core none sound = record {
  inputs = core.inputs;
  lanes = core.lanes;
  ends = core.ends;
  within = core.within;
  spans = core.spans;
  limit = core.limit;
  sized = core.sized;
  undone = core.undone;
  apart = core.apart;
  idle = (none, sound);
  timed = record { commit = core.timed.commit; window = core.timed.window };
  runnable = core.runnable;
  few = core.few;
}

pub times_core : (u : CoreValue) (t : Times) → IsCore u → IsTimed u.setup t → IsCore (with_times u t)
times_core u t core timed = record {
  inputs = core.inputs;
  lanes = core.lanes;
  ends = core.ends;
  within = core.within;
  spans = core.spans;
  limit = core.limit;
  sized = core.sized;
  undone = core.undone;
  apart = core.apart;
  idle = core.idle;
  timed = timed;
  runnable = core.runnable;
  few = core.few;
}

pub commit_core : (u : CoreValue) (held : Held) → IsCore u → IsCleared u.held held → IsCore (after_commit u held)
commit_core u held core cleared = record {
  inputs = core.inputs;
  lanes = core.lanes;
  ends = core.ends;
  within = core.within;
  spans = core.spans;
  limit = core.limit;
  sized = record {
    stores = omega (arith, ap length cleared.stores, length-map held.stores (λ (t : Tracked). t.content), length-map u.held.stores (λ (t : Tracked). t.content), core.sized.stores);
    outputs = cleared.as_many ∙ core.sized.outputs;
  };
  undone = core.undone;
  apart = core.apart;
  idle = core.idle;
  timed = record { commit = core.timed.commit; window = core.timed.window };
  runnable = core.runnable;
  few = core.few;
}
