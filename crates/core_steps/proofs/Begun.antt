-- A core just made.
use Rattle.std.proofs.Common.{ℕ, zero, suc, ◌+◌, ◌-◌, ◌≡◌, ◌<◌, ◌≤◌, ◌⊎◌, inl, inr, ◌^◌, List, [], ◌∷◌, ◌++◌, length, map, get_or, Option, None, refl, sym, ◌∙◌, ap, subst, arith, rules, append-nil}
use Rattle.std.specs.Prelude.{IfSome}
use Rattle.std.specs.List.{AllByRecursion}
use Rattle.std.specs.FinMap as fin
use Rattle.std.proofs.lemmas.List.{get_or-map, get_or_past, length-map}
use Rattle.samza_model.specs.declared.messages.Record.{Record}
use Rattle.samza_model.specs.declared.setups.Setup.{Setup}
use Rattle.samza_model.specs.declared.acts.Answer.{Answer}
use Rattle.samza_model.specs.declared.flights.Flight.{Flight}
use Rattle.samza_model.specs.Content.{Content, State, nothing_stored, sent_at, store_at}
use Rattle.samza_model.specs.Events.{state_after}
use Rattle.samza_model.specs.Ran.{fresh}
use Rattle.std.proofs.lemmas.List.Elements.{All-get_or}
use Rattle.kv_store.specs.Tracked.{Tracked, no_keys}
use Rattle.offset_window.specs.Windows.{Window, next_of}
use Rattle.callback_manager.specs.Callbacks.{CallbacksValue}
use Rattle.core_steps.specs.Begun.{AreClean, AreUnsent}
use Rattle.core_steps.specs.Changes.{changed_in}
use Rattle.core_steps.specs.Cores.{CoreValue, Outside, IsCore, IsHeld, IsIdle, Stands}
use Rattle.core_steps.specs.Held.{Held, IsSized, contents_of}
use Rattle.core_steps.specs.Lanes.{lane_at, left, between, begun_lane, IsOpenAt, AreApart}
use Rattle.core_steps.specs.Laws.{IsFresh}
use Rattle.core_steps.specs.Setups.{IsRunnable}
use Rattle.core_steps.specs.Times.{IsTimed}
use Rattle.core_steps.proofs.Steps.{content_at, fresh_stands}

plus_nothing : (s : ℕ) → s + 0 ≡ s
plus_nothing s = omega arith

-- nothing is delivered yet, so all from the starts to the ends is left
left_begun : (span : ℕ) (starts ends : List ℕ) → left ends (map (begun_lane span) starts) ≡ between starts ends
left_begun span [] [] = refl
left_begun span [] (e ∷ es) = refl
left_begun span (s ∷ ss) [] = refl
left_begun span (s ∷ ss) (e ∷ es) = λ i. (e - plus_nothing s i) + left_begun span ss es i

lane_begun : (span : ℕ) (starts : List ℕ) (lanes : List Window) (p : ℕ) → lanes ≡ map (begun_lane span) starts → p < length starts → lane_at lanes p ≡ begun_lane span (get_or starts p 0)
lane_begun span starts lanes p are lt = ap (λ ws. lane_at ws p) are ∙ get_or-map (begun_lane span) starts p 0 (record { low = 0; done = []; span = 0 }) lt

pub begins_sized : (s : Setup) (tables : List Content) (h : Held) → length tables ≡ length s.stores → contents_of h.stores ≡ tables → length h.unsent ≡ length s.outputs → IsSized s h
begins_sized s tables h as_many contents outputs = record {
  stores = sym (length-map h.stores (λ (t : Tracked). t.content)) ∙ ap length contents ∙ as_many;
  outputs = outputs;
}

pub begins_core : (u : CoreValue) → IsRunnable u.setup → length u.starts ≡ length u.setup.inputs → length u.ends ≡ length u.setup.inputs
    → ((p : ℕ) → p < length u.starts → get_or u.starts p 0 ≤ get_or u.ends p 0) → between u.starts u.ends < 2 ^ 63
    → u.lanes ≡ map (begun_lane u.setup.span) u.starts → u.callbacks ≡ record { flights = []; next = 0; limit = u.setup.concurrency }
    → u.window ≡ None → IsSized u.setup u.held → IsTimed u.setup u.times → IsCore u
begins_core u runnable starts ends within few lanes callbacks closed sized timed =
    let none : u.callbacks.flights ≡ [] = ap (λ (c : CallbacksValue). c.flights) callbacks in
    let next : u.callbacks.next ≡ 0 = ap (λ (c : CallbacksValue). c.next) callbacks in
    let all_left : left u.ends u.lanes ≡ between u.starts u.ends = ap (left u.ends) lanes ∙ left_begun u.setup.span u.starts u.ends in
    record {
      inputs = sym starts;
      lanes = ap length lanes ∙ length-map u.starts (begun_lane u.setup.span);
      ends = ends ∙ sym starts;
      within = λ p lt. omega (arith, ap next_of (lane_begun u.setup.span u.starts u.lanes p lanes lt), within p lt);
      spans = λ p lt. ap (λ (w : Window). w.span) (lane_begun u.setup.span u.starts u.lanes p lanes lt);
      limit = ap (λ (c : CallbacksValue). c.limit) callbacks;
      sized = sized;
      undone = subst (λ (fs : List Flight). AllByRecursion (IsOpenAt u.lanes) fs) (sym none) tt;
      apart = subst AreApart (sym none) tt;
      idle = subst (λ (w : Option (List Answer)). IfSome w (IsIdle u)) (sym closed) tt;
      timed = timed;
      runnable = runnable;
      few = omega (arith, next, all_left, few);
    }

nothing_sent : {X : Type 0} (outputs : List X) (j : ℕ) → sent_at (map (λ _. []) outputs) j ≡ []
nothing_sent [] zero = refl
nothing_sent [] (suc j) = refl
nothing_sent (x ∷ xs) zero = refl
nothing_sent (x ∷ xs) (suc j) = nothing_sent xs j

pub begins_held : (s : Setup) (tables : List Content) (h : Held) → contents_of h.stores ≡ tables → AreClean h.stores → AreUnsent (length s.outputs) h → IsHeld (fresh s tables) [] 0 h
unfolding state_after changed_in
begins_held s tables h contents none_dirty unsent = record {
  stores = sym contents;
  as_many = length-map s.outputs (λ _. []) ∙ sym unsent.outputs;
  sent = λ j. sym (append-nil (sent_at (fresh s tables).sent j)) ∙ ap (λ (l : List Record). sent_at (fresh s tables).sent j ++ l) (sym (none j (lt_cases j (length s.outputs))));
  cleared = λ j lt. unsent.none_before j (omega (arith, lt, unsent.outputs)) ∙ sym (ap length (nothing_sent s.outputs j));
  clean = λ i lt key dirty. ap (λ (c : Content). fin.get c key) (ap (λ (cs : List Content). store_at cs i) (sym contents) ∙ content_at h.stores i lt);
  dirty = λ i lt. All-get_or (λ (t : Tracked). t.dirty ≡ no_keys) h.stores i (record { content = nothing_stored; dirty = no_keys }) lt none_dirty;
}
  where
    lt_cases : (a b : ℕ) → (a < b) ⊎ (b ≤ a)
    lt_cases a b = search (arith, rules)

    none : (j : ℕ) → (j < length s.outputs) ⊎ (length s.outputs ≤ j) → sent_at h.unsent j ≡ []
    none j (inl lt) = unsent.none j lt
    none j (inr le) = get_or_past h.unsent j [] (omega (arith, le, unsent.outputs))

pub begins_standing : (u : CoreValue) (o : Outside) (tables : List Content) → IsFresh u → u.lanes ≡ map (begun_lane u.setup.span) u.starts → contents_of u.held.stores ≡ tables → AreClean u.held.stores → AreUnsent (length u.setup.outputs) u.held
    → o.state ≡ fresh u.setup tables → Stands o u [] 0
begins_standing u o tables is_fresh lanes contents clean unsent state =
    fresh_stands u o is_fresh (subst (λ (s : State). IsHeld s [] 0 u.held) (sym state) (begins_held u.setup tables u.held contents clean unsent)) (λ p lt. lane_begun u.setup.span u.starts u.lanes p lanes lt)
