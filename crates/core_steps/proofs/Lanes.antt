-- A window of offsets goes on with the events.
use Rattle.std.proofs.Common.{ℕ, zero, suc, ◌+◌, ◌-◌, ◌≡◌, ◌≢◌, ◌<◌, ◌≤◌, ◌⊎◌, inl, inr, Bool, true, false, ◌&&◌, ◌||◌, eqb, ltb, leb, List, [], ◌∷◌, ◌++◌, length, get_or, set, drop, cond, refl, sym, ◌∙◌, ap, arith, rules}
use Rattle.std.specs.List.{prefix_len}
use Rattle.std.proofs.lemmas.Bool.{cases_eq}
use Rattle.std.proofs.lemmas.List.{get_or-set_same, get_or-set_other, length-set, length-append, length-drop}
use Rattle.samza_model.specs.Events.{past}
use Rattle.offset_window.specs.Windows.{Window, next_of, is_inside, is_done, delivered, raised, completed}
use Rattle.core_steps.specs.Lanes.{IsLane}

-- the least offset that isn't covered is where the window begins
pub past_is : (covered : ℕ → Bool) (at n low : ℕ) → at ≤ low → low ≤ at + n → ((o : ℕ) → at ≤ o → o < low → covered o ≡ true) → (low < at + n → covered low ≡ false) → past covered at n ≡ low
unfolding past
past_is covered at zero low after within below stops = omega (arith, after, within)
past_is covered at (suc n) low after within below stops =
    elim (cases_eq at low) [
      | inl e ↦ rw (ap covered e ∙ stops (omega (arith, e))) e
      | inr ne ↦ rw (below at (omega arith) (omega (arith, ne, after))) (past_is covered (at + 1) n low (omega (arith, ne, after)) (omega (arith, within)) (λ o le lt. below o (omega (arith, le)) lt) (λ lt. stops (omega (arith, lt))))
    ]

pub low_is : (covered : ℕ → Bool) (start n : ℕ) (w : Window) → IsLane covered start (start + n) w → past covered start n ≡ w.low
low_is covered start n w lane = past_is covered start n w.low lane.after (omega (arith, lane.next)) lane.below (λ lt. sym (lane.done w.low (omega arith)) ∙ lane.stops)

-- the same offsets are covered
pub lane_same : (c d : ℕ → Bool) (start next : ℕ) (w : Window) → ((o : ℕ) → d o ≡ c o) → IsLane c start next w → IsLane d start next w
lane_same c d start next w same lane = record {
  after = lane.after;
  next = lane.next;
  below = λ o le lt. same o ∙ lane.below o le lt;
  done = λ o le. lane.done o le ∙ sym (same o);
  stops = lane.stops;
}

pub get_more : (ds : List Bool) (i : ℕ) → get_or (ds ++ false ∷ []) i false ≡ get_or ds i false
get_more [] zero = refl
get_more [] (suc i) = refl
get_more (d ∷ ds) zero = refl
get_more (d ∷ ds) (suc i) = get_more ds i

pub lane_delivered : (c : ℕ → Bool) (start next : ℕ) (w : Window) → IsLane c start next w → IsLane c start (next + 1) (delivered w)
lane_delivered c start next w lane = record {
  after = lane.after;
  next = omega (arith, length-append w.done (false ∷ []), lane.next);
  below = lane.below;
  done = λ o le. get_more w.done (o - w.low) ∙ lane.done o le;
  stops = get_more w.done (w.low - w.low) ∙ lane.stops;
}

-- what stands in front of the first that isn't complete is complete
pub front : (ds : List Bool) (i : ℕ) → i < prefix_len (λ d. d) ds → get_or ds i false ≡ true
front [] i lt = absurd (omega (arith, lt))
front (true ∷ ds) zero lt = refl
front (true ∷ ds) (suc i) lt = front ds i (omega (arith, lt))
front (false ∷ ds) i lt = absurd (omega (arith, lt))

zero_plus : (i : ℕ) → 0 + i ≡ i
zero_plus i = omega arith

one_suc0 : (n : ℕ) → 1 + n ≡ suc n
one_suc0 n = omega arith

one_up : (n i : ℕ) → suc (n + i) ≡ (1 + n) + i
one_up n i = omega arith

pub behind : (ds : List Bool) (i : ℕ) → get_or (drop (prefix_len (λ d. d) ds) ds) i false ≡ get_or ds (prefix_len (λ d. d) ds + i) false
behind [] i = refl
behind (true ∷ ds) i = (λ j. get_or (drop (one_suc0 (prefix_len (λ d. d) ds) j) (true ∷ ds)) i false) ∙ behind ds i ∙ (λ j. get_or (true ∷ ds) (one_up (prefix_len (λ d. d) ds) i j) false)
behind (false ∷ ds) i = rw (zero_plus i) refl

one_suc : (n : ℕ) → 1 + n ≡ suc n
one_suc n = omega arith

first_stops : (ds : List Bool) → get_or (drop (prefix_len (λ d. d) ds) ds) 0 false ≡ false
first_stops [] = refl
first_stops (true ∷ ds) = (λ j. get_or (drop (one_suc (prefix_len (λ d. d) ds) j) (true ∷ ds)) 0 false) ∙ first_stops ds
first_stops (false ∷ ds) = refl

pub leading_short : (ds : List Bool) → prefix_len (λ d. d) ds ≤ length ds
leading_short [] = omega arith
leading_short (true ∷ ds) = omega (arith, leading_short ds)
leading_short (false ∷ ds) = omega arith

-- past those in front that are covered
raise : (c : ℕ → Bool) (start upto : ℕ) (w : Window) → start ≤ w.low → next_of w ≡ upto → ((o : ℕ) → start ≤ o → o < w.low → c o ≡ true) → ((o : ℕ) → w.low ≤ o → is_done w o ≡ c o) → IsLane c start upto (raised w)
raise c start upto w after next below done =
    let n = prefix_len (λ d. d) w.done in
    record {
      after = omega (arith, after);
      next = omega (arith, next, length-drop n w.done, leading_short w.done);
      below = λ o le lt. elim (ltb_cases o w.low) [
        | inl before ↦ below o le before
        | inr from_low ↦ sym (done o from_low) ∙ front w.done (o - w.low) (omega (arith, lt, from_low))
      ];
      done = λ o le.
          let place : n + (o - (w.low + n)) ≡ o - w.low = omega (arith, le) in
          behind w.done (o - (w.low + n)) ∙ ap (λ i. get_or w.done i false) place ∙ done o (omega (arith, le));
      stops =
          let none : (w.low + n) - (w.low + n) ≡ 0 = omega arith in
          ap (λ i. get_or (drop n w.done) i false) none ∙ first_stops w.done;
    }
  where
    ltb_cases : (x y : ℕ) → (x < y) ⊎ (y ≤ x)
    ltb_cases x y = search (arith, rules)

or_true : (b : Bool) → (b || true) ≡ true
or_true true = refl
or_true false = refl

-- an offset is completed
pub lane_completed : (c d : ℕ → Bool) (start upto x : ℕ) (w : Window) → w.low ≤ x → x < next_of w → d x ≡ true → ((o : ℕ) → o ≢ x → d o ≡ c o) → IsLane c start upto w → IsLane d start upto (completed w x)
lane_completed c d start upto x w le lt here others lane =
    raise d start upto (record { low = w.low; done = set w.done (x - w.low) true; span = w.span })
    lane.after
    (omega (arith, length-set w.done (x - w.low) true, lane.next))
    (λ o from below. others o (λ e. absurd (omega (arith, e, below, le))) ∙ lane.below o from below)
    (λ o from. elim (cases_eq o x) [
      | inl e ↦ ap (λ (k : ℕ). get_or (set w.done (x - w.low) true) (k - w.low) false) e ∙ get_or-set_same w.done (x - w.low) true false (omega (arith, lt, le)) ∙ sym here ∙ ap d (sym e)
      | inr ne ↦ get_or-set_other w.done (x - w.low) (o - w.low) true false (λ e. ne (omega (arith, e, from, le))) ∙ lane.done o from ∙ sym (others o ne)
    ])
