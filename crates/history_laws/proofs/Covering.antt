-- Which offsets are covered, and where the low stands.
use Rattle.std.proofs.Common.{ℕ, zero, suc, ◌+◌, ◌≡◌, ◌<◌, ◌≤◌, ◌⊎◌, inl, inr, Bool, true, false, ◌&&◌, ◌||◌, ◌==◌, if◌then◌else◌, List, [], ◌∷◌, Option, Some, None, refl, sym, ◌∙◌, ap, arith}
use Rattle.std.proofs.lemmas.Bool.{cases_eq, cases_order, eq-eqb, ne_eqb, or_cases}
use Rattle.std.proofs.lemmas.Option.{none-some}
use Rattle.samza_model.specs.declared.turns.Failure.{Failure}
use Rattle.samza_model.specs.declared.events.Event.{Event}
use Rattle.samza_model.specs.declared.events.Event.TheVariants.{Deliver, Did, Complete, Failed, WindowDid, WindowEnded}
use Rattle.samza_model.specs.Events.{begun, deliveries_of, earlier, first_failure, flight_of, flights, is_at, is_covered, low, past}
use Rattle.samza_model.specs.Lawful.{Given, IsLawful, start_at}
use Rattle.history_laws.specs.Lows.{IsLow}
use Rattle.history_laws.proofs.Flying.{WasDelivered, delivered_stays, all_inside, at_found, is_flying, or_left, flying_more, flying_last, flying_answered, flying_without}

-- what is covered was delivered
covered_inside : (k : Given) (h : List Event) → IsLawful k h → (p o : ℕ) → is_covered k.setup p o h ≡ true → WasDelivered k h p o
unfolding IsLawful is_covered deliveries_of
covered_inside k [] lawful p o is = absurd cc
covered_inside k (Deliver n q u m t ∷ h) lawful p o is = delivered_stays k h n q u m t p o (covered_inside k h lawful.0 p o is)
covered_inside k (Did n i act answer ∷ h) lawful p o is = covered_inside k h lawful.0 p o is
covered_inside k (Complete n ∷ h) lawful p o is = elim (or_cases (is_at p o (flight_of n (flights k.setup h))) (is_covered k.setup p o h) is) [
  | inl now ↦ at_found (WasDelivered k h) p o n (flights k.setup h) (all_inside k h lawful.0) now
  | inr before ↦ covered_inside k h lawful.0 p o before
]
covered_inside k (Failed f ∷ h) lawful p o is = covered_inside k h lawful.0 p o is
covered_inside k (WindowDid i act answer ∷ h) lawful p o is = covered_inside k h lawful.0 p o is
covered_inside k (WindowEnded ∷ h) lawful p o is = covered_inside k h lawful.0 p o is

not_sound : (x : Option Failure) (f : Failure) → earlier x f ≡ None → ⊥
not_sound None f is = none-some f (sym is)
not_sound (Some e) f is = none-some e (sym is)

same_place : (p o q u : ℕ) → q ≡ p → u ≡ o → (q == p && u == o) ≡ true
same_place p o q u e e' = ap (λ (b : Bool). b && u == o) (eq-eqb q p e) ∙ eq-eqb u o e'

abbrev IsCoveredOrFlying : Given → List Event → ℕ → ℕ → Type 0
IsCoveredOrFlying k h p o = (is_covered k.setup p o h ≡ true) ⊎ (is_flying p o (flights k.setup h) ≡ true)

-- of the last delivery: its own offset, or one before
newest : (q p d s o : ℕ) → s ≤ o → o < s + (if q == p then d + 1 else d) → (o < s + d) ⊎ ((q ≡ p) × (o ≡ s + d))
newest q p d s o from lt = elim (cases_eq q p) [
  | inl same ↦
      let more : (if q == p then d + 1 else d) ≡ d + 1 = ap (λ (b : Bool). if b then d + 1 else d) (eq-eqb q p same) in
      elim (cases_order o (s + d)) [
        | inl at ↦ inr (same, at)
        | inr rest ↦ elim rest [
          | inl before ↦ inl before
          | inr after ↦ absurd (omega (arith, lt, more, after))
        ]
      ]
  | inr other ↦
      let none : (if q == p then d + 1 else d) ≡ d = ap (λ (b : Bool). if b then d + 1 else d) (ne_eqb q p other) in
      inl (omega (arith, lt, none))
]

-- what was delivered is complete or in flight, as long as nothing failed
delivered_is : (k : Given) (h : List Event) → IsLawful k h → first_failure h ≡ None → (p o : ℕ) → WasDelivered k h p o → IsCoveredOrFlying k h p o
unfolding IsLawful is_covered deliveries_of first_failure flights
delivered_is k [] lawful sound p o was = absurd (omega (arith, was.0, was.1))
delivered_is k (Deliver n q u m t ∷ h) lawful sound p o was =
    elim (newest q p (deliveries_of p h) (start_at k p) o was.0 was.1) [
      | inl before ↦ elim (delivered_is k h lawful.0 sound p o (was.0, before)) [
        | inl covered ↦ inl covered
        | inr flying ↦ inr (flying_more p o (flights k.setup h) (begun k.setup n q u m t) flying)
      ]
      | inr now ↦ inr (flying_last p o (flights k.setup h) (begun k.setup n q u m t)
          (same_place p o q u now.0 (lawful.1.offset ∙ ap (λ (x : ℕ). start_at k x + deliveries_of x h) now.0 ∙ sym now.1)))
    ]
delivered_is k (Did n i act answer ∷ h) lawful sound p o was = elim (delivered_is k h lawful.0 sound p o was) [
  | inl covered ↦ inl covered
  | inr flying ↦ inr (sym (flying_answered p o n answer (flights k.setup h)) ∙ flying)
]
delivered_is k (Complete n ∷ h) lawful sound p o was = elim (delivered_is k h lawful.0 sound p o was) [
  | inl covered ↦ inl (or_then (is_at p o (flight_of n (flights k.setup h))) (is_covered k.setup p o h) covered)
  | inr flying ↦ elim (flying_without p o n (flights k.setup h) flying) [
    | inl found ↦ inl (or_left (is_at p o (flight_of n (flights k.setup h))) (is_covered k.setup p o h) found)
    | inr still ↦ inr still
  ]
]
  where
    or_then : (a b : Bool) → b ≡ true → (a || b) ≡ true
    or_then true b is = refl
    or_then false b is = is
delivered_is k (Failed f ∷ h) lawful sound p o was = absurd (not_sound (first_failure h) f sound)
delivered_is k (WindowDid i act answer ∷ h) lawful sound p o was = delivered_is k h lawful.0 sound p o was
delivered_is k (WindowEnded ∷ h) lawful sound p o was = delivered_is k h lawful.0 sound p o was

-- from a place on, past what is covered
pub record Passes (covered : ℕ → Bool) (at n to : ℕ) : Type 0 where
  pub from : at ≤ to
  pub upto : to ≤ at + n
  pub below : (x : ℕ) → at ≤ x → x < to → covered x ≡ true
  pub stops : to < at + n → covered to ≡ false

passes_on : (covered : ℕ → Bool) (at n to : ℕ) → covered at ≡ true → Passes covered (at + 1) n to → Passes covered at (suc n) to
passes_on covered at n to here rest = record {
  from = omega (arith, rest.from);
  upto = omega (arith, rest.upto);
  below = λ x from lt. elim (cases_eq x at) [
    | inl e ↦ ap covered e ∙ here
    | inr ne ↦ rest.below x (omega (arith, from, ne)) lt
  ];
  stops = λ lt. rest.stops (omega (arith, lt));
}

pub passes : (covered : ℕ → Bool) (at n : ℕ) → Passes covered at n (past covered at n)
unfolding past
passes covered at zero = record {
  from = omega arith;
  upto = omega arith;
  below = λ x from lt. absurd (omega (arith, from, lt));
  stops = λ lt. absurd (omega (arith, lt));
}
passes covered at (suc n) = elim (covered at) as (λ b. covered at ≡ b → Passes covered at (suc n) (if b then past covered (at + 1) n else at)) [
  | true ↦ λ is. passes_on covered at n (past covered (at + 1) n) is (passes covered (at + 1) n)
  | false ↦ λ is. record {
    from = omega arith;
    upto = omega arith;
    below = λ x from lt. absurd (omega (arith, from, lt));
    stops = λ lt. is;
  }
] refl

not_true : (b : Bool) → (b ≡ true → ⊥) → b ≡ false
not_true true never = absurd (never refl)
not_true false never = refl

pub low_least : (k : Given) (h : List Event) (p : ℕ) → IsLawful k h → IsLow k h p (low k.setup (start_at k p) h p)
low_least k h p lawful =
    let covered : ℕ → Bool = λ o. is_covered k.setup p o h in
    let at = passes covered (start_at k p) (deliveries_of p h) in
    record {
      from = at.from;
      below = at.below;
      stops = not_true (covered (low k.setup (start_at k p) h p)) (λ is. contrary covered (start_at k p) (deliveries_of p h) (low k.setup (start_at k p) h p) at is (covered_inside k h lawful p (low k.setup (start_at k p) h p) is));
    }
  where
    differ : true ≡ false → ⊥
    differ e = absurd cc

    contrary : (covered : ℕ → Bool) (s n to : ℕ) → Passes covered s n to → covered to ≡ true → (s ≤ to) × (to < s + n) → ⊥
    contrary covered s n to at is inside = differ (sym is ∙ at.stops inside.1)

pub low_unique : (k : Given) (h : List Event) (p o : ℕ) → IsLawful k h → IsLow k h p o → o ≡ low k.setup (start_at k p) h p
low_unique k h p o lawful is = one (λ x. is_covered k.setup p x h) (start_at k p) o (low k.setup (start_at k p) h p) is.from is.below is.stops least.from least.below least.stops
  where
    least : IsLow k h p (low k.setup (start_at k p) h p)
    least = low_least k h p lawful

    differ : true ≡ false → ⊥
    differ e = absurd cc

    one : (covered : ℕ → Bool) (s a b : ℕ) → s ≤ a → ((x : ℕ) → s ≤ x → x < a → covered x ≡ true) → covered a ≡ false → s ≤ b → ((x : ℕ) → s ≤ x → x < b → covered x ≡ true) → covered b ≡ false → a ≡ b
    one covered s a b from_a below_a stops_a from_b below_b stops_b = elim (cases_order a b) [
      | inl e ↦ e
      | inr rest ↦ elim rest [
        | inl lt ↦ absurd (differ (sym (below_b a from_a lt) ∙ stops_a))
        | inr gt ↦ absurd (differ (sym (below_a b from_b gt) ∙ stops_b))
      ]
    ]

pub low_idle : (k : Given) (h : List Event) (p : ℕ) → IsLawful k h → flights k.setup h ≡ [] → first_failure h ≡ None → low k.setup (start_at k p) h p ≡ start_at k p + deliveries_of p h
low_idle k h p lawful idle sound =
    elim (cases_order to (start_at k p + deliveries_of p h)) [
      | inl e ↦ e
      | inr rest ↦ elim rest [
        | inl lt ↦ absurd (none lt (delivered_is k h lawful sound p to (at.from, lt)))
        | inr gt ↦ absurd (omega (arith, gt, at.upto))
      ]
    ]
  where
    to : ℕ
    to = low k.setup (start_at k p) h p

    at : Passes (λ o. is_covered k.setup p o h) (start_at k p) (deliveries_of p h) to
    at = passes (λ o. is_covered k.setup p o h) (start_at k p) (deliveries_of p h)

    differ : true ≡ false → ⊥
    differ e = absurd cc

    none : to < start_at k p + deliveries_of p h → IsCoveredOrFlying k h p to → ⊥
    none lt (inl covered) = differ (sym covered ∙ at.stops lt)
    none lt (inr flying) = differ (sym flying ∙ ap (is_flying p to) idle)
