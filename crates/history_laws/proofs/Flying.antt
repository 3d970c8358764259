-- Where the callbacks in flight stand.
use Rattle.std.proofs.Common.{ℕ, ◌+◌, ◌≡◌, ◌<◌, ◌≤◌, ◌⊎◌, inl, inr, Bool, true, false, ◌&&◌, ◌||◌, ◌==◌, if◌then◌else◌, List, [], ◌∷◌, ◌++◌, Some, refl, ap, subst, arith}
use Rattle.std.specs.List.{AllByRecursion}
use Rattle.std.proofs.lemmas.Bool.{eq-eqb, eqb-true, or_cases}
use Rattle.samza_model.specs.declared.messages.Record.{Record}
use Rattle.samza_model.specs.declared.acts.Answer.{Answer}
use Rattle.samza_model.specs.declared.turns.Turn.{Turn}
use Rattle.samza_model.specs.declared.turns.Turn.TheVariants.{Call, Window}
use Rattle.samza_model.specs.declared.flights.Flight.{Flight}
use Rattle.samza_model.specs.declared.events.Event.{Event}
use Rattle.samza_model.specs.declared.events.Event.TheVariants.{Deliver, Did, Complete, Failed, WindowDid, WindowEnded}
use Rattle.samza_model.specs.Events.{answered, begun, deliveries_of, flight_of, flights, is_at, with_answer, without, without_turn}
use Rattle.samza_model.specs.Lawful.{Given, IsLawful, start_at}

pub all_answered : (P : Flight → Type 0) → ((a : Answer) (f : Flight) → P f → P (with_answer a f)) → (n : ℕ) (a : Answer) (fs : List Flight) → AllByRecursion P fs → AllByRecursion P (answered n a fs)
all_answered P keeps n a [] all = tt
all_answered P keeps n a (f ∷ fs) all = elim (f.number == n) as (λ b. AllByRecursion P (if b then with_answer a f ∷ fs else f ∷ answered n a fs)) [
  | true ↦ (keeps a f all.0, all.1)
  | false ↦ (all.0, all_answered P keeps n a fs all.1)
]

pub all_without : (P : Flight → Type 0) (n : ℕ) (fs : List Flight) → AllByRecursion P fs → AllByRecursion P (without n fs)
all_without P n [] all = tt
all_without P n (f ∷ fs) all = elim (f.number == n) as (λ b. AllByRecursion P (if b then fs else f ∷ without n fs)) [
  | true ↦ all.1
  | false ↦ (all.0, all_without P n fs all.1)
]

pub all_without_turn : (P : Flight → Type 0) (turn : Turn) (fs : List Flight) → AllByRecursion P fs → AllByRecursion P (without_turn turn fs)
all_without_turn P (Call n) fs all = all_without P n fs all
all_without_turn P Window fs all = all

pub all_more : (P : Flight → Type 0) (fs : List Flight) (f : Flight) → AllByRecursion P fs → P f → AllByRecursion P (fs ++ f ∷ [])
all_more P [] f all p = (p, tt)
all_more P (g ∷ fs) f all p = (all.0, all_more P fs f all.1 p)

all_then : (P Q : Flight → Type 0) → ((f : Flight) → P f → Q f) → (fs : List Flight) → AllByRecursion P fs → AllByRecursion Q fs
all_then P Q onto [] all = tt
all_then P Q onto (f ∷ fs) all = (onto f all.0, all_then P Q onto fs all.1)

-- the offset was delivered
abbrev pub WasDelivered : Given → List Event → ℕ → ℕ → Type 0
WasDelivered k h p o = (start_at k p ≤ o) × (o < start_at k p + deliveries_of p h)

abbrev IsInside : Given → List Event → Flight → Type 0
IsInside k h f = WasDelivered k h f.input f.envelope.offset

grows : (q p d : ℕ) → d ≤ (if p == q then d + 1 else d)
grows q p d = elim (p == q) as (λ b. d ≤ (if b then d + 1 else d)) [
  | true ↦ omega arith
  | false ↦ omega arith
]

pub delivered_stays : (k : Given) (h : List Event) (n p o : ℕ) (m : Record) (t q x : ℕ) → WasDelivered k h q x → WasDelivered k (Deliver n p o m t ∷ h) q x
unfolding deliveries_of
delivered_stays k h n p o m t q x was = (was.0, omega (arith, was.1, grows q p (deliveries_of q h)))

delivered_now : (k : Given) (h : List Event) (n p o : ℕ) (m : Record) (t : ℕ) → o ≡ start_at k p + deliveries_of p h → WasDelivered k (Deliver n p o m t ∷ h) p o
unfolding deliveries_of
delivered_now k h n p o m t is =
    let more : (if p == p then deliveries_of p h + 1 else deliveries_of p h) ≡ deliveries_of p h + 1 = ap (λ (b : Bool). if b then deliveries_of p h + 1 else deliveries_of p h) (eq-eqb p p refl) in
    (omega (arith, is), omega (arith, is, more))

-- each callback in flight is on an offset that was delivered
pub all_inside : (k : Given) (h : List Event) → IsLawful k h → AllByRecursion (IsInside k h) (flights k.setup h)
unfolding IsLawful flights deliveries_of
all_inside k [] lawful = tt
all_inside k (Deliver n p o m t ∷ h) lawful =
    all_more (IsInside k (Deliver n p o m t ∷ h)) (flights k.setup h) (begun k.setup n p o m t)
    (all_then (IsInside k h) (IsInside k (Deliver n p o m t ∷ h)) (λ f was. delivered_stays k h n p o m t f.input f.envelope.offset was) (flights k.setup h) (all_inside k h lawful.0))
    (delivered_now k h n p o m t lawful.1.offset)
all_inside k (Did n i act answer ∷ h) lawful = all_answered (IsInside k h) (λ a f was. was) n answer (flights k.setup h) (all_inside k h lawful.0)
all_inside k (Complete n ∷ h) lawful = all_without (IsInside k h) n (flights k.setup h) (all_inside k h lawful.0)
all_inside k (Failed f ∷ h) lawful = all_without_turn (IsInside k h) f.turn (flights k.setup h) (all_inside k h lawful.0)
all_inside k (WindowDid i act answer ∷ h) lawful = all_inside k h lawful.0
all_inside k (WindowEnded ∷ h) lawful = all_inside k h lawful.0

and_true : (a b : Bool) → (a && b) ≡ true → (a ≡ true) × (b ≡ true)
and_true true b is = (refl, is)
and_true false b is = absurd cc

-- what holds of each callback in flight holds of the one that stands here
pub at_found : (Q : ℕ → ℕ → Type 0) (p o n : ℕ) (fs : List Flight) → AllByRecursion (λ (f : Flight). Q f.input f.envelope.offset) fs → is_at p o (flight_of n fs) ≡ true → Q p o
at_found Q p o n [] all is = absurd cc
at_found Q p o n (f ∷ fs) all is = (elim (f.number == n) as (λ b. is_at p o (if b then Some f else flight_of n fs) ≡ true → Q p o) [
  | true ↦ λ is.
      let both = and_true (f.input == p) (f.envelope.offset == o) is in
      subst (λ q. Q q o) (eqb-true f.input p both.0) (subst (λ x. Q f.input x) (eqb-true f.envelope.offset o both.1) all.0)
  | false ↦ λ is. at_found Q p o n fs all.1 is
]) is

-- a callback is in flight on this offset
abbrev pub is_flying : ℕ → ℕ → List Flight → Bool
is_flying p o [] = false
is_flying p o (f ∷ fs) = is_at p o (Some f) || is_flying p o fs

or_right : (a b : Bool) → b ≡ true → (a || b) ≡ true
or_right true b is = refl
or_right false b is = is

pub or_left : (a b : Bool) → a ≡ true → (a || b) ≡ true
or_left true b is = refl
or_left false b is = absurd cc

pub flying_more : (p o : ℕ) (fs : List Flight) (f : Flight) → is_flying p o fs ≡ true → is_flying p o (fs ++ f ∷ []) ≡ true
flying_more p o [] f is = absurd cc
flying_more p o (g ∷ fs) f is = elim (or_cases (is_at p o (Some g)) (is_flying p o fs) is) [
  | inl here ↦ or_left (is_at p o (Some g)) (is_flying p o (fs ++ f ∷ [])) here
  | inr there ↦ or_right (is_at p o (Some g)) (is_flying p o (fs ++ f ∷ [])) (flying_more p o fs f there)
]

pub flying_last : (p o : ℕ) (fs : List Flight) (f : Flight) → is_at p o (Some f) ≡ true → is_flying p o (fs ++ f ∷ []) ≡ true
flying_last p o [] f is = or_left (is_at p o (Some f)) false is
flying_last p o (g ∷ fs) f is = or_right (is_at p o (Some g)) (is_flying p o (fs ++ f ∷ [])) (flying_last p o fs f is)

pub flying_answered : (p o n : ℕ) (a : Answer) (fs : List Flight) → is_flying p o fs ≡ is_flying p o (answered n a fs)
flying_answered p o n a [] = refl
flying_answered p o n a (f ∷ fs) = elim (f.number == n) as (λ b. is_flying p o (f ∷ fs) ≡ is_flying p o (if b then with_answer a f ∷ fs else f ∷ answered n a fs)) [
  | true ↦ refl
  | false ↦ ap (λ (b : Bool). is_at p o (Some f) || b) (flying_answered p o n a fs)
]

-- one that is taken out is the one with the number, or another
pub flying_without : (p o n : ℕ) (fs : List Flight) → is_flying p o fs ≡ true → (is_at p o (flight_of n fs) ≡ true) ⊎ (is_flying p o (without n fs) ≡ true)
flying_without p o n [] is = absurd cc
flying_without p o n (f ∷ fs) is = elim (f.number == n) as (λ b. (is_at p o (if b then Some f else flight_of n fs) ≡ true) ⊎ (is_flying p o (if b then fs else f ∷ without n fs) ≡ true)) [
  | true ↦ or_cases (is_at p o (Some f)) (is_flying p o fs) is
  | false ↦ elim (or_cases (is_at p o (Some f)) (is_flying p o fs) is) [
    | inl here ↦ inr (or_left (is_at p o (Some f)) (is_flying p o (without n fs)) here)
    | inr there ↦ elim (flying_without p o n fs there) [
      | inl found ↦ inl found
      | inr still ↦ inr (or_right (is_at p o (Some f)) (is_flying p o (without n fs)) still)
    ]
  ]
]
