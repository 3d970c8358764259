-- A mark trims the journal: what is kept of the whole list is kept of the journal.
use Rattle.std.proofs.Common.{ℕ, zero, suc, ◌+◌, ◌-◌, ◌≡◌, ◌≢◌, ◌<◌, ◌≤◌, ◌⊎◌, inl, inr, Bool, true, false, ◌&&◌, ◌||◌, ◌==◌, eqb, ltb, leb, if◌then◌else◌, List, [], ◌∷◌, ◌++◌, length, take, drop, Option, Some, None, refl, sym, ◌∙◌, ap, subst, arith, rules, eq-eqb, append_assoc}
use Rattle.std.specs.Prelude.{filter}
use Rattle.std.specs.List.{AllByRecursion}
use Rattle.std.proofs.lemmas.Bool.{cases_eq, ne_eqb}
use Rattle.std.proofs.lemmas.List.Elements.{filter-append}
use Rattle.samza_model.specs.declared.turns.Turn.{Turn}
use Rattle.samza_model.specs.declared.turns.Turn.TheVariants.{Call, Window}
use Rattle.samza_model.specs.declared.turns.Failure.{Failure}
use Rattle.samza_model.specs.declared.setups.Setup.{Setup}
use Rattle.samza_model.specs.declared.acts.Answer.{Answer}
use Rattle.samza_model.specs.declared.events.Event.{Event}
use Rattle.samza_model.specs.declared.events.Event.TheVariants.{Deliver, Did, Complete, Failed, WindowDid, WindowEnded}
use Rattle.samza_model.specs.declared.flights.Flight.{Flight}
use Rattle.samza_model.specs.Events.{flight_of, flights, answered, without, without_turn, with_answer, begun, is_at, deliveries, deliveries_of, is_covered, past, low, older, newer}
use Rattle.samza_model.specs.Lawful.{Given, IsLawful, MayDeliver, MayAct, MayExpire, MayFail, MayCome, start_at}
use Rattle.samza_model.specs.Journals.{uncovered_by, is_among, is_turn_among, belongs, lows_of, uncovered, kept_of}

abbrev Among : List ℕ → ℕ → Type 0
Among ns n = is_among ns n ≡ true

or_cases : (x y : Bool) → (x || y) ≡ true → (x ≡ true) ⊎ (y ≡ true)
or_cases true y e = inl refl
or_cases false y e = inr e

or_right : (x y : Bool) → y ≡ true → (x || y) ≡ true
or_right true y e = refl
or_right false y e = e

or_left : (x y : Bool) → x ≡ true → (x || y) ≡ true
or_left x y e = ap (λ b. b || y) e

either_is : (b : Bool) → (b ≡ true) ⊎ (b ≡ false)
either_is true = inl refl
either_is false = inr refl

clash : true ≡ false → ⊥
clash e = search rules

-- the events of each list, one after another

pub uncovered-append : (l : ℕ → ℕ) (g f : List Event) → uncovered_by l (g ++ f) ≡ uncovered_by l g ++ uncovered_by l f
unfolding uncovered_by
uncovered-append l [] f = refl
uncovered-append l (Deliver n p o m t ∷ g) f =
    elim (either_is (leb (l p) o)) [
      | inl e ↦ rw e (ap (λ x. n ∷ x) (uncovered-append l g f))
      | inr e ↦ rw e (uncovered-append l g f)
    ]
uncovered-append l (Did n i act answer ∷ g) f = uncovered-append l g f
uncovered-append l (Complete n ∷ g) f = uncovered-append l g f
uncovered-append l (Failed x ∷ g) f = uncovered-append l g f
uncovered-append l (WindowDid i act answer ∷ g) f = uncovered-append l g f
uncovered-append l (WindowEnded ∷ g) f = uncovered-append l g f

-- what is filtered by them has the same uncovered callbacks

filter_either : (P : List Event → Type 0) (b : Bool) (e : Event) (rest : List Event) → P (e ∷ rest) → P rest → P (if b then e ∷ rest else rest)
filter_either P true e rest with_ without_ = with_
filter_either P false e rest with_ without_ = without_

filter_is : (q : Event → Bool) (e : Event) (g : List Event) → filter q (e ∷ g) ≡ (if q e then e ∷ filter q g else filter q g)
filter_is q e g = refl

pub same_uncovered : (l : ℕ → ℕ) (ns : List ℕ) (g : List Event) → ((n : ℕ) → Among (uncovered_by l g) n → Among ns n) → uncovered_by l (filter (belongs ns) g) ≡ uncovered_by l g
unfolding uncovered_by
same_uncovered l ns [] within = refl
same_uncovered l ns (Deliver n p o m t ∷ g) within =
    elim (either_is (leb (l p) o)) [
      | inl e ↦
          let all : (x : ℕ) → Among (n ∷ uncovered_by l g) x → Among ns x = λ x. subst (λ (ls : List ℕ). Among ls x → Among ns x) (listed e) (within x) in
          rw (all n (or_left (n == n) _ (eq-eqb n n refl)), e) (ap (λ x. n ∷ x) (same_uncovered l ns g (λ x a. all x (or_right (n == x) _ a))))
      | inr e ↦
          let later = same_uncovered l ns g (λ x. subst (λ (ls : List ℕ). Among ls x → Among ns x) (unlisted e) (within x)) in
          rw e (filter_either (λ f. uncovered_by l f ≡ uncovered_by l g) (is_among ns n) (Deliver n p o m t) (filter (belongs ns) g) (rw e later) later)
    ]
  where
    listed : leb (l p) o ≡ true → uncovered_by l (Deliver n p o m t ∷ g) ≡ n ∷ uncovered_by l g
    listed e = rw e refl

    unlisted : leb (l p) o ≡ false → uncovered_by l (Deliver n p o m t ∷ g) ≡ uncovered_by l g
    unlisted e = rw e refl
same_uncovered l ns (Did n i act answer ∷ g) within = filter_either (λ f. uncovered_by l f ≡ uncovered_by l g) (is_among ns n) (Did n i act answer) (filter (belongs ns) g) (same_uncovered l ns g within) (same_uncovered l ns g within)
same_uncovered l ns (Complete n ∷ g) within = filter_either (λ f. uncovered_by l f ≡ uncovered_by l g) (is_among ns n) (Complete n) (filter (belongs ns) g) (same_uncovered l ns g within) (same_uncovered l ns g within)
same_uncovered l ns (Failed x ∷ g) within = filter_either (λ f. uncovered_by l f ≡ uncovered_by l g) (is_turn_among ns x.turn) (Failed x) (filter (belongs ns) g) (same_uncovered l ns g within) (same_uncovered l ns g within)
same_uncovered l ns (WindowDid i act answer ∷ g) within = same_uncovered l ns g within
same_uncovered l ns (WindowEnded ∷ g) within = same_uncovered l ns g within

-- lower lows leave more uncovered
pub fewer : (k : Given) (l m : ℕ → ℕ) (g : List Event) → IsLawful k g → ((p : ℕ) → p < length k.starts → m p ≤ l p) → (n : ℕ) → Among (uncovered_by l g) n → Among (uncovered_by m g) n
unfolding uncovered_by IsLawful
fewer k l m [] law le n a = a
fewer k l m (Deliver n' p o b t ∷ g) law le n a =
    elim (either_is (leb (l p) o)) [
      | inl e ↦
          let lower : leb (m p) o ≡ true = lower_passes (l p) (m p) o (le p law.1.input) e in
          rw lower (elim (or_cases (n' == n) (is_among (uncovered_by l g) n) (rw e at a)) [
            | inl here ↦ or_left (n' == n) _ here
            | inr there ↦ or_right (n' == n) _ (fewer k l m g law.0 le n there)
          ])
      | inr e ↦
          let there = fewer k l m g law.0 le n (rw e at a) in
          elim (either_is (leb (m p) o)) [
            | inl q ↦ rw q (or_right (n' == n) _ there)
            | inr q ↦ rw q there
          ]
    ]
  where
    lower_passes : (x y z : ℕ) → y ≤ x → leb x z ≡ true → leb y z ≡ true
    lower_passes x y z yx xz = search (arith, rules)
fewer k l m (Did n' i act answer ∷ g) law le n a = fewer k l m g law.0 le n a
fewer k l m (Complete n' ∷ g) law le n a = fewer k l m g law.0 le n a
fewer k l m (Failed x ∷ g) law le n a = fewer k l m g law.0 le n a
fewer k l m (WindowDid i act answer ∷ g) law le n a = fewer k l m g law.0 le n a
fewer k l m (WindowEnded ∷ g) law le n a = fewer k l m g law.0 le n a

-- equal lows leave the same uncovered
pub agree : (k : Given) (l m : ℕ → ℕ) (g : List Event) → IsLawful k g → ((p : ℕ) → p < length k.starts → l p ≡ m p) → uncovered_by l g ≡ uncovered_by m g
unfolding uncovered_by IsLawful
agree k l m [] law same = refl
agree k l m (Deliver n' p o b t ∷ g) law same = λ i. if leb (same p law.1.input i) o then n' ∷ agree k l m g law.0 same i else agree k l m g law.0 same i
agree k l m (Did n' i act answer ∷ g) law same = agree k l m g law.0 same
agree k l m (Complete n' ∷ g) law same = agree k l m g law.0 same
agree k l m (Failed x ∷ g) law same = agree k l m g law.0 same
agree k l m (WindowDid i act answer ∷ g) law same = agree k l m g law.0 same
agree k l m (WindowEnded ∷ g) law same = agree k l m g law.0 same

-- a part of a lawful list
pub lawful_part : (k : Given) (g f : List Event) → IsLawful k (g ++ f) → IsLawful k f
unfolding IsLawful
lawful_part k [] f law = law
lawful_part k (e ∷ g) f law = lawful_part k g f law.0

deliveries_more : (e : Event) (g : List Event) → deliveries g ≤ deliveries (e ∷ g)
unfolding deliveries
deliveries_more (Deliver n p o m t) g = omega arith
deliveries_more (Did n i act answer) g = omega arith
deliveries_more (Complete n) g = omega arith
deliveries_more (Failed x) g = omega arith
deliveries_more (WindowDid i act answer) g = omega arith
deliveries_more WindowEnded g = omega arith

deliveries_part : (g f : List Event) → deliveries f ≤ deliveries (g ++ f)
deliveries_part [] f = omega arith
deliveries_part (e ∷ g) f = omega (arith, deliveries_part g f, deliveries_more e (g ++ f))

-- an earlier callback that is uncovered was delivered earlier
pub earlier_uncovered : (k : Given) (l : ℕ → ℕ) (g f : List Event) → IsLawful k (g ++ f) → (n : ℕ) → n < deliveries f → Among (uncovered_by l (g ++ f)) n → Among (uncovered_by l f) n
unfolding uncovered_by IsLawful
earlier_uncovered k l [] f law n lt a = a
earlier_uncovered k l (Deliver n' p o b t ∷ g) f law n lt a =
    elim (either_is (leb (l p) o)) [
      | inl e ↦
          elim (or_cases (n' == n) (is_among (uncovered_by l (g ++ f)) n) (rw e at a)) [
            | inl here ↦ absurd (clash (sym here ∙ ne_eqb n' n (λ q. absurd (omega (arith, q, law.1.number, deliveries_part g f, lt)))))
            | inr there ↦ earlier_uncovered k l g f law.0 n lt there
          ]
      | inr e ↦ earlier_uncovered k l g f law.0 n lt (rw e at a)
    ]
earlier_uncovered k l (Did n' i act answer ∷ g) f law n lt a = earlier_uncovered k l g f law.0 n lt a
earlier_uncovered k l (Complete n' ∷ g) f law n lt a = earlier_uncovered k l g f law.0 n lt a
earlier_uncovered k l (Failed x ∷ g) f law n lt a = earlier_uncovered k l g f law.0 n lt a
earlier_uncovered k l (WindowDid i act answer ∷ g) f law n lt a = earlier_uncovered k l g f law.0 n lt a
earlier_uncovered k l (WindowEnded ∷ g) f law n lt a = earlier_uncovered k l g f law.0 n lt a

-- callbacks in flight have begun

abbrev Below : ℕ → List Flight → Type 0
Below n fs = AllByRecursion (λ (f : Flight). f.number < n) fs

below_more_ : (n m : ℕ) (fs : List Flight) → n ≤ m → Below n fs → Below m fs
below_more_ n m [] le all = tt
below_more_ n m (f ∷ fs) le all = (omega (arith, all.0, le), below_more_ n m fs le all.1)

below_append : (n : ℕ) (fs : List Flight) (f : Flight) → Below n fs → f.number < n → Below n (fs ++ f ∷ [])
below_append n [] f all lt = (lt, tt)
below_append n (g ∷ fs) f all lt = (all.0, below_append n fs f all.1 lt)

below_answered : (n m : ℕ) (a : Answer) (fs : List Flight) → Below n fs → Below n (answered m a fs)
below_answered n m a [] all = tt
below_answered n m a (f ∷ fs) all =
    elim (either_is (f.number == m)) [
      | inl e ↦ rw e (all.0, all.1)
      | inr e ↦ rw e (all.0, below_answered n m a fs all.1)
    ]

below_without : (n m : ℕ) (fs : List Flight) → Below n fs → Below n (without m fs)
below_without n m [] all = tt
below_without n m (f ∷ fs) all =
    elim (either_is (f.number == m)) [
      | inl e ↦ rw e all.1
      | inr e ↦ rw e (all.0, below_without n m fs all.1)
    ]

below_turn : (n : ℕ) (t : Turn) (fs : List Flight) → Below n fs → Below n (without_turn t fs)
below_turn n (Call m) fs all = below_without n m fs all
below_turn n Window fs all = all

pub flights_below : (k : Given) (g : List Event) → IsLawful k g → Below (deliveries g) (flights k.setup g)
unfolding flights deliveries IsLawful
flights_below k [] law = tt
flights_below k (Deliver n p o m t ∷ g) law = below_append _ (flights k.setup g) (begun k.setup n p o m t) (below_more_ _ _ _ (omega arith) (flights_below k g law.0)) (omega (arith, law.1.number))
flights_below k (Did n i act answer ∷ g) law = below_answered _ n answer _ (flights_below k g law.0)
flights_below k (Complete n ∷ g) law = below_without _ n _ (flights_below k g law.0)
flights_below k (Failed x ∷ g) law = below_turn _ x.turn _ (flights_below k g law.0)
flights_below k (WindowDid i act answer ∷ g) law = flights_below k g law.0
flights_below k (WindowEnded ∷ g) law = flights_below k g law.0

found_below : (n m : ℕ) (fs : List Flight) (f : Flight) → Below m fs → flight_of n fs ≡ Some f → n < m
found_below n m [] f all e = absurd (none e)
  where
    none : None ≡ Some f → ⊥
    none q = search rules
found_below n m (g ∷ fs) f all e =
    elim (cases_eq g.number n) [
      | inl q ↦ omega (arith, q, all.0)
      | inr ne ↦ found_below n m fs f all.1 (rw (ne_eqb g.number n ne) at e)
    ]

-- the turn's number, where it has one, is below
abbrev TurnBelow : ℕ → Turn → Type 0
TurnBelow m (Call n) = n < m
TurnBelow m Window = Unit {0}

abbrev EventBelow : ℕ → Event → Type 0
EventBelow m (Deliver n p o b t) = n < m
EventBelow m (Did n i act answer) = n < m
EventBelow m (Complete n) = n < m
EventBelow m (Failed x) = TurnBelow m x.turn
EventBelow m (WindowDid i act answer) = Unit {0}
EventBelow m WindowEnded = Unit {0}

failed_below : (k : Given) (g : List Event) (x : Failure) (t : Turn) → IsLawful k g → MayFail k g x t → TurnBelow (deliveries g) t
failed_below k g x (Call n) law (inl may) = found_below n _ _ may.flight (flights_below k g law) may.flies
failed_below k g x (Call n) law (inr may) = found_below n _ _ may.flight (flights_below k g law) may.flies
failed_below k g x Window law may = tt

turn_below_more : (n m : ℕ) (t : Turn) → n ≤ m → TurnBelow n t → TurnBelow m t
turn_below_more n m (Call x) le lt = omega (arith, le, lt)
turn_below_more n m Window le lt = tt

event_below : (k : Given) (e : Event) (g : List Event) (m : ℕ) → IsLawful k (e ∷ g) → deliveries (e ∷ g) ≤ m → EventBelow m e
unfolding IsLawful deliveries
event_below k (Deliver n p o b t) g m law le = omega (arith, law.1.number, le)
event_below k (Did n i act answer) g m law le = omega (arith, le, found_below n _ _ law.1.flight (flights_below k g law.0) law.1.flies)
event_below k (Complete n) g m law le = omega (arith, le, found_below n _ _ law.1.flight (flights_below k g law.0) law.1.flies)
event_below k (Failed x) g m law le = turn_below_more _ m x.turn le (failed_below k g x x.turn law.0 law.1)
event_below k (WindowDid i act answer) g m law le = tt
event_below k WindowEnded g m law le = tt

turn_belongs : (m : ℕ) (ns ms : List ℕ) (t : Turn) → ((n : ℕ) → n < m → Among ns n → Among ms n) → TurnBelow m t → is_turn_among ns t ≡ true → is_turn_among ms t ≡ true
turn_belongs m ns ms (Call n) sub lt e = sub n lt e
turn_belongs m ns ms Window sub lt e = e

belongs_too : (m : ℕ) (ns ms : List ℕ) (e : Event) → ((n : ℕ) → n < m → Among ns n → Among ms n) → EventBelow m e → belongs ns e ≡ true → belongs ms e ≡ true
belongs_too m ns ms (Deliver n p o b t) sub lt e = sub n lt e
belongs_too m ns ms (Did n i act answer) sub lt e = sub n lt e
belongs_too m ns ms (Complete n) sub lt e = sub n lt e
belongs_too m ns ms (Failed x) sub lt e = turn_belongs m ns ms x.turn sub lt e
belongs_too m ns ms (WindowDid i act answer) sub lt e = e
belongs_too m ns ms WindowEnded sub lt e = e

-- what is kept of the kept is kept of all
pub kept_again : (k : Given) (m : ℕ) (ns ms : List ℕ) (g : List Event) → IsLawful k g → deliveries g ≤ m → ((n : ℕ) → n < m → Among ns n → Among ms n) → filter (belongs ns) (filter (belongs ms) g) ≡ filter (belongs ns) g
unfolding IsLawful
kept_again k m ns ms [] law le sub = refl
kept_again k m ns ms (e ∷ g) law le sub =
    let later = kept_again k m ns ms g law.0 (omega (arith, le, deliveries_more e g)) sub in
    elim (either_is (belongs ms e)) [
      | inl yes_ ↦ rw yes_ (λ i. if belongs ns e then e ∷ later i else later i)
      | inr no_ ↦
          elim (either_is (belongs ns e)) [
            | inl y ↦ absurd (clash (sym (belongs_too m ns ms e sub (event_below k e g m law le) y) ∙ no_))
            | inr n_ ↦ rw (no_, n_) later
          ]
    ]

-- low never falls

past_more : (c d : ℕ → Bool) (at n m : ℕ) → ((o : ℕ) → c o ≡ true → d o ≡ true) → n ≤ m → past c at n ≤ past d at m
unfolding past
past_more c d at zero m sub le = past_after d at m
  where
    past_after : (x : ℕ → Bool) (y z : ℕ) → y ≤ past x y z
    past_after x y zero = omega arith
    past_after x y (suc z) =
        elim (either_is (x y)) [
          | inl e ↦ rw e (omega (arith, past_after x (y + 1) z))
          | inr e ↦ rw e (omega arith)
        ]
past_more c d at (suc n) zero sub le = absurd (omega (arith, le))
past_more c d at (suc n) (suc m) sub le =
    elim (either_is (c at)) [
      | inl e ↦ rw (e, sub at e) (past_more c d (at + 1) n m sub (omega (arith, le)))
      | inr e ↦ rw e (stays (d at))
    ]
  where
    past_after : (x : ℕ → Bool) (y z : ℕ) → y ≤ past x y z
    past_after x y zero = omega arith
    past_after x y (suc z) =
        elim (either_is (x y)) [
          | inl e ↦ rw e (omega (arith, past_after x (y + 1) z))
          | inr e ↦ rw e (omega arith)
        ]

    stays : (b : Bool) → at ≤ (if b then past d (at + 1) m else at)
    stays true = omega (arith, past_after d (at + 1) m)
    stays false = omega arith

covered_more : (s : Setup) (p o : ℕ) (e : Event) (g : List Event) → is_covered s p o g ≡ true → is_covered s p o (e ∷ g) ≡ true
unfolding is_covered
covered_more s p o (Deliver n q x m t) g c = c
covered_more s p o (Did n i act answer) g c = c
covered_more s p o (Complete n) g c = or_right (is_at p o (flight_of n (flights s g))) _ c
covered_more s p o (Failed x) g c = c
covered_more s p o (WindowDid i act answer) g c = c
covered_more s p o WindowEnded g c = c

deliveries_of_more : (p : ℕ) (e : Event) (g : List Event) → deliveries_of p g ≤ deliveries_of p (e ∷ g)
unfolding deliveries_of
deliveries_of_more p (Deliver n q x m t) g =
    elim (either_is (q == p)) [
      | inl e ↦ rw e (omega arith)
      | inr e ↦ rw e (omega arith)
    ]
deliveries_of_more p (Did n i act answer) g = omega arith
deliveries_of_more p (Complete n) g = omega arith
deliveries_of_more p (Failed x) g = omega arith
deliveries_of_more p (WindowDid i act answer) g = omega arith
deliveries_of_more p WindowEnded g = omega arith

pub low_rises : (s : Setup) (start p : ℕ) (g f : List Event) → low s start f p ≤ low s start (g ++ f) p
low_rises s start p [] f = omega arith
low_rises s start p (e ∷ g) f = omega (arith, low_rises s start p g f, past_more (λ o. is_covered s p o (g ++ f)) (λ o. is_covered s p o (e ∷ g ++ f)) start _ _ (λ o. covered_more s p o e (g ++ f)) (deliveries_of_more p e (g ++ f)))

-- what a mark keeps of a journal is what it keeps of the list
pub trims : (k : Given) (l : ℕ → ℕ) (g f : List Event) → IsLawful k (g ++ f) → ((p : ℕ) → p < length k.starts → l p ≡ lows_of k (g ++ f) p)
    → filter (belongs (uncovered_by l (g ++ kept_of k f))) (g ++ kept_of k f) ≡ kept_of k (g ++ f)
trims k l g f law same =
    let law_f = lawful_part k g f law in
    let lower : (p : ℕ) → p < length k.starts → lows_of k f p ≤ l p = λ p lt. omega (arith, same p lt, low_rises k.setup (start_at k p) p g f) in
    let sub : (n : ℕ) → Among (uncovered_by l f) n → Among (uncovered k f) n = fewer k l (lows_of k f) f law_f lower in
    let part : uncovered_by l (g ++ kept_of k f) ≡ uncovered_by l (g ++ f) =
    uncovered-append l g (kept_of k f) ∙ ap (λ x. uncovered_by l g ++ x) (same_uncovered l (uncovered k f) f sub) ∙ sym (uncovered-append l g f) in
    let whole : uncovered_by l (g ++ kept_of k f) ≡ uncovered k (g ++ f) = part ∙ agree k l (lows_of k (g ++ f)) (g ++ f) law same in
    let rest : (n : ℕ) → n < deliveries f → Among (uncovered k (g ++ f)) n → Among (uncovered k f) n =
    λ n lt a. fewer k (lows_of k (g ++ f)) (lows_of k f) f law_f (λ p _. low_rises k.setup (start_at k p) p g f) n (earlier_uncovered k (lows_of k (g ++ f)) g f law n lt a) in
    ap (λ ns. filter (belongs ns) (g ++ kept_of k f)) whole
    ∙ filter-append (belongs (uncovered k (g ++ f))) g (kept_of k f)
    ∙ ap (λ x. filter (belongs (uncovered k (g ++ f))) g ++ x) (kept_again k (deliveries f) (uncovered k (g ++ f)) (uncovered k f) f law_f (omega arith) rest)
    ∙ sym (filter-append (belongs (uncovered k (g ++ f))) g f)
