-- Callbacks in a slab, one more, one changed, one less.
use Rattle.std.proofs.Common.{Result, Ok, Err, OnOk, OnErr, ℕ, zero, suc, ◌≡◌, ◌≢◌, ◌<◌, inl, inr, true, false, if◌then◌else◌, ◌==◌, List, [], ◌∷◌, ◌++◌, length, get_or, Option, Some, None, is_some, IsSome, unwrap_or, refl, sym, ◌∙◌, ap, arith, rules, eq-eqb, subst}
use Rattle.std.specs.List.{AllByRecursion, remove}
use Rattle.std.specs.Option.{option_map}
use Rattle.std.proofs.lemmas.Bool.{cases_eq, ne_eqb}
use Rattle.slab.specs.Slab.{Slab, get, with_value, Updates}
use Rattle.slab.proofs.SlabLemmas.{Updates-with_value}
use Rattle.samza_model.specs.declared.acts.Answer.{Answer}
use Rattle.samza_model.specs.declared.flights.Flight.{Flight}
use Rattle.samza_model.specs.Events.{flight_of, with_answer, answered, without}
use Rattle.callback_manager.specs.declared.callbacks.Entry.{Entry}
use Rattle.callback_manager.specs.declared.callbacks.Ticket.{Ticket}
use Rattle.callback_manager.specs.Callbacks.{unanswered, with_less_answers, entry_of}
use Rattle.callback_manager.specs.Tickets.{no_entry, entry_at, flight_from, flights_in, AreApart, IsKept, place_in, with_changed}

abbrev pub no_ticket : Ticket
no_ticket = record { number = 0; key = 0 }

pub flights_length : (s : Slab Entry) (ts : List Ticket) → length (flights_in s ts) ≡ length ts
flights_length s [] = refl
flights_length s (t ∷ ts) = ap suc (flights_length s ts)

pub flights_in-append : (s : Slab Entry) (ts us : List Ticket) → flights_in s (ts ++ us) ≡ flights_in s ts ++ flights_in s us
flights_in-append s [] us = refl
flights_in-append s (t ∷ ts) us = ap (λ fs. flight_from t.number (entry_at s t.key) ∷ fs) (flights_in-append s ts us)

abbrev pub Elsewhere : ℕ → List Ticket → Type 0
Elsewhere key ts = AllByRecursion (λ (t : Ticket). t.key ≢ key) ts

pub elsewhere_same : (s s' : Slab Entry) (key : ℕ) (slot : Option Entry) (ts : List Ticket) → Updates s s' key slot → Elsewhere key ts → flights_in s' ts ≡ flights_in s ts
elsewhere_same s s' key slot [] u e = refl
elsewhere_same s s' key slot (t ∷ ts) u e =
    λ i. flight_from t.number (unwrap_or (u.others t.key e.0 i) no_entry) ∷ elsewhere_same s s' key slot ts u e.1 i

pub vacant_elsewhere : (s : Slab Entry) (key : ℕ) (ts : List Ticket) → get s key ≡ None → AllByRecursion (λ (t : Ticket). is_some (get s t.key) ≡ true) ts → Elsewhere key ts
vacant_elsewhere s key [] none there = tt
vacant_elsewhere s key (t ∷ ts) none there = (λ e. absurd (differ (sym there.0 ∙ ap (λ k. is_some (get s k)) e ∙ ap is_some none)), vacant_elsewhere s key ts none there.1)
  where
    differ : true ≡ false → ⊥
    differ e = search rules

pub still_there : (s s' : Slab Entry) (key : ℕ) (slot : Option Entry) (ts : List Ticket) → Updates s s' key slot → Elsewhere key ts → AllByRecursion (λ (t : Ticket). is_some (get s t.key) ≡ true) ts → AllByRecursion (λ (t : Ticket). is_some (get s' t.key) ≡ true) ts
still_there s s' key slot [] u e there = tt
still_there s s' key slot (t ∷ ts) u e there = (ap is_some (u.others t.key e.0) ∙ there.0, still_there s s' key slot ts u e.1 there.1)

one_more_there : (P : Ticket → Type 0) (ts : List Ticket) (t : Ticket) → AllByRecursion P ts → P t → AllByRecursion P (ts ++ t ∷ [])
one_more_there P [] t all p = (p, tt)
one_more_there P (u ∷ ts) t all p = (all.0, one_more_there P ts t all.1 p)

apart_more : (ts : List Ticket) (t : Ticket) → AreApart ts → Elsewhere t.key ts → AreApart (ts ++ t ∷ [])
apart_more [] t apart e = (tt, tt)
apart_more (u ∷ ts) t apart e = (one_more_there (λ (v : Ticket). v.key ≢ u.key) ts t apart.0 (λ q. e.0 (sym q)), apart_more ts t apart.1 e.1)

pub kept_more : (s s' : Slab Entry) (t : Ticket) (e : Entry) (ts : List Ticket) → get s t.key ≡ None → Updates s s' t.key (Some e) → IsKept s ts → IsKept s' (ts ++ t ∷ [])
kept_more s s' t e ts none u kept =
    let else_ = vacant_elsewhere s t.key ts none kept.there in
    record {
      there = one_more_there (λ (v : Ticket). is_some (get s' v.key) ≡ true) ts t (still_there s s' t.key (Some e) ts u else_ kept.there) (ap is_some u.changed);
      apart = apart_more ts t kept.apart else_;
    }

pub flights_more : (s s' : Slab Entry) (t : Ticket) (e : Entry) (ts : List Ticket) → get s t.key ≡ None → Updates s s' t.key (Some e) → IsKept s ts → flights_in s' (ts ++ t ∷ []) ≡ flights_in s ts ++ flight_from t.number e ∷ []
flights_more s s' t e ts none u kept =
    let else_ = vacant_elsewhere s t.key ts none kept.there in
    flights_in-append s' ts (t ∷ [])
    ∙ (λ i. elsewhere_same s s' t.key (Some e) ts u else_ i ++ flight_from t.number (unwrap_or (u.changed i) no_entry) ∷ [])

-- by the number of a ticket

pub found : (s : Slab Entry) (n : ℕ) (ts : List Ticket) → flight_of n (flights_in s ts) ≡ option_map (λ i. flight_from n (entry_at s (get_or ts i no_ticket).key)) (place_in n ts)
found s n [] = refl
found s n (t ∷ ts) =
    elim (cases_eq t.number n) [
      | inl e ↦ rw (eq-eqb t.number n e) (λ i. Some (flight_from (e i) (entry_at s t.key)))
      | inr ne ↦ rw (ne_eqb t.number n ne) (found s n ts ∙ shifted (place_in n ts))
    ]
  where
    shifted : (p : Option ℕ) → option_map (λ i. flight_from n (entry_at s (get_or ts i no_ticket).key)) p ≡ option_map (λ i. flight_from n (entry_at s (get_or (t ∷ ts) i no_ticket).key)) (option_map suc p)
    shifted None = refl
    shifted (Some i) = refl

pub number_of : ℕ → List Ticket → ℕ
number_of i ts = (get_or ts i no_ticket).number

-- the first ticket with the number
pub place_at : (n : ℕ) (ts : List Ticket) (i : ℕ) → i < length ts → ((k : ℕ) → k < i → (get_or ts k no_ticket).number ≢ n) → (get_or ts i no_ticket).number ≡ n → place_in n ts ≡ Some i
place_at n [] i lt differ e = absurd (omega (arith, lt))
place_at n (t ∷ ts) zero lt differ e = rw (eq-eqb t.number n e) refl
place_at n (t ∷ ts) (suc i) lt differ e = rw (ne_eqb t.number n (differ 0 (omega arith)), place_at n ts i (omega (arith, lt)) (λ k l. differ (suc k) (omega (arith, l))) e) refl

pub place_none : (n : ℕ) (ts : List Ticket) → ((k : ℕ) → k < length ts → (get_or ts k no_ticket).number ≢ n) → place_in n ts ≡ None
place_none n [] differ = refl
place_none n (t ∷ ts) differ = rw (ne_eqb t.number n (differ 0 (omega arith)), place_none n ts (λ k l. differ (suc k) (omega (arith, l)))) refl

pub kept_capacity : (s s' : Slab Entry) (c : ℕ) (ts : List Ticket) → s' ≡ record { slots = s.slots; vacant_key = s.vacant_key; capacity = c } → IsKept s ts → IsKept s' ts
kept_capacity s s' c ts e kept = subst (λ x. IsKept x ts) (sym e) (record { there = kept.there; apart = kept.apart })

-- what is where the n-th ticket stands
pub record IsPlace (s : Slab Entry) (n : ℕ) (ts : List Ticket) (i : ℕ) : Type 0 where
  pub within : i < length ts
  pub number : (get_or ts i no_ticket).number ≡ n
  pub flies : flight_of n (flights_in s ts) ≡ Some (flight_from n (entry_at s (get_or ts i no_ticket).key))
  pub there : is_some (get s (get_or ts i no_ticket).key) ≡ true

none_is : {X : Type 0} (f : ℕ → X) (p : Option ℕ) (x : X) → option_map f p ≡ None → p ≡ None
none_is f None x e = refl
none_is f (Some i) x e = absurd (search rules)

suc_of : (p : Option ℕ) (i : ℕ) → option_map suc p ≡ Some i → (j : ℕ) × (p ≡ Some j) × (i ≡ suc j)
suc_of None i e = absurd (search rules)
suc_of (Some j) i e = (j, refl, grind (arith, e))

pub is_place : (s : Slab Entry) (n : ℕ) (ts : List Ticket) (i : ℕ) → IsKept s ts → place_in n ts ≡ Some i → IsPlace s n ts i
is_place s n [] i kept e = absurd (search rules)
is_place s n (t ∷ ts) i kept e =
    elim (cases_eq t.number n) [
      | inl q ↦
          let here : Some 0 ≡ Some i = rw (eq-eqb t.number n q) at e in
          let zero_is : 0 ≡ i = grind (arith, here) in
          subst (λ k. IsPlace s n (t ∷ ts) k) zero_is (record {
            within = omega arith;
            number = q;
            flies = rw (eq-eqb t.number n q) (λ k. Some (flight_from (q k) (entry_at s t.key)));
            there = kept.there.0;
          })
      | inr ne ↦
          let later = suc_of (place_in n ts) i (rw (ne_eqb t.number n ne) at e) in
          let rest = is_place s n ts later.0 (record { there = kept.there.1; apart = kept.apart.1 }) later.1 in
          subst (λ k. IsPlace s n (t ∷ ts) k) (sym later.2) (record {
            within = omega (arith, rest.within);
            number = rest.number;
            flies = rw (ne_eqb t.number n ne) rest.flies;
            there = rest.there;
          })
    ]

some_is : (p : Option Entry) → is_some p ≡ true → p ≡ Some (unwrap_or p no_entry)
some_is None e = absurd (search rules)
some_is (Some x) e = refl

pub entry_is : (s : Slab Entry) (n : ℕ) (ts : List Ticket) (i : ℕ) → IsKept s ts → place_in n ts ≡ Some i → get s (get_or ts i no_ticket).key ≡ option_map entry_of (flight_of n (flights_in s ts))
entry_is s n ts i kept e =
    let at = is_place s n ts i kept e in
    some_is (get s (get_or ts i no_ticket).key) at.there ∙ ap (option_map entry_of) (sym at.flies)

pub none_flies : (s : Slab Entry) (n : ℕ) (ts : List Ticket) → place_in n ts ≡ None → flight_of n (flights_in s ts) ≡ None
none_flies s n ts e = found s n ts ∙ ap (option_map (λ i. flight_from n (entry_at s (get_or ts i no_ticket).key))) e

-- the flight with the number is changed
abbrev pub at_number : ℕ → (Flight → Flight) → List Flight → List Flight
at_number n g [] = []
at_number n g (f ∷ fs) = if f.number == n then g f ∷ fs else f ∷ at_number n g fs

pub changes : (s s' : Slab Entry) (n : ℕ) (ts : List Ticket) (i : ℕ) (e' : Entry) (g : Flight → Flight) → IsKept s ts → place_in n ts ≡ Some i
    → flight_from n e' ≡ g (flight_from n (entry_at s (get_or ts i no_ticket).key)) → Updates s s' (get_or ts i no_ticket).key (Some e') → flights_in s' ts ≡ at_number n g (flights_in s ts)
changes s s' n [] i e' g kept p is u = refl
changes s s' n (t ∷ ts) i e' g kept p is u =
    elim (cases_eq t.number n) [
      | inl q ↦
          let here : Some 0 ≡ Some i = rw (eq-eqb t.number n q) at p in
          let zero_is : i ≡ 0 = grind (arith, here) in
          let key_is : (get_or (t ∷ ts) i no_ticket).key ≡ t.key = ap (λ k. (get_or (t ∷ ts) k no_ticket).key) zero_is in
          let u' : Updates s s' t.key (Some e') = subst (λ k. Updates s s' k (Some e')) key_is u in
          rw (eq-eqb t.number n q) (λ j. changed_head q key_is u' j ∷ elsewhere_same s s' t.key (Some e') ts u' kept.apart.0 j)
      | inr ne ↦
          let later = suc_of (place_in n ts) i (rw (ne_eqb t.number n ne) at p) in
          let key_is : (get_or (t ∷ ts) i no_ticket).key ≡ (get_or ts later.0 no_ticket).key = ap (λ k. (get_or (t ∷ ts) k no_ticket).key) later.2 in
          let u' = subst (λ k. Updates s s' k (Some e')) key_is u in
          let is' = is ∙ ap (λ k. g (flight_from n (entry_at s k))) key_is in
          let away : t.key ≢ (get_or ts later.0 no_ticket).key = λ same. all_at ts later.0 (is_place s n ts later.0 (record { there = kept.there.1; apart = kept.apart.1 }) later.1).within kept.apart.0 (sym same) in
          rw (ne_eqb t.number n ne) (λ j. flight_from t.number (unwrap_or (u'.others t.key away j) no_entry) ∷ changes s s' n ts later.0 e' g (record { there = kept.there.1; apart = kept.apart.1 }) later.1 is' u' j)
    ]
  where
    all_at : (us : List Ticket) (k : ℕ) → k < length us → AllByRecursion (λ (v : Ticket). v.key ≢ t.key) us → (get_or us k no_ticket).key ≢ t.key
    all_at [] k lt all = absurd (omega (arith, lt))
    all_at (v ∷ us) zero lt all = all.0
    all_at (v ∷ us) (suc k) lt all = all_at us k (omega (arith, lt)) all.1

    changed_head : (q : t.number ≡ n) (key_is : (get_or (t ∷ ts) i no_ticket).key ≡ t.key) → Updates s s' t.key (Some e') → flight_from t.number (entry_at s' t.key) ≡ g (flight_from t.number (entry_at s t.key))
    changed_head q key_is u' =
        ap (λ (o : Option Entry). flight_from t.number (unwrap_or o no_entry)) u'.changed
        ∙ subst (λ m. flight_from m e' ≡ g (flight_from m (entry_at s t.key))) (sym q) (is ∙ ap (λ k. g (flight_from n (entry_at s k))) key_is)

pub answered_is : (n : ℕ) (a : Answer) (fs : List Flight) → at_number n (with_answer a) fs ≡ answered n a fs
answered_is n a [] = refl
answered_is n a (f ∷ fs) = λ i. if f.number == n then with_answer a f ∷ fs else f ∷ answered_is n a fs i

pub unanswered_is : (n : ℕ) (fs : List Flight) → at_number n with_less_answers fs ≡ unanswered n fs
unanswered_is n [] = refl
unanswered_is n (f ∷ fs) = λ i. if f.number == n then with_less_answers f ∷ fs else f ∷ unanswered_is n fs i

pub kept_changed : (s s' : Slab Entry) (key : ℕ) (e' : Entry) (ts : List Ticket) → IsKept s ts → Updates s s' key (Some e') → IsKept s' ts
kept_changed s s' key e' ts kept u = record { there = still ts kept.there; apart = kept.apart }
  where
    still : (us : List Ticket) → AllByRecursion (λ (t : Ticket). is_some (get s t.key) ≡ true) us → AllByRecursion (λ (t : Ticket). is_some (get s' t.key) ≡ true) us
    still [] there = tt
    still (t ∷ us) there =
        elim (cases_eq t.key key) [
          | inl q ↦ (ap (λ k. is_some (get s' k)) q ∙ ap is_some u.changed, still us there.1)
          | inr ne ↦ (ap is_some (u.others t.key ne) ∙ there.0, still us there.1)
        ]

-- one is taken out
pub record IsRemoved (s' : Slab Entry) (n : ℕ) (ts : List Ticket) (i : ℕ) (fs : List Flight) : Type 0 where
  pub flights : flights_in s' (remove ts i) ≡ without n fs
  pub kept : IsKept s' (remove ts i)

all_removed : (P : Ticket → Type 0) (ts : List Ticket) (i : ℕ) → AllByRecursion P ts → AllByRecursion P (remove ts i)
all_removed P [] zero all = tt
all_removed P [] (suc i) all = tt
all_removed P (t ∷ ts) zero all = all.1
all_removed P (t ∷ ts) (suc i) all = (all.0, all_removed P ts i all.1)

pub removed : (s s' : Slab Entry) (n : ℕ) (ts : List Ticket) (i : ℕ) → IsKept s ts → place_in n ts ≡ Some i → Updates s s' (get_or ts i no_ticket).key None → IsRemoved s' n ts i (flights_in s ts)
removed s s' n [] i kept p u = absurd (search rules)
removed s s' n (t ∷ ts) i kept p u =
    elim (cases_eq t.number n) [
      | inl q ↦
          let here : Some 0 ≡ Some i = rw (eq-eqb t.number n q) at p in
          let zero_is : 0 ≡ i = grind (arith, here) in
          let u' : Updates s s' t.key None = subst (λ k. Updates s s' (get_or (t ∷ ts) k no_ticket).key None) (sym zero_is) u in
          subst (λ k. IsRemoved s' n (t ∷ ts) k (flights_in s (t ∷ ts))) zero_is (record {
            flights = rw (eq-eqb t.number n q) (elsewhere_same s s' t.key None ts u' kept.apart.0);
            kept = record { there = still_there s s' t.key None ts u' kept.apart.0 kept.there.1; apart = kept.apart.1 };
          })
      | inr ne ↦
          let later = suc_of (place_in n ts) i (rw (ne_eqb t.number n ne) at p) in
          let kept' : IsKept s ts = record { there = kept.there.1; apart = kept.apart.1 } in
          let u' : Updates s s' (get_or ts later.0 no_ticket).key None = subst (λ k. Updates s s' (get_or (t ∷ ts) k no_ticket).key None) later.2 u in
          let rest = removed s s' n ts later.0 kept' later.1 u' in
          let away : t.key ≢ (get_or ts later.0 no_ticket).key = λ same. all_at ts later.0 (is_place s n ts later.0 kept' later.1).within kept.apart.0 (sym same) in
          subst (λ k. IsRemoved s' n (t ∷ ts) k (flights_in s (t ∷ ts))) (sym later.2) (record {
            flights = rw (ne_eqb t.number n ne) (λ j. flight_from t.number (unwrap_or (u'.others t.key away j) no_entry) ∷ rest.flights j);
            kept = record {
              there = (ap is_some (u'.others t.key away) ∙ kept.there.0, rest.kept.there);
              apart = (all_removed (λ (v : Ticket). v.key ≢ t.key) ts later.0 kept.apart.0, rest.kept.apart);
            };
          })
    ]
  where
    all_at : (us : List Ticket) (k : ℕ) → k < length us → AllByRecursion (λ (v : Ticket). v.key ≢ t.key) us → (get_or us k no_ticket).key ≢ t.key
    all_at [] k lt all = absurd (omega (arith, lt))
    all_at (v ∷ us) zero lt all = all.0
    all_at (v ∷ us) (suc k) lt all = all_at us k (omega (arith, lt)) all.1

-- for answers: what a slab and its tickets are after a step

pub begun_kept : (s s' : Slab Entry) (t : Ticket) (e : Entry) (ts us vs : List Ticket) → get s t.key ≡ None → Updates s s' t.key (Some e) → IsKept s ts → us ≡ ts → vs ≡ us ++ t ∷ [] → IsKept s' vs
begun_kept s s' t e ts us vs none u kept same more_ = subst (IsKept s') (sym (more_ ∙ ap (λ l. l ++ t ∷ []) same)) (kept_more s s' t e ts none u kept)

pub begun_flights : (s s' : Slab Entry) (t : Ticket) (e : Entry) (ts us vs : List Ticket) → get s t.key ≡ None → Updates s s' t.key (Some e) → IsKept s ts → us ≡ ts → vs ≡ us ++ t ∷ [] → flights_in s' vs ≡ flights_in s ts ++ flight_from t.number e ∷ []
begun_flights s s' t e ts us vs none u kept same more_ = ap (flights_in s') (more_ ∙ ap (λ l. l ++ t ∷ []) same) ∙ flights_more s s' t e ts none u kept

module _ (s s' : Slab Entry) (n : ℕ) (ts : List Ticket) (i key : ℕ) (f : Entry → Entry) (kept : IsKept s ts) (p : place_in n ts ≡ Some i) (at : key ≡ (get_or ts i no_ticket).key) (changed : s' ≡ with_changed s key f (get s key)) where
  updates : Updates s s' (get_or ts i no_ticket).key (Some (f (entry_at s (get_or ts i no_ticket).key)))
  updates =
      let k = (get_or ts i no_ticket).key in
      let here = is_place s n ts i kept p in
      let is : s' ≡ with_value s k (f (entry_at s k)) = changed ∙ ap (λ m. with_changed s m f (get s m)) at ∙ ap (with_changed s k f) (some_is (get s k) here.there) in
      subst (λ x. Updates s x k (Some (f (entry_at s k)))) (sym is) (Updates-with_value s k (f (entry_at s k)) (contains (get s k) here.there))
    where
      contains : (o : Option Entry) → is_some o ≡ true → IsSome o
      contains None e = absurd (search rules)
      contains (Some x) e = search rules

  pub changed_kept : IsKept s' ts
  changed_kept = kept_changed s s' (get_or ts i no_ticket).key (f (entry_at s (get_or ts i no_ticket).key)) ts kept updates

  pub changed_flights : (g : Flight → Flight) → ((e : Entry) → flight_from n (f e) ≡ g (flight_from n e)) → flights_in s' ts ≡ at_number n g (flights_in s ts)
  changed_flights g alike = changes s s' n ts i (f (entry_at s (get_or ts i no_ticket).key)) g kept p (alike (entry_at s (get_or ts i no_ticket).key)) updates

pub answered_none : (n : ℕ) (a : Answer) (fs : List Flight) → flight_of n fs ≡ None → fs ≡ answered n a fs
answered_none n a [] e = refl
answered_none n a (f ∷ fs) e =
    elim (cases_eq f.number n) [
      | inl q ↦ absurd (clash (rw (eq-eqb f.number n q) at e))
      | inr ne ↦ rw (ne_eqb f.number n ne) (λ i. f ∷ answered_none n a fs (rw (ne_eqb f.number n ne) at e) i)
    ]
  where
    clash : Some f ≡ None → ⊥
    clash e = search rules

pub unanswered_none : (n : ℕ) (fs : List Flight) → flight_of n fs ≡ None → fs ≡ unanswered n fs
unanswered_none n [] e = refl
unanswered_none n (f ∷ fs) e =
    elim (cases_eq f.number n) [
      | inl q ↦ absurd (clash (rw (eq-eqb f.number n q) at e))
      | inr ne ↦ rw (ne_eqb f.number n ne) (λ i. f ∷ unanswered_none n fs (rw (ne_eqb f.number n ne) at e) i)
    ]
  where
    clash : Some f ≡ None → ⊥
    clash e = search rules

pub without_none : (n : ℕ) (fs : List Flight) → flight_of n fs ≡ None → fs ≡ without n fs
without_none n [] e = refl
without_none n (f ∷ fs) e =
    elim (cases_eq f.number n) [
      | inl q ↦ absurd (clash (rw (eq-eqb f.number n q) at e))
      | inr ne ↦ rw (ne_eqb f.number n ne) (λ i. f ∷ without_none n fs (rw (ne_eqb f.number n ne) at e) i)
    ]
  where
    clash : Some f ≡ None → ⊥
    clash e = search rules

pub on_ok : {T E P Q : Type 0} (r : Result T E) → (P → Q) → OnOk r P → OnOk r Q
on_ok (Ok x) f p = f p
on_ok (Err e) f p = tt

pub either : {T E : Type 0} (r : Result T E) (P Q R : Type 0) → (P → R) → (Q → R) → OnOk r P → OnErr r Q → R
either (Ok x) P Q R f g p q = f p
either (Err e) P Q R f g p q = g q
