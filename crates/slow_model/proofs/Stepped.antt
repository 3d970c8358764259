-- What one event more makes of what the earlier ones left, and what none leave.
use Rattle.std.proofs.Common.{ℕ, suc, ◌≡◌, ◌≢◌, ◌+◌, ◌-◌, ◌||◌, Bool, false, if◌then◌else◌, List, [], ◌∷◌, length, Option, Some, None, refl, sym, ◌∙◌, ap, arith}
use Rattle.std.proofs.lemmas.List.{nil_from_length}
use Rattle.samza_model.specs.declared.turns.Failure.{Failure}
use Rattle.samza_model.specs.declared.setups.Setup.{Setup}
use Rattle.samza_model.specs.declared.events.Event.{Event}
use Rattle.samza_model.specs.declared.events.Event.TheVariants.{Deliver, Did, Complete, Failed, WindowDid, WindowEnded}
use Rattle.samza_model.specs.Content.{State}
use Rattle.samza_model.specs.Events.{flights, deliveries, deliveries_of, is_covered, past, earlier, first_failure, window_open, window_answers, state_after}
use Rattle.slow_model.specs.Steps.{flown, acted, failure_at, opened, window_answered, is_delivery, is_delivery_of, covers}

-- a word of events at none
pub at_none : {Y : Type 0} (word : List Event → Y) (h : List Event) → length h ≡ 0 → word [] ≡ word h
at_none word h none = ap word (sym (nil_from_length h none))

module _ (s : Setup) where
  pub no_flights : flights s [] ≡ []
  unfolding flights
  no_flights = refl

  flown_more : (e : Event) (g : List Event) → flights s (e ∷ g) ≡ flown s e (flights s g)
  unfolding flights
  flown_more (Deliver n p o m t) g = refl
  flown_more (Did n i act answer) g = refl
  flown_more (Complete n) g = refl
  flown_more (Failed f) g = refl
  flown_more (WindowDid i act answer) g = refl
  flown_more WindowEnded g = refl

  pub flown_on : (h g : List Event) (e : Event) → h ≡ e ∷ g → flown s e (flights s g) ≡ flights s h
  flown_on h g e is = sym (flown_more e g) ∙ ap (flights s) (sym is)

module _ (s : State) where
  pub no_acts : state_after s [] ≡ s
  unfolding state_after
  no_acts = refl

  acted_more : (e : Event) (g : List Event) → state_after s (e ∷ g) ≡ acted e (state_after s g)
  unfolding state_after
  acted_more (Deliver n p o m t) g = refl
  acted_more (Did n i act answer) g = refl
  acted_more (Complete n) g = refl
  acted_more (Failed f) g = refl
  acted_more (WindowDid i act answer) g = refl
  acted_more WindowEnded g = refl

  pub acted_on : (h g : List Event) (e : Event) → h ≡ e ∷ g → acted e (state_after s g) ≡ state_after s h
  acted_on h g e is = sym (acted_more e g) ∙ ap (state_after s) (sym is)

pub no_failure : first_failure [] ≡ None
unfolding first_failure
no_failure = refl

or_else : Option Failure → Option Failure → Option Failure
or_else (Some f) b = Some f
or_else None b = b

or_none : (a : Option Failure) → a ≡ or_else a None
unfolding or_else
or_none (Some f) = refl
or_none None = refl

or_some : (a : Option Failure) (f : Failure) → earlier a f ≡ or_else a (Some f)
unfolding or_else
or_some (Some e) f = refl
or_some None f = refl

failed_more : (e : Event) (g : List Event) → first_failure (e ∷ g) ≡ or_else (first_failure g) (failure_at e)
unfolding first_failure
failed_more (Deliver n p o m t) g = or_none (first_failure g)
failed_more (Did n i act answer) g = or_none (first_failure g)
failed_more (Complete n) g = or_none (first_failure g)
failed_more (Failed f) g = or_some (first_failure g) f
failed_more (WindowDid i act answer) g = or_none (first_failure g)
failed_more WindowEnded g = or_none (first_failure g)

pub failed_before : (h g : List Event) (e : Event) (f : Failure) → h ≡ e ∷ g → first_failure g ≡ Some f → Some f ≡ first_failure h
unfolding or_else
failed_before h g e f is at = sym (ap first_failure is ∙ failed_more e g ∙ ap (λ (a : Option Failure). or_else a (failure_at e)) at)

pub failed_now : (h g : List Event) (e : Event) → h ≡ e ∷ g → first_failure g ≡ None → failure_at e ≡ first_failure h
unfolding or_else
failed_now h g e is at = sym (ap first_failure is ∙ failed_more e g ∙ ap (λ (a : Option Failure). or_else a (failure_at e)) at)

pub not_open : window_open [] ≡ false
unfolding window_open
not_open = refl

opened_more : (e : Event) (g : List Event) → window_open (e ∷ g) ≡ opened e (window_open g)
unfolding window_open
opened_more (Deliver n p o m t) g = refl
opened_more (Did n i act answer) g = refl
opened_more (Complete n) g = refl
opened_more (Failed f) g = refl
opened_more (WindowDid i act answer) g = refl
opened_more WindowEnded g = refl

pub opened_on : (h g : List Event) (e : Event) → h ≡ e ∷ g → opened e (window_open g) ≡ window_open h
opened_on h g e is = sym (opened_more e g) ∙ ap window_open (sym is)

pub not_answered : window_answers [] ≡ []
unfolding window_answers
not_answered = refl

answered_more : (e : Event) (g : List Event) → window_answers (e ∷ g) ≡ window_answered e (window_answers g)
unfolding window_answers
answered_more (Deliver n p o m t) g = refl
answered_more (Did n i act answer) g = refl
answered_more (Complete n) g = refl
answered_more (Failed f) g = refl
answered_more (WindowDid i act answer) g = refl
answered_more WindowEnded g = refl

pub answered_on : (h g : List Event) (e : Event) → h ≡ e ∷ g → window_answered e (window_answers g) ≡ window_answers h
answered_on h g e is = sym (answered_more e g) ∙ ap window_answers (sym is)

pub not_delivered : deliveries [] ≡ 0
unfolding deliveries
not_delivered = refl

delivered_more : (e : Event) (g : List Event) → deliveries (e ∷ g) ≡ (if is_delivery e then deliveries g + 1 else deliveries g)
unfolding deliveries
delivered_more (Deliver n p o m t) g = refl
delivered_more (Did n i act answer) g = refl
delivered_more (Complete n) g = refl
delivered_more (Failed f) g = refl
delivered_more (WindowDid i act answer) g = refl
delivered_more WindowEnded g = refl

pub delivered_on : (h g : List Event) (e : Event) (b : Bool) → h ≡ e ∷ g → b ≡ is_delivery e → (if b then deliveries g + 1 else deliveries g) ≡ deliveries h
delivered_on h g e b is test = ap (λ (x : Bool). if x then deliveries g + 1 else deliveries g) test ∙ sym (delivered_more e g) ∙ ap deliveries (sym is)

module _ (q : ℕ) where
  pub not_delivered_of : deliveries_of q [] ≡ 0
  unfolding deliveries_of
  not_delivered_of = refl

  delivered_of_more : (e : Event) (g : List Event) → deliveries_of q (e ∷ g) ≡ (if is_delivery_of q e then deliveries_of q g + 1 else deliveries_of q g)
  unfolding deliveries_of
  delivered_of_more (Deliver n p o m t) g = refl
  delivered_of_more (Did n i act answer) g = refl
  delivered_of_more (Complete n) g = refl
  delivered_of_more (Failed f) g = refl
  delivered_of_more (WindowDid i act answer) g = refl
  delivered_of_more WindowEnded g = refl

  pub delivered_of_on : (h g : List Event) (e : Event) (b : Bool) → h ≡ e ∷ g → b ≡ is_delivery_of q e → (if b then deliveries_of q g + 1 else deliveries_of q g) ≡ deliveries_of q h
  delivered_of_on h g e b is test =
      ap (λ (x : Bool). if x then deliveries_of q g + 1 else deliveries_of q g) test ∙ sym (delivered_of_more e g) ∙ ap (deliveries_of q) (sym is)

module _ (s : Setup) (p o : ℕ) where
  pub not_covered : is_covered s p o [] ≡ false
  unfolding is_covered
  not_covered = refl

  covered_more : (e : Event) (g : List Event) → is_covered s p o (e ∷ g) ≡ covers s p o g e || is_covered s p o g
  unfolding is_covered
  covered_more (Deliver n q u m t) g = refl
  covered_more (Did n i act answer) g = refl
  covered_more (Complete n) g = refl
  covered_more (Failed f) g = refl
  covered_more (WindowDid i act answer) g = refl
  covered_more WindowEnded g = refl

  pub covered_on : (h g : List Event) (e : Event) (b : Bool) → h ≡ e ∷ g → b ≡ covers s p o g e → (b || is_covered s p o g) ≡ is_covered s p o h
  covered_on h g e b is test = ap (λ (x : Bool). x || is_covered s p o g) test ∙ sym (covered_more e g) ∙ ap (is_covered s p o) (sym is)

module _ (covered : ℕ → Bool) (at : ℕ) where
  pub past_none : (n : ℕ) → n ≡ 0 → at ≡ past covered at n
  unfolding past
  past_none n none = ap (past covered at) (sym none)

  past_more : (n : ℕ) → past covered at (suc n) ≡ (if covered at then past covered (at + 1) n else at)
  unfolding past
  past_more n = refl

  pub past_on : (n : ℕ) → n ≢ 0 → (b : Bool) → b ≡ covered at → (if b then past covered (at + 1) (n - 1) else at) ≡ past covered at n
  past_on n some b test =
      let again : suc (n - 1) ≡ n = omega arith in
      ap (λ (x : Bool). if x then past covered (at + 1) (n - 1) else at) test ∙ sym (past_more (n - 1)) ∙ ap (past covered at) again
