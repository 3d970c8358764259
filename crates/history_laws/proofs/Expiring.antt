-- Where there is no time limit, no callback's time runs out.
use Rattle.std.proofs.Common.{ℕ, ◌≡◌, ◌≤◌, ◌-◌, ◌⊎◌, inl, inr, Bool, true, false, if◌then◌else◌, List, [], ◌∷◌, length, nat_lt, Option, Some, None, IsSomeAnd, refl, subst}
use Rattle.std.proofs.lemmas.Option.{none-some}
use Rattle.samza_model.specs.declared.acts.Act.{Act}
use Rattle.samza_model.specs.declared.acts.Act.TheVariants.{Done, Fail}
use Rattle.samza_model.specs.declared.turns.Turn.{Turn}
use Rattle.samza_model.specs.declared.turns.Turn.TheVariants.{Call, Window}
use Rattle.samza_model.specs.declared.turns.Failure.{Failure}
use Rattle.samza_model.specs.declared.turns.Why.{Why}
use Rattle.samza_model.specs.declared.turns.Why.TheVariants.{Code, TooMany, Limits}
use Rattle.samza_model.specs.declared.setups.Setup.{Setup}
use Rattle.samza_model.specs.declared.events.Event.{Event}
use Rattle.samza_model.specs.declared.events.Event.TheVariants.{Deliver, Did, Complete, Failed, WindowDid, WindowEnded}
use Rattle.samza_model.specs.Events.{earlier, first_failure, state_after, window_answers}
use Rattle.samza_model.specs.Lawful.{Given, IsLawful, MayAct, MayExpire, MayFail, MayWindow, course, ends_or_goes_on}
use Rattle.samza_model.specs.Limits.{act_fits}
use Rattle.samza_model.specs.Runs.{End, end_at}
use Rattle.history_laws.specs.Fails.{IsNotExpired}
use Rattle.history_laws.proofs.Turning.{failed_is, window_failed_is}

-- the first failure, with one more behind: that one where there was none, else the one before
pub first_of : (x : Option Failure) (f g : Failure) → earlier x f ≡ Some g → ((x ≡ None) × (f ≡ g)) ⊎ (x ≡ Some g)
first_of None f g is = inl (refl, cc)
first_of (Some e) f g is = inr is

is_why : (x why : Why) → IsNotExpired x → Some (Some x) ≡ Some (Some why) → IsNotExpired why
is_why x why not is = subst IsNotExpired same not
  where
    same : x ≡ why
    same = cc

at_limits : (fits : Bool) (why : Why) → (if fits then None else Some (Some Limits)) ≡ Some (Some why) → IsNotExpired why
at_limits true why is = absurd cc
at_limits false why is = is_why Limits why tt is

at_act : (s : Setup) (act : Act) (why : Why) → end_at s act ≡ Some (Some why) → IsNotExpired why
at_act s Done why is = absurd cc
at_act s (Fail code) why is = is_why (Code code) why tt is
at_act s act why is = at_limits (act_fits s act) why is

pub at_course : (s : Setup) (made : ℕ) (act : Act) (why : Why) → course s made act ≡ Some (Some why) → IsNotExpired why
at_course s made act why is = by_end (end_at s act) (at_act s act why) is
  where
    too_many : (b : Bool) → (if b then None else Some (Some TooMany)) ≡ Some (Some why) → IsNotExpired why
    too_many true is = absurd cc
    too_many false is = is_why TooMany why tt is

    by_end : (x : Option End) → (x ≡ Some (Some why) → IsNotExpired why) → ends_or_goes_on made x ≡ Some (Some why) → IsNotExpired why
    by_end None at is = too_many (nat_lt made 1023) is
    by_end (Some end) at is = at is

module _ (k : Given) (untimed : k.setup.timeout_ms ≡ None) where
  of_act : (h : List Event) (n : ℕ) (f : Failure) → MayAct k h n (Failed f) → IsNotExpired f.why
  of_act h n f may =
      let made = length may.flight.answers in
      at_course k.setup made may.act f.why (failed_is may.flight (state_after k.state h) may.act (course k.setup made may.act) f may.event).0

  not_late : (h : List Event) (n : ℕ) (f : Failure) → MayExpire k h n f → IsNotExpired f.why
  not_late h n f may = absurd (subst (λ (limit : Option ℕ). IsSomeAnd limit (λ t. t ≤ may.now - may.flight.delivered)) untimed may.late)

  of_window : (h : List Event) (f : Failure) → MayWindow k h (Failed f) → IsNotExpired f.why
  of_window h f may =
      let answers = window_answers h in
      at_course k.setup (length answers) may.act f.why (window_failed_is answers (state_after k.state h) may.act (course k.setup (length answers) may.act) f may.event)

  of_turn : (h : List Event) (f : Failure) (turn : Turn) → MayFail k h f turn → IsNotExpired f.why
  of_turn h f (Call n) (inl may) = of_act h n f may
  of_turn h f (Call n) (inr may) = not_late h n f may
  of_turn h f Window may = of_window h f may

  not_expired : (h : List Event) (f : Failure) → IsLawful k h → first_failure h ≡ Some f → IsNotExpired f.why
  unfolding IsLawful first_failure
  not_expired [] f lawful is = absurd (none-some f is)
  not_expired (Deliver n p o m t ∷ h) f lawful is = not_expired h f lawful.0 is
  not_expired (Did n i act answer ∷ h) f lawful is = not_expired h f lawful.0 is
  not_expired (Complete n ∷ h) f lawful is = not_expired h f lawful.0 is
  not_expired (Failed g ∷ h) f lawful is = elim (first_of (first_failure h) g f is) [
    | inl now ↦ subst (λ (x : Failure). IsNotExpired x.why) now.1 (of_turn h g g.turn lawful.1)
    | inr before ↦ not_expired h f lawful.0 before
  ]
  not_expired (WindowDid i act answer ∷ h) f lawful is = not_expired h f lawful.0 is
  not_expired (WindowEnded ∷ h) f lawful is = not_expired h f lawful.0 is

pub never_expires : (k : Given) (h : List Event) (f : Failure) → k.setup.timeout_ms ≡ None → IsLawful k h → first_failure h ≡ Some f → IsNotExpired f.why
never_expires k h f untimed lawful is = not_expired k untimed h f lawful is
