-- A callback's time ran out: what is looked at for it says just whether it did.
use Rattle.std.proofs.Common.{ℕ, ◌≡◌, ◌≤◌, ◌-◌, Bool, true, false, if◌then◌else◌, List, Option, Some, None, IsSomeAnd, MatchOption, option_and_then, refl, sym, ◌∙◌, subst, rules, leb-true, le-leb}
use Rattle.samza_model.specs.declared.turns.Why.TheVariants.{Expired}
use Rattle.samza_model.specs.declared.flights.Flight.{Flight}
use Rattle.samza_model.specs.declared.events.Event.{Event}
use Rattle.samza_model.specs.Events.{flights, flight_of}
use Rattle.samza_model.specs.Lawful.{Given, MayExpire, failure_of}
use Rattle.slow_model.specs.Tasks.{NoExpiry, expiry, is_late}

differ : true ≡ false → ⊥
differ e = search rules

late : (limit : Option ℕ) (passed : ℕ) → is_late limit passed ≡ true → IsSomeAnd limit (λ t. t ≤ passed)
late None passed e = absurd (differ (sym e))
late (Some t) passed e = leb-true t passed e

in_time : (limit : Option ℕ) (passed : ℕ) → is_late limit passed ≡ false → IsSomeAnd limit (λ t. t ≤ passed) → ⊥
in_time None passed e is = is
in_time (Some t) passed e is = differ (sym (le-leb t passed is) ∙ e)

module _ (k : Given) (g : List Event) (n now : ℕ) where
  same : (f x : Flight) → Some f ≡ Some x → f ≡ x
  same f x e = cc

  clash : (x : Flight) → None ≡ Some x → ⊥
  clash x e = search rules

  at_flight : (f : Flight) (b : Bool) → flight_of n (flights k.setup g) ≡ Some f → is_late k.setup.timeout_ms (now - f.delivered) ≡ b
      → MatchOption (if b then Some (failure_of f (Expired f.delivered now)) else None) (NoExpiry k g n now) (MayExpire k g n)
  at_flight f true flies is = record { flight = f; flies = flies; now = now; late = late k.setup.timeout_ms (now - f.delivered) is; failure = refl }
  at_flight f false flies is = λ x may at.
      let one : may.flight ≡ f = same may.flight f (sym may.flies ∙ flies) in
      in_time k.setup.timeout_ms (now - f.delivered) is
      (subst (λ (y : Flight). IsSomeAnd k.setup.timeout_ms (λ t. t ≤ now - y.delivered)) one
      (subst (λ (m : ℕ). IsSomeAnd k.setup.timeout_ms (λ t. t ≤ m - may.flight.delivered)) at may.late))

  by_flight : (o : Option Flight) → flight_of n (flights k.setup g) ≡ o → MatchOption (option_and_then (expiry k.setup now) o) (NoExpiry k g n now) (MayExpire k g n)
  by_flight None flies = λ f may at. clash may.flight (sym flies ∙ may.flies)
  by_flight (Some f) flies = at_flight f (is_late k.setup.timeout_ms (now - f.delivered)) flies refl

  pub expired_is : MatchOption (option_and_then (expiry k.setup now) (flight_of n (flights k.setup g))) (NoExpiry k g n now) (MayExpire k g n)
  expired_is = by_flight (flight_of n (flights k.setup g)) refl
