-- A unit that nothing refuses a commit.
use Rattle.std.proofs.Common.{◌≡◌, List, [], ◌∷◌, Option, Some, None, Bool, true, false, refl, sym, true≢false}
use Rattle.std.proofs.lemmas.Option.{none-some}
use Rattle.samza_model.specs.declared.acts.Answer.{Answer}
use Rattle.samza_model.specs.declared.flights.Flight.{Flight}
use Rattle.samza_model.specs.declared.turns.Failure.{Failure}
use Rattle.core_steps.specs.Cores.{CoreValue}
use Rattle.event_unit.specs.Committing.{busy_by, window_by, broken_by, failed_by, commit_refusal}
use Rattle.unit_steps.proofs.Laws.{AtRest}

free : (f : Option Failure) (b : Bool) (w : Option (List Answer)) (allowed : Bool) (fs : List Flight) → failed_by f (broken_by b (window_by w (busy_by allowed fs))) ≡ None
    → (f ≡ None) × (b ≡ false) × (w ≡ None) × (allowed ≡ false → fs ≡ [])
free None false None true fs is = (refl, refl, refl, λ e. absurd (true≢false e))
free None false None false [] is = (refl, refl, refl, λ e. refl)
free None false None false (f ∷ fs) is = absurd (none-some _ (sym is))
free None false (Some answers) allowed fs is = absurd (none-some _ (sym is))
free None true w allowed fs is = absurd (none-some _ (sym is))
free (Some f) b w allowed fs is = absurd (none-some _ (sym is))

pub unbroken : (b : Bool) (u : CoreValue) → commit_refusal b u ≡ None → b ≡ false
unbroken b u is = (free u.failed b u.window u.setup.async_commit u.callbacks.flights is).1

pub at_rest : (b : Bool) (u : CoreValue) → commit_refusal b u ≡ None → AtRest u
at_rest b u is =
    let f = free u.failed b u.window u.setup.async_commit u.callbacks.flights is in
    record { idle = f.3; sound = f.0; closed = f.2 }
