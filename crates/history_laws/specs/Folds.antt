-- What is said of a task that has one message in flight at a time.
use Rattle.std.specs.Prelude.{◌≡◌, List, [], ◌∷◌, ◌++◌, Some, None}
use Rattle.samza_model.specs.declared.messages.Envelope.{Envelope}
use Rattle.samza_model.specs.declared.setups.Setup.{Setup}
use Rattle.samza_model.specs.declared.events.Event.{Event}
use Rattle.samza_model.specs.declared.events.Event.TheVariants.{Deliver, Did, Complete, Failed, WindowDid, WindowEnded}
use Rattle.samza_model.specs.Events.{first_failure, flights, ssp_at, state_after}
use Rattle.samza_model.specs.Lawful.{Given, IsLawful}
use Rattle.samza_model.specs.Meaning.{Meaning}
use Rattle.samza_model.specs.Ran.{HasNoWindows}
use Rattle.samza_model.specs.Runs.{folds}

-- the messages that were delivered, the oldest first
unfoldable pub delivered : Setup → List Event → List Envelope
delivered s [] = []
delivered s (Deliver n p o m t ∷ h) = delivered s h ++ record { ssp = ssp_at s p; offset = o; body = m } ∷ []
delivered s (Did n i act answer ∷ h) = delivered s h
delivered s (Complete n ∷ h) = delivered s h
delivered s (Failed f ∷ h) = delivered s h
delivered s (WindowDid i act answer ∷ h) = delivered s h
delivered s (WindowEnded ∷ h) = delivered s h

abbrev pub IsFolded : Type 0
IsFolded = (job : Meaning) (k : Given) (h : List Event) → k.job ≡ Some job → k.setup.concurrency ≡ 1 → HasNoWindows None h
    → IsLawful k h → flights k.setup h ≡ [] → first_failure h ≡ None
    → folds job k.setup (delivered k.setup h) k.state ≡ Some (state_after k.state h)
