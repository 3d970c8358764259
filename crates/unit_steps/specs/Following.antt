-- Which events keep a task prompt.
use Rattle.std.specs.Prelude.{ℕ, ◌≡◌, List, false}
use Rattle.samza_model.specs.declared.events.Event.{Event}
use Rattle.samza_model.specs.declared.events.Event.TheVariants.{Deliver, Did, Complete, Failed, WindowDid, WindowEnded}
use Rattle.samza_model.specs.Requests.{due_by}

-- a message is delivered only while the events since the last mark don't ask for the next one
abbrev pub MayFollow : Event → List Event → Type 0
MayFollow (Deliver n p o m t) h = due_by h ≡ false
MayFollow (Did n i act answer) h = Unit {0}
MayFollow (Complete n) h = Unit {0}
MayFollow (Failed f) h = Unit {0}
MayFollow (WindowDid i act answer) h = Unit {0}
MayFollow WindowEnded h = Unit {0}
