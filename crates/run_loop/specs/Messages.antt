-- The events that a run makes of messages alone.
use Rattle.std.specs.Prelude.{◌≡◌, false}
use Rattle.std.specs.List.{AllByRecursion}
use Rattle.samza_model.specs.declared.events.Event.{Event}
use Rattle.samza_model.specs.declared.events.Event.TheVariants.{Deliver, Did, Complete, Failed, WindowDid, WindowEnded}
use Rattle.samza_model.specs.Histories.{History, whole}
use Rattle.samza_model.specs.Ran.{is_window}
use Rattle.history_laws.specs.Fails.{IsNotExpired}

-- an event of a callback; where the callback failed, its time hadn't run out
abbrev pub IsOfMessage : Event → Type 0
IsOfMessage (Deliver n p o m t) = Unit {0}
IsOfMessage (Did n i act answer) = Unit {0}
IsOfMessage (Complete n) = Unit {0}
IsOfMessage (Failed f) = (is_window f.turn ≡ false) × IsNotExpired f.why
IsOfMessage (WindowDid i act answer) = ⊥
IsOfMessage WindowEnded = ⊥

-- all events are of messages
abbrev pub IsOfMessages : History → Type 0
IsOfMessages t = AllByRecursion IsOfMessage (whole t)
