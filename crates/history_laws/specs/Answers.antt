-- What is said of how often a callback is answered.
use Rattle.std.specs.Prelude.{◌≤◌, List, length}
use Rattle.std.specs.List.{AllByRecursion}
use Rattle.samza_model.specs.declared.flights.Flight.{Flight}
use Rattle.samza_model.specs.declared.events.Event.{Event}
use Rattle.samza_model.specs.Events.{flights}
use Rattle.samza_model.specs.Lawful.{Given, IsLawful}

abbrev pub HasFewAnswers : Flight → Type 0
HasFewAnswers f = length f.answers ≤ 1023

abbrev pub HaveFewAnswers : Type 0
HaveFewAnswers = (k : Given) (h : List Event) → IsLawful k h → AllByRecursion HasFewAnswers (flights k.setup h)
