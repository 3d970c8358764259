-- A callback's failure, by its number and place.
use Rattle.std.specs.Prelude.{ℕ, Some}
use Rattle.samza_model.specs.declared.turns.Turn.TheVariants.{Call}
use Rattle.samza_model.specs.declared.turns.Failure.{Failure}
use Rattle.samza_model.specs.declared.turns.Why.{Why}
use Rattle.samza_model.specs.declared.flights.Flight.{Flight}

abbrev pub place_failure : ℕ → Flight → Why → Failure
place_failure n f why = record { turn = Call n; place = Some (f.input, f.envelope.offset); why = why }
