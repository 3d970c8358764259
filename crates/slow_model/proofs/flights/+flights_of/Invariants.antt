use Rattle.std.proofs.Common.{length}
use Rattle.slow_model.proofs.flights.+flights_of.Given as goal

abbrev pub decreases-flights_of : goal.decreases-flights_of
decreases-flights_of l = length l.events.now
