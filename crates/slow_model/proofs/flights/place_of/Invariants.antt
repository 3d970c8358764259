use Rattle.std.proofs.Common.{ℕ, ◌≢◌, ◌<◌, get_or}
use Rattle.slow_model.proofs.Flown.{no_flight}
use Rattle.slow_model.proofs.flights.place_of.Given as goal

abbrev pub invariant-loop-i : goal.invariant-loop-i
invariant-loop-i l = (k : ℕ) → k < l.i → (get_or l.flights k no_flight).number ≢ l.number
