use Rattle.std.proofs.Common.{length}
use Rattle.slow_model.proofs.windows.+failure_in.Given as goal

abbrev pub decreases-failure_in : goal.decreases-failure_in
decreases-failure_in l = length l.events.now
