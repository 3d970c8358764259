use Rattle.std.proofs.Common.{length}
use Rattle.slow_model.proofs.behind.+state_behind.Given as goal

abbrev pub decreases-state_behind : goal.decreases-state_behind
decreases-state_behind l = length l.events.now
