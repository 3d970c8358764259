use Rattle.std.proofs.Common.{length}
use Rattle.slow_model.proofs.requests.+is_asked.Given as goal

abbrev pub decreases-is_asked : goal.decreases-is_asked
decreases-is_asked l = length l.events.now
