use Rattle.std.proofs.Common.{length}
use Rattle.slow_model.proofs.journals.+those_of.Given as goal

abbrev pub decreases-those_of : goal.decreases-those_of
decreases-those_of l = length l.events.now
