use Rattle.std.proofs.Common.{length}
use Rattle.slow_model.proofs.journals.+uncovered.Given as goal

abbrev pub decreases-uncovered : goal.decreases-uncovered
decreases-uncovered l = length l.events.now
