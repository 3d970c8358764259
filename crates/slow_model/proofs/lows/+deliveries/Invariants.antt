use Rattle.std.proofs.Common.{length}
use Rattle.slow_model.proofs.lows.+deliveries.Given as goal

abbrev pub decreases-deliveries : goal.decreases-deliveries
decreases-deliveries l = length l.events.now
