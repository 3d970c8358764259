use Rattle.std.proofs.Common.{◌≡◌, length}
use Rattle.samza_model.specs.Checkpoint.{are_distinct}
use Rattle.checkpoint_log.proofs.orders.are_all_distinct.Given as goal

abbrev pub invariant-loop-rest : goal.invariant-loop-rest
invariant-loop-rest l = are_distinct l.rest ≡ are_distinct l.list

abbrev pub decreases-loop-rest : goal.decreases-loop-rest
decreases-loop-rest l = length l.rest
