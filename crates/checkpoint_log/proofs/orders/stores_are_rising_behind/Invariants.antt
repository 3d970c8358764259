use Rattle.std.proofs.Common.{◌≡◌, drop}
use Rattle.samza_model.specs.Checkpoint.{stores_rise_behind}
use Rattle.checkpoint_log.proofs.orders.stores_are_rising_behind.Given as goal

abbrev pub invariant-loop-x : goal.invariant-loop-x
invariant-loop-x l = stores_rise_behind l.last (drop l.x-index l.rest) ≡ stores_rise_behind l.fn.first l.rest
