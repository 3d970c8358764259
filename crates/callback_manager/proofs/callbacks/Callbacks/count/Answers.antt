use Rattle.std.proofs.Common.{arith}
use Rattle.callback_manager.proofs.callbacks.Callbacks.count.Goals as goal

pub overflow_cast-result : goal.overflow_cast-result
overflow_cast-result c = omega (arith, c.self.invariant.few, c.self.invariant.fits, c.len.ensures)
