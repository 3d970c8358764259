use Rattle.std.proofs.Common.{arith}
use Rattle.unit_logs.proofs.Laws.{few_stores}
use Rattle.container_texts.proofs.unit_reports.store_reports.Goals as goal

pub overflow_cast-i : goal.overflow_cast-i
overflow_cast-i g c = let few = few_stores c.args.unit.now.core.setup c.setup.ensures.set_up in grind (arith, few)
