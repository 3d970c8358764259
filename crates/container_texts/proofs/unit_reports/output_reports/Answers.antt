use Rattle.std.proofs.Common.{arith}
use Rattle.unit_logs.proofs.Laws.{few_outputs}
use Rattle.container_texts.proofs.unit_reports.output_reports.Goals as goal

pub overflow_cast-j : goal.overflow_cast-j
overflow_cast-j g c = let few = few_outputs c.args.unit.now.core.setup c.setup.ensures.set_up in grind (arith, few)
