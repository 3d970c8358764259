use Rattle.std.proofs.Common.{arith}
use Rattle.std.proofs.lemmas.Grind.{common_steps}
use Rattle.props_text.proofs.Writes.{units_more}
use Rattle.props_text.proofs.writing.put_text.Goals as goal

pub loop-unit-preserved : goal.loop-unit-preserved
loop-unit-preserved c = record {
  out = grind (arith, common_steps);
  units = units_more c.args.units.now c.loop-unit.unit-index (omega arith) (omega arith) c.loop-unit.invariant.units;
}
