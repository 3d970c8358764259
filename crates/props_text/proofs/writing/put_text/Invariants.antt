use Rattle.std.proofs.Common.{◌≡◌, ◌++◌, take}
use Rattle.props_text.specs.Written.{written_text, AreUnits}
use Rattle.props_text.proofs.writing.put_text.Given as goal

abbrev pub invariant-loop-unit : goal.invariant-loop-unit
invariant-loop-unit l = record {
  out : l.out.items ≡ l.fn.out.items ++ written_text (take l.unit-index l.units);
  units : AreUnits (take l.unit-index l.units);
}
