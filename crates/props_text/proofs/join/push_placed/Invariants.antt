use Rattle.std.proofs.Common.{◌≡◌, ◌++◌, take}
use Rattle.props_text.specs.Logical.{placed}
use Rattle.props_text.proofs.join.push_placed.Given as goal

abbrev pub invariant-loop-unit : goal.invariant-loop-unit
invariant-loop-unit l = l.begun.items ≡ l.fn.begun.items ++ placed l.number (take l.unit-index l.line)
