use Rattle.core_plans.proofs.SoFar.{InputsSoFar}
use Rattle.core_plans.proofs.marks.inputs_of.Given as goal

abbrev pub invariant-loop-i : goal.invariant-loop-i
invariant-loop-i l = InputsSoFar l.inputs l.nexts l.i l.marks.items
