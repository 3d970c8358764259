use Rattle.core_plans.proofs.SoFar.{SendsSoFar}
use Rattle.core_plans.proofs.sends.plan_sends.Given as goal

abbrev pub invariant-loop-output : goal.invariant-loop-output
invariant-loop-output l = SendsSoFar l.outputs.unsent l.output l.frames.items
