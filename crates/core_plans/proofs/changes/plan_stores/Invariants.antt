use Rattle.core_plans.proofs.SoFar.{StoresSoFar}
use Rattle.core_plans.proofs.changes.plan_stores.Given as goal

abbrev pub invariant-loop-i : goal.invariant-loop-i
invariant-loop-i l = StoresSoFar l.setup.stores l.lens l.stores l.i l.frames.items l.marks.items
