use Rattle.unit_logs.proofs.Extents.{ReachSoFar}
use Rattle.unit_logs.proofs.reaching.reach_each.Given as goal

abbrev pub invariant-loop-i : goal.invariant-loop-i
invariant-loop-i l = ReachSoFar l.logs l.frames l.i l.extents.items
