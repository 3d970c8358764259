use Rattle.std.proofs.Common.{◌≡◌, map, take}
use Rattle.core_steps.specs.Lanes.{begun_lane}
use Rattle.core_parts.proofs.beginning.begin_lanes.Given as goal

abbrev pub invariant-loop-i : goal.invariant-loop-i
invariant-loop-i l = l.lanes.items ≡ map (begun_lane l.span) (take l.i l.starts)
