use Rattle.std.proofs.Common.{◌≡◌, take, reverse}
use Rattle.samza_model.specs.Journals.{uncovered_by}
use Rattle.core_steps.specs.Lanes.{lane_at}
use Rattle.core_parts.proofs.journals.noted.Given as goal

abbrev pub invariant-loop-i : goal.invariant-loop-i
invariant-loop-i l = reverse l.numbers.items ≡ uncovered_by (λ p. (lane_at l.lanes p).low) (reverse (take l.i l.events))
