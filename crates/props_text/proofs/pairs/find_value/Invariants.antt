use Rattle.std.proofs.Common.{◌≡◌, T, length}
use Rattle.std.specs.Ordering.{nat_cmp}
use Rattle.std.specs.Cmp.Lexicographic.{slice_cmp}
use Rattle.std.specs.FinMap.{find}
use Rattle.props_text.specs.Sorted.{pairs_of, rises}
use Rattle.props_text.proofs.pairs.find_value.Given as goal

abbrev pub invariant-loop-rest : goal.invariant-loop-rest
invariant-loop-rest l = record {
  same : find (slice_cmp nat_cmp) l.key (pairs_of l.rest) ≡ find (slice_cmp nat_cmp) l.key (pairs_of l.pairs);
  rise : T (rises (pairs_of l.rest));
}

abbrev pub decreases-loop-rest : goal.decreases-loop-rest
decreases-loop-rest l = length l.rest
