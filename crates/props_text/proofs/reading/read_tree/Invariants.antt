use Rattle.std.proofs.Common.{◌≡◌, ◌+◌, ◌≤◌, length, option_map, option_copied}
use Rattle.std.specs.FinMap.{entries}
use Rattle.props_text.specs.Logical.{logical_lines}
use Rattle.props_text.specs.Pairs.{Props, pairs_onto, props_of}
use Rattle.props_text.specs.Sorted.{entries_of}
use Rattle.props_text.proofs.Takes.{lines_left, size_left}
use Rattle.props_text.proofs.reading.read_tree.Given as goal

abbrev pub invariant-loop-rest : goal.invariant-loop-rest
invariant-loop-rest l = record {
  number : l.number + size_left (option_copied l.rest) ≤ length l.text + 2;
  reads : (m : Props) × (entries m ≡ entries_of l.tree.entries) × (pairs_onto m (logical_lines (option_map (λ us. us.items) l.begun) l.number (lines_left (option_copied l.rest))) ≡ props_of l.text);
}

abbrev pub decreases-loop-rest : goal.decreases-loop-rest
decreases-loop-rest l = size_left (option_copied l.rest)
