use Rattle.std.proofs.Common.{◌≡◌, ◌++◌}
use Rattle.props_text.specs.Sorted.{pairs_of, entries_of}
use Rattle.props_text.proofs.pairs.listed.Given as goal

abbrev pub invariant-loop-key : goal.invariant-loop-key
invariant-loop-key l = pairs_of l.pairs.items ++ entries_of l.key-iterator ≡ entries_of l.fn.tree.entries
