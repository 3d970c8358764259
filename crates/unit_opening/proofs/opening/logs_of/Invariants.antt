use Rattle.std.proofs.Common.{◌≡◌, ◌++◌}
use Rattle.std.specs.Vec.Iter.{into_iter_items}
use Rattle.unit_opening.proofs.opening.logs_of.Given as goal

abbrev pub invariant-loop-changelog : goal.invariant-loop-changelog
invariant-loop-changelog l = l.logs.items ++ into_iter_items l.changelog-iterator ≡ l.fn.changelogs
