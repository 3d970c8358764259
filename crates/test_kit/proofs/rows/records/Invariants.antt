use Rattle.std.specs.List.{AllByRecursion}
use Rattle.samza_model.specs.Limits.{IsWithinLimits}
use Rattle.test_kit.proofs.rows.records.Given as goal

abbrev pub invariant-loop-row : goal.invariant-loop-row
invariant-loop-row l = AllByRecursion IsWithinLimits l.records.items
