use Rattle.std.proofs.Common.{ℕ, List, ◌++◌}
use Rattle.samza_model.specs.declared.messages.Record.{Record}
use Rattle.changelog.specs.Reading.{HasRead}
use Rattle.changelog.proofs.folds.Fold.read_all.Given as goal

abbrev pub invariant-loop-next : goal.invariant-loop-next
invariant-loop-next l = (count : ℕ) (before : List Record) → HasRead count before l.fn.self → HasRead count (before ++ l.yielded) l.self
