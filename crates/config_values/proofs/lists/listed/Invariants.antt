use Rattle.std.proofs.Common.{◌≡◌, ◌++◌}
use Rattle.std.specs.BTreeSet.{keys}
use Rattle.config_values.proofs.lists.listed.Given as goal

abbrev pub invariant-loop-name : goal.invariant-loop-name
invariant-loop-name l = l.names.items ++ l.name-iterator ≡ keys l.fn.set
