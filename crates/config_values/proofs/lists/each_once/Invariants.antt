use Rattle.std.proofs.Common.{◌≡◌}
use Rattle.std.specs.List.{fold}
use Rattle.std.specs.Vec.Iter.{into_iter_items}
use Rattle.config_values.specs.Lists.{each_once, with_name}
use Rattle.config_values.proofs.lists.each_once.Given as goal

abbrev pub invariant-loop-name : goal.invariant-loop-name
invariant-loop-name l = fold with_name l.once.items (into_iter_items l.name-iterator) ≡ each_once l.fn.names.items
