use Rattle.std.proofs.Common.{◌≡◌}
use Rattle.std.specs.List.{fold}
use Rattle.std.specs.Ordering.{nat_cmp}
use Rattle.std.specs.Cmp.Lexicographic.{slice_cmp}
use Rattle.std.specs.BTreeSet.{keys, insert_key}
use Rattle.std.specs.Vec.Iter.{into_iter_items}
use Rattle.config_values.specs.Lists.{in_order}
use Rattle.config_values.proofs.lists.set_of.Given as goal

abbrev pub invariant-loop-name : goal.invariant-loop-name
invariant-loop-name l = fold (insert_key (slice_cmp nat_cmp)) (keys l.set) (into_iter_items l.name-iterator) ≡ in_order l.fn.names.items
