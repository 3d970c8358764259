use Rattle.std.proofs.Common.{◌≡◌, ◌++◌, map}
use Rattle.std.specs.Vec.Iter.{into_iter_items}
use Rattle.job_config.specs.Stores.{new_store}
use Rattle.job_config.proofs.stores.new_stores.Given as goal

abbrev pub invariant-loop-name : goal.invariant-loop-name
invariant-loop-name l = l.stores.items ++ map new_store (into_iter_items l.name-iterator) ≡ map new_store l.fn.names
