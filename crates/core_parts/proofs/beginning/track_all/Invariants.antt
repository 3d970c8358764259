use Rattle.std.proofs.Common.{◌≡◌, ◌++◌, All}
use Rattle.std.specs.Vec.Iter.{into_iter_items}
use Rattle.kv_store.specs.Tracked.{AreWithinLimits}
use Rattle.core_steps.specs.Begun.{AreClean}
use Rattle.core_steps.specs.Held.{contents_of}
use Rattle.core_parts.proofs.beginning.track_all.Given as goal

abbrev pub invariant-loop-table : goal.invariant-loop-table
invariant-loop-table l = record {
  contents : contents_of l.stores.items ++ into_iter_items l.table-iterator ≡ l.fn.tables;
  clean : AreClean l.stores.items;
  within : All AreWithinLimits (into_iter_items l.table-iterator);
}
