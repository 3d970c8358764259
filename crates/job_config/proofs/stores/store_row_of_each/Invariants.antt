use Rattle.std.proofs.Common.{◌≡◌}
use Rattle.std.specs.Vec.Iter.{into_iter_items}
use Rattle.job_config.specs.Asking.{each}
use Rattle.job_config.proofs.Each.{with_front}
use Rattle.job_config.specs.Stores.{store_row}
use Rattle.job_config.proofs.stores.store_row_of_each.Given as goal

abbrev pub invariant-loop-store : goal.invariant-loop-store
invariant-loop-store l =
    with_front l.made.items (each (into_iter_items l.store-iterator) (store_row l.pairs l.setting) l.asked.items) ≡ each l.fn.stores (store_row l.pairs l.setting) l.fn.asked.items
