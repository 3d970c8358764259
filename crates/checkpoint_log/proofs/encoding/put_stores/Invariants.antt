use Rattle.std.proofs.Common.{◌≡◌, ◌++◌, ◌<◌, ◌^◌, drop}
use Rattle.std.specs.List.{flat_map, AllByRecursion}
use Rattle.samza_model.specs.Checkpoint.{store_bytes}
use Rattle.checkpoint_log.proofs.encoding.put_stores.Given as goal

abbrev pub invariant-loop-store : goal.invariant-loop-store
invariant-loop-store l = (l.out.items ++ flat_map store_bytes (drop l.store-index l.stores) ≡ l.fn.out.items ++ flat_map store_bytes l.stores)
    × (AllByRecursion (λ i. i.count < 2 ^ 64) (drop l.store-index l.stores) → AllByRecursion (λ i. i.count < 2 ^ 64) l.stores)
