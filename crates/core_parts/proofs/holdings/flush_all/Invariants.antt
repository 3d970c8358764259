use Rattle.std.proofs.Common.{ℕ, ◌≡◌, ◌<◌, length}
use Rattle.kv_store.specs.Tracked.{no_keys}
use Rattle.core_steps.specs.Held.{contents_of, tracked_at}
use Rattle.core_parts.proofs.holdings.flush_all.Given as goal

abbrev pub invariant-loop-i : goal.invariant-loop-i
invariant-loop-i l =
    (length l.stores.items ≡ length l.fn.stores.items) × (contents_of l.stores.items ≡ contents_of l.fn.stores.items)
    × ((k : ℕ) → k < l.i → (tracked_at l.stores.items k).dirty ≡ no_keys)
