use Rattle.std.proofs.Common.{◌≡◌}
use Rattle.kv_store.specs.Slots.{content_of}
use Rattle.kv_store.proofs.keys.KeySet.drop_deleted.Given as goal

abbrev pub invariant-loop-key : goal.invariant-loop-key
invariant-loop-key l = content_of l.slots ≡ content_of l.fn.slots
