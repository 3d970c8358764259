use Rattle.std.proofs.Common.{◌≡◌}
use Rattle.samza_model.specs.Content.{next_pair}
use Rattle.kv_store.specs.Slots.{content_of}
use Rattle.kv_store.proofs.SlotContent.{first_live}
use Rattle.kv_store.proofs.slots.SlotMap.next.Given as goal

abbrev pub invariant-loop-found : goal.invariant-loop-found
invariant-loop-found l = next_pair (content_of l.self) l.key ≡ first_live l.found-iterator
