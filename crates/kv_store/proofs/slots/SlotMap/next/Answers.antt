use Rattle.std.proofs.Common.{ap, sym, ◌∙◌}
use Rattle.kv_store.proofs.SlotContent.{first_live, next_pair-slots}
use Rattle.kv_store.proofs.slots.SlotMap.next.Goals as goal

pub loop-found-init : goal.loop-found-init
loop-found-init c = next_pair-slots _ _ c.args.key.now c.self.view_is c.range-found-items.ensures.ordered
    ∙ ap first_live (sym (c.into_iter-found-iterator.ensures.into_iter_gives ∙ c.range-found-items.ensures.between tt))
