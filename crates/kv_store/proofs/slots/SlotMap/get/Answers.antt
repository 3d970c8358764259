use Rattle.std.proofs.Common.{None, ◌∙◌}
use Rattle.kv_store.proofs.SlotContent.{get-live}
use Rattle.kv_store.proofs.slots.SlotMap.get.Goals as goal

pub returns-in-Some : goal.returns-in-Some
returns-in-Some c = c.as_ref.ensures.value ∙ get-live _ _ c.args.key.now _ c.self.view_is c.in-Some.ensures.value

pub returns-in-None : goal.returns-in-None
returns-in-None c = get-live _ _ c.args.key.now None c.self.view_is c.in-None.ensures.value
