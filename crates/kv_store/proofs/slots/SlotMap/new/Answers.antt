use Rattle.std.proofs.Common.{ap, sym, ◌∙◌}
use Rattle.std.specs.FinMap as map
use Rattle.kv_store.specs.Slots.{content_of}
use Rattle.kv_store.proofs.SlotContent.{slots_of, len-nothing}
use Rattle.kv_store.proofs.slots.SlotMap.new.Goals as goal

pub invariant_of-result : goal.invariant_of-result
invariant_of-result c = sym (ap (λ es. map.len (content_of (slots_of es))) c.new.ensures.empty ∙ len-nothing)
