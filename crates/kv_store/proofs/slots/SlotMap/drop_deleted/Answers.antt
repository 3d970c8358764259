use Rattle.std.proofs.Common.{ap, sym, ◌∙◌}
use Rattle.std.specs.Option.{option_copied}
use Rattle.kv_store.specs.Slots.{content_of}
use Rattle.kv_store.proofs.SlotContent.{content_of-remove_absent}
use Rattle.kv_store.proofs.Tracking.{none_from_not_some}
use Rattle.kv_store.proofs.slots.SlotMap.drop_deleted.Goals as goal

pub returns-then-is_none : goal.returns-then-is_none
returns-then-is_none c = ap content_of c.take.ensures
    ∙ content_of-remove_absent c.args.self.now c.args.key.now (sym c.get.ensures ∙ ap option_copied (none_from_not_some c.get.result c.if-is_none.ensures))
