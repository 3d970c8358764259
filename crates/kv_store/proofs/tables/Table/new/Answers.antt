use Rattle.std.proofs.Common.{ap, ◌∙◌}
use Rattle.kv_store.specs.Slots.{content_of}
use Rattle.kv_store.proofs.SlotContent.{content_of-empty}
use Rattle.kv_store.proofs.tables.Table.new.Goals as goal

pub returns : goal.returns
returns c = ap content_of c.new.ensures ∙ content_of-empty
