use Rattle.std.proofs.Common.{ap, ◌∙◌, None}
use Rattle.samza_model.specs.Content.{updated}
use Rattle.kv_store.specs.Slots.{content_of}
use Rattle.kv_store.proofs.SlotContent.{content_of-remove}
use Rattle.kv_store.proofs.tables.Table.delete.Goals as goal

pub returns : goal.returns
returns c = ap content_of c.take.ensures ∙ content_of-remove _ c.args.key.now ∙ ap (λ s. updated s c.args.key.now None) c.self.view_is
