use Rattle.std.proofs.Common.{ap, ◌∙◌, Some}
use Rattle.samza_model.specs.Content.{updated}
use Rattle.kv_store.specs.Slots.{content_of}
use Rattle.kv_store.proofs.SlotContent.{content_of-insert}
use Rattle.kv_store.proofs.tables.Table.put.Goals as goal

pub returns-clause-ok : goal.returns-clause-ok
returns-clause-ok c = ap content_of c.in_ok-set.ensures.ok ∙ content_of-insert _ c.args.key (Some c.args.value) ∙ ap (λ s. updated s c.args.key (Some c.args.value)) c.self.view_is
