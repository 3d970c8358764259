use Rattle.std.proofs.Common.{◌-◌, ◌∙◌, ap, length, take, List}
use Rattle.std.proofs.lemmas.List.{get_or_read}
use Rattle.samza_model.specs.declared.messages.Record.{Record}
use Rattle.output_log.specs.Queues.{Queued}
use Rattle.output_log.proofs.Queueing.{nothing, records_changed, within}
use Rattle.output_log.proofs.outputs.Outputs.take_back.Goals as goal

pub returns : goal.returns
returns c =
    let queues = c.self.inside.queues.items in
    let at = get_or_read queues c.args.output c.index_mut.result.now (within queues c.args.self.now c.args.output c.self.view_is c.requires) c.index_mut.ensures.value nothing in
    records_changed queues c.args.self.now c.args.output c.drop_last.new.self (λ (l : List Record). take (length l - 1) l) c.self.view_is
    (c.drop_last.ensures.records ∙ ap (λ (q : Queued). take (length q.records - 1) q.records) at)
    (c.drop_last.ensures.cleared ∙ ap (λ (q : Queued). q.cleared) at)
