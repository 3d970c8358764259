use Rattle.std.proofs.Common.{◌<◌, length, get_or, MatchOption, Option, List, subst, ap, ◌∙◌}
use Rattle.samza_model.specs.declared.events.Event.{Event}
use Rattle.slow_model.specs.declared.tasks.PlainInput.{PlainInput}
use Rattle.slow_model.specs.Tasks.{given_of, IsDelivery, NoDelivery, next_delivery}
use Rattle.slow_model.proofs.Delivered.{next_is, on_ok_is}
use Rattle.slow_model.proofs.tasks.PlainTask.next_delivery.Goals as goal

pub returns : goal.returns
returns g c =
    let job = g.J.Job.meaning (g.J.Job.plain c.args.self.now.job) in
    let s = c.args.self.now.setup in
    let inputs = c.args.self.now.inputs in
    let events = c.args.events.now in
    let p = c.args.input in
    let i = c.index-inputs-number.result in
    let lt : p < length inputs = subst (λ (l : List PlainInput). p < length l) c.as_slice-inputs.ensures c.if-number-inputs.false in
    let is = c.index-inputs-number.is ∙ ap (λ (l : List PlainInput). get_or l p i) c.as_slice-inputs.ensures in
    on_ok_is c.delivery.result (next_delivery s i events p c.args.moment) (λ (next : Option Event). MatchOption next (NoDelivery (given_of job s inputs) events p) (IsDelivery (given_of job s inputs) events p c.args.moment)) c.delivery.ensures
    (next_is job s inputs events p c.args.moment i lt is)
