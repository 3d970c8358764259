use Rattle.std.proofs.Common.{◌∙◌, ap, subst}
use Rattle.samza_model.specs.Events.{flight_of}
use Rattle.samza_model.specs.Requests.{greater_scope}
use Rattle.core_steps.specs.Cores.{CoreValue, IsCore, after_act}
use Rattle.core_steps.proofs.Laws.{act_closes, act_is, act_adds}
use Rattle.task_core.specs.contracts.cores.Core.{the_view}
use Rattle.task_core.proofs.cores.Core.make_act.Goals as goal

pub invariant_of-self-2 : goal.invariant_of-self-2
invariant_of-self-2 c = act_closes _ c.args.number c.in_ok-answer.answer c.args.act c.act_noted.new.callbacks c.act_noted.new.holdings c.act_noted.new.journal _ c.self.invariant c.in_ok-act_noted.ensures.answered c.in_ok-act_noted.ensures.made

pub returns-clause-ok : goal.returns-clause-ok
returns-clause-ok c = λ f flies.
    let u = the_view c.self.inside in
    let flies' = ap (λ (v : CoreValue). flight_of c.args.number v.callbacks.flights) c.self.view_is ∙ flies in
    act_is u c.args.number c.answers_of-place.result c.in_ok-answer.answer c.args.act c.act_noted.new.callbacks c.act_noted.new.holdings c.act_noted.new.journal c.greater_scope-asked.result f flies'
    (c.answers_of-place.ensures f flies') c.in_ok-answer.ensures c.in_ok-act_noted.ensures.answered c.in_ok-act_noted.ensures.made c.in_ok-act_noted.ensures.noted
    (c.greater_scope-asked.ensures ∙ ap (λ x. greater_scope u.asked x) c.shutdown_of.ensures)
    ∙ ap (λ (v : CoreValue). after_act v f c.args.act) c.self.view_is

pub returns-clause-added : goal.returns-clause-added
returns-clause-added c = λ f flies goes. act_adds c.args.self.now _ c.args.number f c.args.act (subst IsCore c.self.view_is c.self.invariant) flies goes (returns-clause-ok c f flies)
