use Rattle.std.proofs.Common.{◌∙◌, ap, subst}
use Rattle.samza_model.specs.Requests.{greater_scope}
use Rattle.core_steps.specs.Cores.{CoreValue, IsCore, after_window_act}
use Rattle.core_steps.proofs.Laws.{window_act_is, window_act_adds}
use Rattle.task_core.specs.contracts.cores.Core.{the_view}
use Rattle.task_core.proofs.cores.Core.make_window_act.Goals as goal

pub returns-clause-added : goal.returns-clause-added
returns-clause-added c = λ answers opened goes.
    let u = the_view c.self.inside in
    let opened' = ap (λ (v : CoreValue). v.window) c.self.view_is ∙ opened in
    let is = window_act_is u answers c.in_ok-answer.answer c.args.act _ c.open_act_noted.new.holdings c.open_act_noted.new.journal c.greater_scope-asked.result c.in_ok-answer.ensures
    (c.in_ok-open_act_noted.ensures.answered answers opened') c.in_ok-open_act_noted.ensures.made (c.in_ok-open_act_noted.ensures.noted answers opened')
    (c.greater_scope-asked.ensures ∙ ap (λ x. greater_scope u.asked x) c.shutdown_of.ensures) in
    window_act_adds c.args.self.now _ answers c.args.act (subst IsCore c.self.view_is c.self.invariant) opened goes (is ∙ ap (λ (v : CoreValue). after_window_act v answers c.args.act) c.self.view_is)
