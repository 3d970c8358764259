use Rattle.std.proofs.Common.{◌∙◌, ap, subst}
use Rattle.core_steps.specs.Cores.{CoreValue, IsCore, after_window_failure}
use Rattle.core_steps.proofs.Laws.{window_failure_is, window_failure_adds}
use Rattle.task_core.specs.contracts.cores.Core.{the_view}
use Rattle.task_core.proofs.cores.Core.fail_window.Goals as goal

pub returns-clause-added : goal.returns-clause-added
returns-clause-added c = λ answers act opened ends.
    window_failure_adds c.args.self.now _ answers act c.args.why (subst IsCore c.self.view_is c.self.invariant) opened ends
    (window_failure_is (the_view c.self.inside) c.args.why c.push.new.self c.in_ok-push.ensures.ok ∙ ap (λ (v : CoreValue). after_window_failure v c.args.why) c.self.view_is)
