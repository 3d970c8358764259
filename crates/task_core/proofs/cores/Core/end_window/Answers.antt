use Rattle.std.proofs.Common.{◌∙◌, ap, subst}
use Rattle.core_steps.specs.Cores.{IsCore, after_window_end}
use Rattle.core_steps.proofs.Laws.{window_end_is, window_end_adds}
use Rattle.task_core.specs.contracts.cores.Core.{the_view}
use Rattle.task_core.proofs.cores.Core.end_window.Goals as goal

pub returns-clause-added : goal.returns-clause-added
returns-clause-added c = λ answers opened.
    window_end_adds c.args.self.now _ answers (subst IsCore c.self.view_is c.self.invariant) opened (window_end_is (the_view c.self.inside) c.push.new.self c.in_ok-push.ensures.ok ∙ ap after_window_end c.self.view_is)
