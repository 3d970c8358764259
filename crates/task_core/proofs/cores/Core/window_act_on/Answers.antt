use Rattle.task_core.proofs.Failing.{window_fails}
use Rattle.task_core.proofs.cores.Core.window_act_on.Goals as goal

pub returns-in_ok-fail_window-in-Failed-clause-added : goal.returns-in_ok-fail_window-in-Failed-clause-added
returns-in_ok-fail_window-in-Failed-clause-added c = λ answers opened.
    window_fails c.args.self.now c.fail_window.new.self c.args.made answers c.args.act c.in-Failed.why (c.requires.made answers opened) c.in-Failed.ensures.course (λ ends. c.in_ok-fail_window-in-Failed.ensures.added answers c.args.act opened ends)
