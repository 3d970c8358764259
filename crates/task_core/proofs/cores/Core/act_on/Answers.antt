use Rattle.task_core.proofs.Failing.{failed_acts}
use Rattle.task_core.proofs.cores.Core.act_on.Goals as goal

pub returns-in_ok-fail-in-Failed-clause-added : goal.returns-in_ok-fail-in-Failed-clause-added
returns-in_ok-fail-in-Failed-clause-added c = λ f flies.
    failed_acts c.args.self.now c.fail.new.self c.args.made f c.args.act c.in-Failed.why (c.requires.made f flies) c.in-Failed.ensures.course (λ ends. c.in_ok-fail-in-Failed.ensures.added f c.args.act flies ends)
