use Rattle.std.proofs.Common.{rules}
use Rattle.task_core.proofs.cores.Core.open_window.Goals as goal

pub returns-in_err-may_open-clause-busy : goal.returns-in_err-may_open-clause-busy
returns-in_err-may_open-clause-busy c = λ n.
    let busy = c.in_err-may_open.ensures.busy n in
    search (rules, busy)
