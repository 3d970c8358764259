use Rattle.history_laws.proofs.Failing.{failure_or_end, one_failure}
use Rattle.history_laws.proofs.laws.fails_once.Goals as goal

pub returns-clause-once : goal.returns-clause-once
returns-clause-once c = one_failure

pub returns-clause-or_ends : goal.returns-clause-or_ends
returns-clause-or_ends c = failure_or_end
