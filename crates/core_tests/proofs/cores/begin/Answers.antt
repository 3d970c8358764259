use Rattle.core_tests.proofs.Runnable.{blank}
use Rattle.core_tests.proofs.cores.begin.Goals as goal

pub new-requires-2-clause-limits : goal.new-requires-2-clause-limits
new-requires-2-clause-limits c = blank _ _ c.in_ok-tables.ensures c.new.ensures
