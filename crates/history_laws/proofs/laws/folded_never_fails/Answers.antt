use Rattle.history_laws.proofs.Failing.{never_fails}
use Rattle.history_laws.proofs.laws.folded_never_fails.Goals as goal

pub returns : goal.returns
returns c = never_fails
