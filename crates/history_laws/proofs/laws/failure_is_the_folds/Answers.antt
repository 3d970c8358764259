use Rattle.history_laws.proofs.Folding.{failure_is_the_folds}
use Rattle.history_laws.proofs.laws.failure_is_the_folds.Goals as goal

pub returns : goal.returns
returns c = failure_is_the_folds
