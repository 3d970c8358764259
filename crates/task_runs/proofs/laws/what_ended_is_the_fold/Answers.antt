use Rattle.task_runs.proofs.Folding.{ended_folds}
use Rattle.task_runs.proofs.laws.what_ended_is_the_fold.Goals as goal

pub returns : goal.returns
returns c = ended_folds
