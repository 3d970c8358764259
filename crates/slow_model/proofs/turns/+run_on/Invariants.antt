use Rattle.slow_model.proofs.turns.+run_on.Given as goal

abbrev pub decreases-run_on : goal.decreases-run_on
decreases-run_on g l = l.left
