use Rattle.slow_model.proofs.lows.+past.Given as goal

abbrev pub decreases-past : goal.decreases-past
decreases-past l = l.left
