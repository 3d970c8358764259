use Rattle.std.proofs.Common.{◌≡◌, drop}
use Rattle.samza_model.specs.Runs.{folds}
use Rattle.slow_model.proofs.turns.fold_all.Given as goal

abbrev pub invariant-loop-envelope : goal.invariant-loop-envelope
invariant-loop-envelope g l =
    folds (g.J.Job.meaning (g.J.Job.plain l.job)) l.setup (drop l.envelope-index l.envelopes) l.state ≡ folds (g.J.Job.meaning (g.J.Job.plain l.job)) l.setup l.envelopes l.fn.state
