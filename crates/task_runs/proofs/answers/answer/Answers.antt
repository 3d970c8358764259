use Rattle.std.proofs.Common.{sym, subst}
use Rattle.task_runs.specs.Answers.{Says}
use Rattle.task_runs.proofs.answers.answer.Goals as goal

pub returns-in-Failed : goal.returns-in-Failed
returns-in-Failed g c = subst (λ stop. Says c.args.unit.now stop c.failure_of.result) (sym c.in-Failed.is) (c.failure_of.ensures c.in-Failed.unit)
