use Rattle.std.proofs.Common.{refl}
use Rattle.task_core.proofs.Asked.{compared_current, compared_unknown, compared_stale, compared_differ, not_answered}
use Rattle.task_core.proofs.cores.Core.check.Goals as goal

pub returns-in-Some-clause-current : goal.returns-in-Some-clause-current
returns-in-Some-clause-current c = compared_current c.args.self.now c.args.question.now c.in-Some.answers.now c.in-Some.ensures c.compare.result c.compare.ensures.same

pub returns-in-Some-clause-unknown : goal.returns-in-Some-clause-unknown
returns-in-Some-clause-unknown c = compared_unknown c.args.self.now c.args.question.now c.in-Some.answers.now c.in-Some.ensures c.compare.result c.compare.ensures.known

pub returns-in-Some-clause-stale : goal.returns-in-Some-clause-stale
returns-in-Some-clause-stale c = compared_stale c.args.self.now c.args.question.now c.in-Some.answers.now c.in-Some.ensures c.compare.result c.compare.ensures.stale

pub returns-in-Some-clause-differ : goal.returns-in-Some-clause-differ
returns-in-Some-clause-differ c = compared_differ c.args.self.now c.args.question.now c.in-Some.answers.now c.in-Some.ensures c.compare.result c.compare.ensures.differ

pub returns-in-None-clause-unknown : goal.returns-in-None-clause-unknown
returns-in-None-clause-unknown c = (λ _. not_answered c.args.self.now c.args.question.now c.in-None.ensures, λ _. refl)

pub returns-in-None-clause-differ : goal.returns-in-None-clause-differ
returns-in-None-clause-differ c = λ answers stale. absurd (not_answered c.args.self.now c.args.question.now c.in-None.ensures answers stale.answered)
