use Rattle.std.specs.Option.{option_copied}
use Rattle.task_core.proofs.Asked.{of_call}
use Rattle.task_core.proofs.cores.Core.true_answers.Goals as goal

pub returns-in-Call : goal.returns-in-Call
returns-in-Call c = of_call c.args.self.now c.args.question.now c.in-Call.number (option_copied c.call_answers.result) c.in-Call.is c.call_answers.ensures
