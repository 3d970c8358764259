use Rattle.std.proofs.Common.{◌∙◌, ap}
use Rattle.samza_model.specs.Events.{flight_of}
use Rattle.task_core.proofs.Asked.{one_number}
use Rattle.task_core.proofs.cores.Core.make.Goals as goal

pub returns-in-Call-clause-applied : goal.returns-in-Call-clause-applied
returns-in-Call-clause-applied c = λ n f turn flies. c.act_on.ensures.applied f (ap (λ m. flight_of m c.args.self.now.callbacks.flights) (one_number c.args.question.now.turn c.in-Call.number n c.in-Call.is turn) ∙ flies)

pub returns-in-Window-clause-window_applied : goal.returns-in-Window-clause-window_applied
returns-in-Window-clause-window_applied c = λ answers turn opened. c.window_act_on.ensures.applied answers opened
