use Rattle.std.proofs.Common.{◌∙◌, sym}
use Rattle.task_core.proofs.Marking.{marks_now}
use Rattle.task_core.proofs.cores.Core.plan.Goals as goal

pub returns-in_ok-plan-in-None-clause-marks : goal.returns-in_ok-plan-in-None-clause-marks
returns-in_ok-plan-in-None-clause-marks c = marks_now c.args.self.now c.args.lens.now c.in_ok-plan-in-None.plan c.in_ok-plan-in-None.ensures (sym c.commit_refusal.ensures ∙ c.in-None.is)
