use Rattle.std.proofs.Common.{◌∙◌}
use Rattle.core_steps.proofs.Laws.{got}
use Rattle.core_parts.proofs.holdings.Holdings.get.Goals as goal

pub returns-in-Ok : goal.returns-in-Ok
returns-in-Ok c = c.in-Ok.ensures ∙ got c.args.self.now c.args.store c.args.key.now c.requires
