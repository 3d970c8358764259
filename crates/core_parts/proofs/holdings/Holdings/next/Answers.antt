use Rattle.std.proofs.Common.{◌∙◌}
use Rattle.core_steps.proofs.Laws.{got_next}
use Rattle.core_parts.proofs.holdings.Holdings.next.Goals as goal

pub returns-in-Ok : goal.returns-in-Ok
returns-in-Ok c = c.in-Ok.ensures ∙ got_next c.args.self.now c.args.store c.args.key.now c.requires
