use Rattle.std.proofs.Common.{sym, ◌∙◌}
use Rattle.run_loop.proofs.Standing.{ended}
use Rattle.run_loop.proofs.turns.finish.Goals as goal

pub returns-in-Ok-2-clause-stop : goal.returns-in-Ok-2-clause-stop
returns-in-Ok-2-clause-stop g c =
    ended c.args.unit.now c.commit.new.unit c.commit.ensures.runs.same c.in-Ok.ensures.marked c.requires.idle (sym c.requires.asked ∙ c.if-asked.false) (c.requires.ended c.if-asked.false)
