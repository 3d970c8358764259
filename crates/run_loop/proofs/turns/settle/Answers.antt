use Rattle.std.proofs.lemmas.Result.{on_ok_weaker}
use Rattle.run_loop.proofs.Standing.{left_marked}
use Rattle.run_loop.proofs.turns.settle.Goals as goal

pub returns-then-setup-clause-left : goal.returns-then-setup-clause-left
returns-then-setup-clause-left g c =
    on_ok_weaker c.commit.result (left_marked c.args.unit.now c.commit.new.unit c.commit.ensures.runs.same) c.commit.ensures.marked
