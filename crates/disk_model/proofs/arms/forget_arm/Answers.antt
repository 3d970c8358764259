use Rattle.std.proofs.Common.{rules}
use Rattle.std.specs.Vec.{with_items}
use Rattle.disk_model.proofs.Lending.{Lent, lends}
use Rattle.disk_model.proofs.arms.forget_arm.Goals as goal
use Rattle.disk_model.proofs.arms.forget_arm.Goals.{After-take_held-failing}

lent : (c : After-take_held-failing) → Lent c.args.name.now c.args.arms.now.items (with_items c.args.arms.now c.take_held-failing.new.slots).items
lent c =
    let e = c.take_held-failing.ensures in
    lends c.args.arms.now c.as_mut_slice.result.now c.take_held-failing.new.slots c.args.name.now c.as_mut_slice.ensures.value (search rules) e.changed e.none

pub returns-clause-forgotten : goal.returns-clause-forgotten
returns-clause-forgotten c = (lent (goal.at.returns-clause-forgotten c).After-take_held-failing).holds.here

pub returns-clause-elsewhere : goal.returns-clause-elsewhere
returns-clause-elsewhere c = (lent (goal.at.returns-clause-elsewhere c).After-take_held-failing).holds.elsewhere
