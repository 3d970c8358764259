use Rattle.std.proofs.Common.{◌≤◌, ◌+◌, arith}
use Rattle.samza_model.specs.Events.{deliveries_of}
use Rattle.slow_model.proofs.Delivered.{next_past}
use Rattle.slow_model.proofs.tasks.delivery.Goals as goal

pub returns-in_default : goal.returns-in_default
returns-in_default c =
    let p = c.args.input in
    let past : c.args.place.now.end ≤ c.args.place.now.start + deliveries_of p c.args.events.now = omega (arith, c.in_default.ensures, c.deliveries_of.ensures.is) in
    next_past c.args.setup.now c.args.place.now c.args.events.now p c.args.moment past
