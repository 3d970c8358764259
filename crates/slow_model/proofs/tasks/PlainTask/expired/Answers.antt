use Rattle.std.proofs.Common.{MatchOption, Option, option_and_then}
use Rattle.samza_model.specs.declared.turns.Failure.{Failure}
use Rattle.samza_model.specs.Events.{flights, flight_of}
use Rattle.samza_model.specs.Lawful.{MayExpire}
use Rattle.slow_model.specs.Tasks.{NoExpiry, expiry, given_of}
use Rattle.slow_model.proofs.Delivered.{on_ok_is}
use Rattle.slow_model.proofs.Expired.{expired_is}
use Rattle.slow_model.proofs.tasks.PlainTask.expired.Goals as goal

pub returns : goal.returns
returns g c =
    let s = c.args.self.now.setup in
    let k = given_of (g.J.Job.meaning (g.J.Job.plain c.args.self.now.job)) s c.args.self.now.inputs in
    let events = c.args.events.now in
    on_ok_is c.expiry_at.result (option_and_then (expiry s c.args.now) (flight_of c.args.number (flights s events)))
    (λ (found : Option Failure). MatchOption found (NoExpiry k events c.args.number c.args.now) (MayExpire k events c.args.number)) c.expiry_at.ensures
    (expired_is k events c.args.number c.args.now)
