use Rattle.std.proofs.Common.{sym, ◌∙◌, ap}
use Rattle.samza_model.specs.Events.{flights}
use Rattle.slow_model.specs.Steps.{flown}
use Rattle.slow_model.proofs.Stepped.{at_none, no_flights, flown_on}
use Rattle.slow_model.proofs.flights.+flights_of.Goals as goal

pub returns-in_default : goal.returns-in_default
returns-in_default t c =
    let s = c.args.setup.now in
    c.new.ensures.items ∙ sym (no_flights s) ∙ at_none (flights s) c.args.events.now c.in_default.ensures.cases

pub returns : goal.returns
returns t c =
    let s = c.args.setup.now in
    let e = c.in-Some.event.now in
    c.in_ok-fly.ensures ∙ ap (flown s e) c.in_ok-made.ensures ∙ flown_on s c.args.events.now c.in-Some.older.now e c.in-Some.ensures.cases.0
