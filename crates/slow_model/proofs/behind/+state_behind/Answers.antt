use Rattle.std.proofs.Common.{sym, ◌∙◌, ap}
use Rattle.samza_model.specs.Events.{state_after}
use Rattle.slow_model.specs.Steps.{acted}
use Rattle.slow_model.proofs.Stepped.{at_none, no_acts, acted_on}
use Rattle.slow_model.proofs.behind.+state_behind.Goals as goal

pub returns-in_default : goal.returns-in_default
returns-in_default t c =
    let s = c.args.state in
    sym (no_acts s) ∙ at_none (state_after s) c.args.events.now c.in_default.ensures.cases

pub returns : goal.returns
returns t c =
    let s = c.args.state in
    let e = c.in-Some.event.now in
    c.in_ok-make_act.ensures ∙ ap (acted e) c.in_ok-behind.ensures ∙ acted_on s c.args.events.now c.in-Some.older.now e c.in-Some.ensures.cases.0
