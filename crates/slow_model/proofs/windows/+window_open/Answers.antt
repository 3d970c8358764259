use Rattle.std.proofs.Common.{sym, ◌∙◌, ap}
use Rattle.samza_model.specs.Events.{window_open}
use Rattle.slow_model.specs.Steps.{opened}
use Rattle.slow_model.proofs.Stepped.{at_none, not_open, opened_on}
use Rattle.slow_model.proofs.windows.+window_open.Goals as goal

pub returns-in_default : goal.returns-in_default
returns-in_default t c = sym not_open ∙ at_none window_open c.args.events.now c.in_default.ensures.cases

pub returns : goal.returns
returns t c =
    let e = c.in-Some.event.now in
    c.opened.ensures ∙ ap (opened e) c.window_open.ensures ∙ opened_on c.args.events.now c.in-Some.older.now e c.in-Some.ensures.cases.0
