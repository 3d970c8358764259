use Rattle.std.proofs.Common.{ap, ◌∙◌}
use Rattle.samza_model.specs.Journals.{uncovered_by}
use Rattle.slow_model.specs.Steps.{listed, lows_from}
use Rattle.slow_model.proofs.Kept.{listed_on, none_listed}
use Rattle.slow_model.proofs.Stepped.{at_none}
use Rattle.slow_model.proofs.journals.+uncovered.Goals as goal

pub returns-in_default : goal.returns-in_default
returns-in_default t c =
    let lows = lows_from c.args.setup.now c.args.starts.now c.args.all.now in
    c.new.ensures.items ∙ none_listed lows ∙ at_none (uncovered_by lows) c.args.events.now c.in_default.ensures.cases

pub returns : goal.returns
returns t c =
    let lows = lows_from c.args.setup.now c.args.starts.now c.args.all.now in
    let e = c.in-Some.event.now in
    c.in_ok-list.ensures ∙ ap (listed lows e) c.in_ok-numbers.ensures ∙ listed_on lows c.args.events.now c.in-Some.older.now e c.in-Some.ensures.cases.0
