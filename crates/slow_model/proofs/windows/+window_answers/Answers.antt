use Rattle.std.proofs.Common.{sym, ◌∙◌, ap}
use Rattle.samza_model.specs.Events.{window_answers}
use Rattle.slow_model.specs.Steps.{window_answered}
use Rattle.slow_model.proofs.Stepped.{at_none, not_answered, answered_on}
use Rattle.slow_model.proofs.windows.+window_answers.Goals as goal

pub returns-in_default : goal.returns-in_default
returns-in_default t c = c.new.ensures.items ∙ sym not_answered ∙ at_none window_answers c.args.events.now c.in_default.ensures.cases

pub returns : goal.returns
returns t c =
    let e = c.in-Some.event.now in
    c.in_ok-answer_window.ensures ∙ ap (window_answered e) c.in_ok-answers.ensures ∙ answered_on c.args.events.now c.in-Some.older.now e c.in-Some.ensures.cases.0
