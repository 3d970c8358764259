use Rattle.std.proofs.Common.{true, false, ◌∙◌}
use Rattle.samza_model.specs.Requests.{is_asked}
use Rattle.slow_model.proofs.Kept.{asked_on}
use Rattle.slow_model.proofs.Stepped.{at_none}
use Rattle.slow_model.proofs.requests.+is_asked.Goals as goal

pub returns-in_default : goal.returns-in_default
returns-in_default t c = at_none is_asked c.args.events.now c.in_default.ensures.cases

pub returns-then-asks_commit : goal.returns-then-asks_commit
returns-then-asks_commit t c = asked_on c.args.events.now c.in-Some.older.now c.in-Some.event.now true c.in-Some.ensures.cases.0 c.if-asks_commit.ensures

pub returns : goal.returns
returns t c = c.is_asked.ensures ∙ asked_on c.args.events.now c.in-Some.older.now c.in-Some.event.now false c.in-Some.ensures.cases.0 c.if-asks_commit.ensures
