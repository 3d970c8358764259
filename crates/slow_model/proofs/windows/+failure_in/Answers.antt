use Rattle.std.proofs.Common.{sym, ◌∙◌}
use Rattle.samza_model.specs.Events.{first_failure}
use Rattle.slow_model.proofs.Stepped.{at_none, no_failure, failed_before, failed_now}
use Rattle.slow_model.proofs.windows.+failure_in.Goals as goal

pub returns-in_default : goal.returns-in_default
returns-in_default t c = sym no_failure ∙ at_none first_failure c.args.events.now c.in_default.ensures.cases

pub returns-in-Some-failure_in : goal.returns-in-Some-failure_in
returns-in-Some-failure_in t c =
    failed_before c.args.events.now c.in-Some.older.now c.in-Some.event.now c.in-Some-failure_in.first c.in-Some.ensures.cases.0 (sym c.failure_in.ensures ∙ c.in-Some-failure_in.is)

pub returns-in-None : goal.returns-in-None
returns-in-None t c =
    c.failure_at.ensures
    ∙ failed_now c.args.events.now c.in-Some.older.now c.in-Some.event.now c.in-Some.ensures.cases.0 (sym c.failure_in.ensures ∙ c.in-None.is)
