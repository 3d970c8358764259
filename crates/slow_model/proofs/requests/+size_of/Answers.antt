use Rattle.std.proofs.Common.{ap, ◌∙◌}
use Rattle.samza_model.specs.Requests.{size_of}
use Rattle.slow_model.specs.Steps.{capped}
use Rattle.slow_model.proofs.Kept.{sized_on}
use Rattle.slow_model.proofs.Stepped.{at_none}
use Rattle.slow_model.proofs.requests.+size_of.Goals as goal

pub returns-in_default : goal.returns-in_default
returns-in_default t c = ap capped (at_none size_of c.args.events.now c.in_default.ensures.cases)

pub returns : goal.returns
returns t c =
    c.saturating_add.ensures
    ∙ sized_on c.args.events.now c.in-Some.older.now c.in-Some.event.now c.size_of.result c.event_size.result c.in-Some.ensures.cases.0 c.size_of.ensures c.event_size.ensures
