use Rattle.std.proofs.Common.{◌+◌, ℕ, true, false, sym, ◌∙◌, ap}
use Rattle.samza_model.specs.Events.{deliveries}
use Rattle.slow_model.proofs.Stepped.{at_none, not_delivered, delivered_on}
use Rattle.slow_model.proofs.lows.+deliveries.Goals as goal

pub returns-in_default-clause-is : goal.returns-in_default-clause-is
returns-in_default-clause-is t c = sym not_delivered ∙ at_none deliveries c.args.events.now c.in_default.ensures.cases

pub returns-then-is_delivery-clause-is : goal.returns-then-is_delivery-clause-is
returns-then-is_delivery-clause-is t c =
    ap (λ (n : ℕ). n + 1) c.deliveries-before.ensures.is
    ∙ delivered_on c.args.events.now c.in-Some.older.now c.in-Some.event.now true c.in-Some.ensures.cases.0 c.if-is_delivery.ensures

pub returns-clause-is : goal.returns-clause-is
returns-clause-is t c =
    c.deliveries-before.ensures.is
    ∙ delivered_on c.args.events.now c.in-Some.older.now c.in-Some.event.now false c.in-Some.ensures.cases.0 c.if-is_delivery.ensures
