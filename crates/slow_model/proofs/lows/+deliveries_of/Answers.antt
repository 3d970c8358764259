use Rattle.std.proofs.Common.{◌+◌, ℕ, true, false, sym, ◌∙◌, ap}
use Rattle.samza_model.specs.Events.{deliveries_of}
use Rattle.slow_model.proofs.Stepped.{at_none, not_delivered_of, delivered_of_on}
use Rattle.slow_model.proofs.lows.+deliveries_of.Goals as goal

pub returns-in_default-clause-is : goal.returns-in_default-clause-is
returns-in_default-clause-is t c = sym (not_delivered_of c.args.input) ∙ at_none (deliveries_of c.args.input) c.args.events.now c.in_default.ensures.cases

pub returns-then-is_delivery_of-clause-is : goal.returns-then-is_delivery_of-clause-is
returns-then-is_delivery_of-clause-is t c =
    ap (λ (n : ℕ). n + 1) c.deliveries_of-before.ensures.is
    ∙ delivered_of_on c.args.input c.args.events.now c.in-Some.older.now c.in-Some.event.now true c.in-Some.ensures.cases.0 c.if-is_delivery_of.ensures

pub returns-clause-is : goal.returns-clause-is
returns-clause-is t c =
    c.deliveries_of-before.ensures.is
    ∙ delivered_of_on c.args.input c.args.events.now c.in-Some.older.now c.in-Some.event.now false c.in-Some.ensures.cases.0 c.if-is_delivery_of.ensures
