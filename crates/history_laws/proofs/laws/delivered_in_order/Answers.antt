use Rattle.history_laws.proofs.Delivering.{delivered_in_order, deliveries_of_one}
use Rattle.history_laws.proofs.laws.delivered_in_order.Goals as goal

pub returns-clause-in_order : goal.returns-clause-in_order
returns-clause-in_order c = delivered_in_order

pub returns-clause-of_one_input : goal.returns-clause-of_one_input
returns-clause-of_one_input c = deliveries_of_one
