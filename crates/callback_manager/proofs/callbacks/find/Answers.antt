use Rattle.std.proofs.Common.{sym, arith, rules}
use Rattle.callback_manager.proofs.Kept.{place_at, place_none}
use Rattle.callback_manager.proofs.callbacks.find.Goals as goal

pub returns-then-tickets-i : goal.returns-then-tickets-i
returns-then-tickets-i c = sym (place_at c.args.number c.args.tickets.now c.loop-i.i (omega arith) c.loop-i.invariant (search rules))

pub returns : goal.returns
returns c = sym (place_none c.args.number c.args.tickets.now (λ k lt. c.loop-i.invariant k (omega (arith, lt))))
