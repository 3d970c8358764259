use Rattle.std.proofs.Common.{◌==◌, length, sym, arith, eq-eqb}
use Rattle.std.proofs.lemmas.List.Sums.{position_or_len_is}
use Rattle.checkpoint_log.proofs.names.first_dot.Goals as goal

pub returns-then-c-eq46-clause-at : goal.returns-then-c-eq46-clause-at
returns-then-c-eq46-clause-at c = sym (position_or_len_is (λ x. x == 46) c.args.name.now c.loop-dot.dot 0 (omega arith) c.loop-dot.invariant (λ lt. eq-eqb _ 46 c.if-c-eq46.true))

pub returns-clause-at : goal.returns-clause-at
returns-clause-at c = sym (position_or_len_is (λ x. x == 46) c.args.name.now (length c.args.name.now) 0 (omega arith) (λ k lt. c.loop-dot.invariant k (omega arith)) (λ lt. absurd (omega arith)))
