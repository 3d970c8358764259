use Rattle.std.proofs.Common.{arith, sym, ◌∙◌}
use Rattle.props_text.proofs.Keys.{key_len-stops, key_len-more, key_len-end}
use Rattle.props_text.proofs.parts.key_len.Goals as goal

pub returns-then-ends_key-clause-value : goal.returns-then-ends_key-clause-value
returns-then-ends_key-clause-value c = key_len-stops c.loop-i.escaped c.args.line.now c.loop-i.i _ (record { unit = 0; line = 0 }) (omega arith) (sym c.ends_key.ensures ∙ c.if-ends_key.true) c.loop-i.invariant

pub loop-i-preserved : goal.loop-i-preserved
loop-i-preserved c = key_len-more c.loop-i.escaped c.escapes_next-escaped.result c.args.line.now c.loop-i.i _ (record { unit = 0; line = 0 }) (omega arith) (sym c.ends_key.ensures ∙ c.if-ends_key.false) c.escapes_next-escaped.ensures c.loop-i.invariant

pub returns-clause-value : goal.returns-clause-value
returns-clause-value c = let done = key_len-end c.loop-i.escaped c.args.line.now c.loop-i.i _ (omega arith) c.loop-i.invariant in omega (arith, done)
