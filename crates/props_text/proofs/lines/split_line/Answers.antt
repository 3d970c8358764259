use Rattle.std.proofs.Common.{arith, sym, ◌∙◌}
use Rattle.props_text.proofs.Ends.{in_front-none, split_more, split_end}
use Rattle.props_text.proofs.lines.split_line.Goals as goal

pub loop-i-init : goal.loop-i-init
loop-i-init c = in_front-none c.args.text.now

pub loop-i-preserved : goal.loop-i-preserved
loop-i-preserved c = split_more c.args.text.now c.loop-i.i (omega arith) (sym c.is_line_end.ensures ∙ c.if-is_line_end.false) c.loop-i.invariant

pub returns-clause-lines : goal.returns-clause-lines
returns-clause-lines c = split_end c.args.text.now c.loop-i.i (omega arith) c.loop-i.invariant
