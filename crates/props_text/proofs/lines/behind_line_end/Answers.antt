use Rattle.std.proofs.Common.{arith}
use Rattle.props_text.proofs.Ends.{natural_lines-behind, line_end_len-bounds}
use Rattle.props_text.proofs.lines.behind_line_end.Goals as goal

pub split_at-requires : goal.split_at-requires
split_at-requires c = omega (arith, c.line_end_len-len.ensures, line_end_len-bounds c.args.text.now c.requires)

pub returns : goal.returns
returns c = record {
  lines = rw (c.split_at.ensures.back, c.line_end_len-len.ensures) (natural_lines-behind c.args.text.now c.requires);
  shorter = omega (arith, c.split_at.ensures.back_len, c.line_end_len-len.ensures, line_end_len-bounds c.args.text.now c.requires);
}
