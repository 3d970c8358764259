use Rattle.std.proofs.lemmas.List.Sums.{prefix_len-le-length}
use Rattle.props_text.specs.Lines.{is_white}
use Rattle.props_text.proofs.lines.skip_white.Goals as goal

pub split_at-requires : goal.split_at-requires
split_at-requires c = rw c.white_len-white.ensures (prefix_len-le-length is_white c.args.line.now)
