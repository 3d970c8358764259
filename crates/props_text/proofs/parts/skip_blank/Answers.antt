use Rattle.std.proofs.lemmas.List.Sums.{prefix_len-le-length}
use Rattle.props_text.specs.Lines.{is_white}
use Rattle.props_text.specs.declared.unit.Placed.{Placed}
use Rattle.props_text.proofs.parts.skip_blank.Goals as goal

pub split_at-requires : goal.split_at-requires
split_at-requires c = rw c.blank_len-blank.ensures (prefix_len-le-length (λ (p : Placed). is_white p.unit) c.args.text.now)
