use Rattle.std.proofs.lemmas.List.Sums.{prefix_len-le-length}
use Rattle.config_values.specs.Numbers.{is_blank}
use Rattle.config_values.proofs.numbers.without_leading.Goals as goal

pub split_at-requires : goal.split_at-requires
split_at-requires c = rw c.leading_blanks-blanks.ensures (prefix_len-le-length is_blank c.args.text.now)
