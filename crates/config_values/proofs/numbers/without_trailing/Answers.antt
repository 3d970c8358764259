use Rattle.std.proofs.Common.{reverse, arith}
use Rattle.std.proofs.lemmas.List.{length-reverse}
use Rattle.std.proofs.lemmas.List.Sums.{prefix_len-le-length}
use Rattle.config_values.specs.Numbers.{is_blank}
use Rattle.config_values.proofs.numbers.without_trailing.Goals as goal

pub overflow_sub-text : goal.overflow_sub-text
overflow_sub-text c = omega (arith, c.trailing_blanks-blanks.ensures, prefix_len-le-length is_blank (reverse c.args.text.now), length-reverse c.args.text.now)
