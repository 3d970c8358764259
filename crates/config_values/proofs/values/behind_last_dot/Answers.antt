use Rattle.std.proofs.Common.{arith, not, ◌==◌}
use Rattle.std.proofs.lemmas.List.Sums.{suffix_len-le-length}
use Rattle.config_values.proofs.values.behind_last_dot.Goals as goal

pub overflow_sub-text : goal.overflow_sub-text
overflow_sub-text c = omega (arith, c.units_behind_last_dot-behind.ensures, suffix_len-le-length (λ x. not (x == 46)) c.args.text.now)
