use Rattle.std.proofs.Common.{sym, ◌∙◌}
use Rattle.config_values.proofs.Spelled.{units_in_ascii}
use Rattle.config_values.proofs.names.is_system_name.Goals as goal

pub returns-then-is_within-clause-ascii : goal.returns-then-is_within-clause-ascii
returns-then-is_within-clause-ascii c = λ named. units_in_ascii c.args.name.now (sym c.are_name_units.ensures ∙ named)
