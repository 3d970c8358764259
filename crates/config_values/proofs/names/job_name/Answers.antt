use Rattle.std.proofs.Common.{sym, ◌∙◌}
use Rattle.config_values.proofs.Spelled.{job_in_ascii}
use Rattle.config_values.proofs.names.job_name.Goals as goal

pub bytes_of-requires : goal.bytes_of-requires
bytes_of-requires c = job_in_ascii c.in-Some.text.now (sym c.is_job_name.ensures ∙ c.if-is_job_name.true)
