use Rattle.samza_container.proofs.Exact.{ended_or_fails}
use Rattle.samza_container.proofs.laws.ended_runs_never_fail.Goals as goal

pub returns : goal.returns
returns c = λ job s input before after t r f one alone untimed finished at_end fails. ended_or_fails job s input before one alone untimed f fails after t r finished at_end
