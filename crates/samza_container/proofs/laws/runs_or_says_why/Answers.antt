use Rattle.samza_container.proofs.Exact.{not_stopped}
use Rattle.samza_container.proofs.laws.runs_or_says_why.Goals as goal

pub returns : goal.returns
returns c = not_stopped
