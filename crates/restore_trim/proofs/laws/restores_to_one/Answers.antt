use Rattle.restore_trim.proofs.Exact.{restores_one}
use Rattle.restore_trim.proofs.laws.restores_to_one.Goals as goal

pub returns : goal.returns
returns c = restores_one
