use Rattle.unit_opening.proofs.OneCause.{one_cause}
use Rattle.unit_opening.proofs.laws.opens_with_one_cause.Goals as goal

pub returns : goal.returns
returns c s image bytes e e' device memory device' memory' why why' = one_cause (Unit {0}) (Unit {0}) s image bytes e e' tt tt device memory device' memory' why why'
