use Rattle.unit_opening.proofs.OneCause.{one_cause}
use Rattle.unit_opening.proofs.laws.open_task_opens_with_one_cause.Goals as goal

pub returns : goal.returns
returns g c shown read s image bytes e e' device memory device' memory' why why' = one_cause _ _ s image bytes e e' shown read device memory device' memory' why why'
