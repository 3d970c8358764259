use Rattle.unit_opening.proofs.Exact.{not_kept_shut}
use Rattle.unit_opening.proofs.laws.open_task_opens_or_says_why.Goals as goal

pub returns : goal.returns
returns g c is_told input_told s image bytes e opens device memory why = not_kept_shut _ _ s image bytes e is_told input_told device memory opens why
