use Rattle.unit_opening.proofs.Exact.{not_kept_shut}
use Rattle.unit_opening.proofs.laws.opens_or_says_why.Goals as goal

pub returns : goal.returns
returns c s image bytes e opens device memory why = not_kept_shut (Unit {0}) (Unit {0}) s image bytes e tt tt device memory opens why
