use Rattle.std.proofs.Common.{refl}
use Rattle.unit_opening.proofs.opening.read_input.Goals as goal

pub returns-in-Err-Damaged-clause-why : goal.returns-in-Err-Damaged-clause-why
returns-in-Err-Damaged-clause-why g c = (refl, refl, c.in-Err-Damaged.ensures.damaged c.in-Err-Damaged.at c.in-Err-Damaged.field-0-is)

pub returns-in-Err-Damaged-clause-told : goal.returns-in-Err-Damaged-clause-told
returns-in-Err-Damaged-clause-told g c = (refl, refl)
