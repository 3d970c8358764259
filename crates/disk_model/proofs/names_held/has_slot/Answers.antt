use Rattle.disk_model.proofs.Places.{has_place}
use Rattle.disk_model.proofs.names_held.has_slot.Goals as goal

pub returns-in-Some-clause-there : goal.returns-in-Some-clause-there
returns-in-Some-clause-there g c _ = has_place _ _ _ c.in-Some.ensures

pub returns-in-Some-clause-none : goal.returns-in-Some-clause-none
returns-in-Some-clause-none g c e = cc

pub returns-in-None-clause-there : goal.returns-in-None-clause-there
returns-in-None-clause-there g c e = cc

pub returns-in-None-clause-none : goal.returns-in-None-clause-none
returns-in-None-clause-none g c _ = c.in-None.ensures
