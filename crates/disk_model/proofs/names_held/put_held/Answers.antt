use Rattle.std.proofs.Common.{refl}
use Rattle.disk_model.proofs.Places.{changes, has_place, none_changes}
use Rattle.disk_model.proofs.names_held.put_held.Goals as goal

pub returns-in-Some-clause-changed : goal.returns-in-Some-clause-changed
returns-in-Some-clause-changed g c = changes _ _ _ c.index-slots-place.result _ _ c.in-Some.ensures refl

pub returns-in-Some-clause-none : goal.returns-in-Some-clause-none
returns-in-Some-clause-none g c none =
    absurd (has_place _ _ _ c.in-Some.ensures none)

pub returns-in_default-clause-changed : goal.returns-in_default-clause-changed
returns-in_default-clause-changed g c = none_changes _ _ _ c.in_default.ensures

pub returns-in_default-clause-none : goal.returns-in_default-clause-none
returns-in_default-clause-none g c none = refl
