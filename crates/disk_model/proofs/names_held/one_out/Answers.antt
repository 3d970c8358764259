use Rattle.std.proofs.Common.{refl, ap, inl, inr, ◌∙◌}
use Rattle.std.proofs.lemmas.List.{set-get_or}
use Rattle.disk_model.proofs.Places.{changes, found, has_place}
use Rattle.disk_model.specs.Slots.{shelves_in}
use Rattle.disk_model.proofs.names_held.one_out.Goals as goal

pub returns-in_default-clause-changed : goal.returns-in_default-clause-changed
returns-in_default-clause-changed g c e = cc

pub returns-in_default-clause-there : goal.returns-in_default-clause-there
returns-in_default-clause-there g c e = cc

pub returns-in_default-clause-cause : goal.returns-in_default-clause-cause
returns-in_default-clause-cause g c _ = inl c.in_default.ensures

pub returns-then-slot-clause-changed : goal.returns-then-slot-clause-changed
returns-then-slot-clause-changed g c e = cc

pub returns-then-slot-clause-there : goal.returns-then-slot-clause-there
returns-then-slot-clause-there g c e = cc

pub returns-then-slot-clause-refused : goal.returns-then-slot-clause-refused
returns-then-slot-clause-refused g c _ = set-get_or _ _ _

pub returns-then-slot-clause-cause : goal.returns-then-slot-clause-cause
returns-then-slot-clause-cause g c _ =
    let there = found _ _ _ c.index-slots-place.result c.in-Some.ensures in
    inr (ap shelves_in there ∙ c.if-slot.true)

pub returns-clause-changed : goal.returns-clause-changed
returns-clause-changed g c _ = changes _ _ _ c.index-slots-place.result _ _ c.in-Some.ensures refl

pub returns-clause-there : goal.returns-clause-there
returns-clause-there g c _ = has_place _ _ _ c.in-Some.ensures

pub returns-clause-refused : goal.returns-clause-refused
returns-clause-refused g c e = cc

pub returns-clause-cause : goal.returns-clause-cause
returns-clause-cause g c e = cc
