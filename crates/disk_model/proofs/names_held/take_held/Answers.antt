use Rattle.std.proofs.Common.{refl, sym, ap, ◌∙◌}
use Rattle.disk_model.proofs.Places.{changes, found, has_place, none_changes}
use Rattle.disk_model.specs.Slots.{held_in}
use Rattle.disk_model.proofs.names_held.take_held.Goals as goal

pub returns-in_err-place-clause-value : goal.returns-in_err-place-clause-value
returns-in_err-place-clause-value g c = c.from_residual.ensures ∙ ap held_in (sym c.in_err-place.ensures)

pub returns-in_err-place-clause-changed : goal.returns-in_err-place-clause-changed
returns-in_err-place-clause-changed g c = none_changes _ _ _ c.in_err-place.ensures

pub returns-in_err-place-clause-none : goal.returns-in_err-place-clause-none
returns-in_err-place-clause-none g c none = refl

pub returns-clause-value : goal.returns-clause-value
returns-clause-value g c =
    let there = found _ _ _ c.index-slots-place.result c.in_ok-place.ensures in
    c.take.ensures.value ∙ ap held_in (sym there)

pub returns-clause-changed : goal.returns-clause-changed
returns-clause-changed g c = changes _ _ _ c.index-slots-place.result _ _ c.in_ok-place.ensures (cc)

pub returns-clause-none : goal.returns-clause-none
returns-clause-none g c none =
    absurd (has_place _ _ _ c.in_ok-place.ensures none)
