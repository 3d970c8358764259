use Rattle.disk_model.proofs.Places.{changes, none_changes}
use Rattle.disk_model.proofs.names_held.one_in.Goals as goal

pub returns-in-Some : goal.returns-in-Some
returns-in-Some g c = record {
  changed = changes _ _ _ c.index-slots-place.result _ _ c.in-Some.ensures (cc);
}

pub returns-in_default : goal.returns-in_default
returns-in_default g c = record { changed = none_changes _ _ _ c.in_default.ensures }
