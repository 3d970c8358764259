use Rattle.std.proofs.Common.{ap, sym, ◌∙◌, None}
use Rattle.std.specs.FinMap as map
use Rattle.kv_store.proofs.SlotContent.{counted_before, room_after, counted_after, slots_of-changes}
use Rattle.kv_store.proofs.slots.SlotMap.take.Goals as goal

pub counted-self-inside-requires-clause-room : goal.counted-self-inside-requires-clause-room
counted-self-inside-requires-clause-room c =
    rw (c.has_value-had.ensures, c.len.ensures.len) (room_after _ _ c.args.key.now None _ _ c.remove-old.ensures.updates.0 c.remove-old.ensures.value c.self.invariant)

pub counted-self-inside-requires-clause-counts : goal.counted-self-inside-requires-clause-counts
counted-self-inside-requires-clause-counts c = λ h.
    counted_before _ _ c.args.key.now None _ _ c.remove-old.ensures.updates.0 c.remove-old.ensures.value c.self.invariant (sym c.has_value-had.ensures ∙ h)

pub invariant_of-self : goal.invariant_of-self
invariant_of-self c =
    counted_after _ _ c.args.key.now None _ _ c.remove-old.ensures.updates.0 c.remove-old.ensures.value c.self.invariant _
    (rw (← c.has_value-had.ensures) c.counted-self-inside.ensures)

pub returns : goal.returns
returns c = slots_of-changes _ _ c.args.key.now None c.remove-old.ensures.updates.0 ∙ ap (λ s. map.remove s c.args.key.now) c.self.view_is
