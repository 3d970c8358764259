use Rattle.std.proofs.Common.{ap, sym, ◌∙◌, Some, is_some}
use Rattle.std.specs.FinMap as map
use Rattle.std.proofs.lemmas.Result.{err_from_is_err_and}
use Rattle.kv_store.proofs.SlotContent.{counted_before, room_after, counted_after, slots_of-changes, get-slots}
use Rattle.kv_store.proofs.slots.SlotMap.set.Goals as goal

pub returns-in_err-old-clause-absent : goal.returns-in_err-old-clause-absent
returns-in_err-old-clause-absent c =
    let p = err_from_is_err_and c.from_residual.result c.from_residual.ensures.1 in
    rw p.1 (ap is_some (get-slots _ _ c.args.key c.self.view_is ∙ c.in_err-old.ensures.absent))

pub counted-self-inside-requires-clause-room : goal.counted-self-inside-requires-clause-room
counted-self-inside-requires-clause-room c =
    rw (c.is_some-has.ensures, c.has_value-had.ensures, c.len.ensures.len)
    (room_after _ _ c.args.key (Some c.args.slot) _ _ c.in_ok-old.ensures.updates.0 c.in_ok-old.ensures.old c.self.invariant)

pub counted-self-inside-requires-clause-counts : goal.counted-self-inside-requires-clause-counts
counted-self-inside-requires-clause-counts c = λ h.
    counted_before _ _ c.args.key (Some c.args.slot) _ _ c.in_ok-old.ensures.updates.0 c.in_ok-old.ensures.old c.self.invariant (sym c.has_value-had.ensures ∙ h)

pub invariant_of-self-2 : goal.invariant_of-self-2
invariant_of-self-2 c =
    counted_after _ _ c.args.key (Some c.args.slot) _ _ c.in_ok-old.ensures.updates.0 c.in_ok-old.ensures.old c.self.invariant _
    (rw (← c.is_some-has.ensures, ← c.has_value-had.ensures) c.counted-self-inside.ensures)

pub returns-clause-ok : goal.returns-clause-ok
returns-clause-ok c = slots_of-changes _ _ c.args.key (Some c.args.slot) c.in_ok-old.ensures.updates.0 ∙ ap (λ s. map.insert s c.args.key c.args.slot) c.self.view_is

pub returns-clause-had : goal.returns-clause-had
returns-clause-had c = c.in_ok-old.ensures.old ∙ sym (get-slots _ _ c.args.key c.self.view_is)
