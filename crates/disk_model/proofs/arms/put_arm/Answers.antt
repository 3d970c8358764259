use Rattle.std.proofs.Common.{◌≡◌, ◌∙◌, List, Some, None, ap, sym, rules}
use Rattle.std.specs.Vec.{with_items}
use Rattle.disk_model.proofs.Lending.{Holds, adds, puts}
use Rattle.disk_model.specs.Slots.{held_in, outs_in, slot_at}
use Rattle.disk_model.specs.declared.arms.Failing.{Failing}
use Rattle.disk_model.specs.declared.slots.Slot.{Slot}
use Rattle.disk_model.proofs.arms.put_arm.Goals as goal
use Rattle.disk_model.proofs.arms.put_arm.Goals.{After-put_held, In_ok-push}

held_now : (c : After-put_held) → Holds c.args.name.now (Some c.args.failing) c.args.arms.now.items (with_items c.args.arms.now c.put_held.new.slots).items
held_now c =
    let v = c.args.arms.now in
    let n = c.args.name.now in
    let xs = c.as_mut_slice.result.now in
    let is : xs ≡ v.items = c.as_mut_slice.ensures.value in
    let same : c.as_slice.result.now ≡ xs = c.as_slice.ensures.value ∙ sym is in
    puts v xs c.put_held.new.slots n is (search rules) c.args.failing c.put_held.ensures.changed
    (λ none. c.has_slot.ensures.there c.if-has_slot.true (ap (λ (l : List (Slot Failing)). slot_at l n) same ∙ none))

added : (c : In_ok-push) → Holds c.args.name.now (Some c.args.failing) c.args.arms.now.items c.push.new.self.items
added c =
    let v = c.args.arms.now in
    let n = c.args.name.now in
    let none : slot_at v.items n ≡ None = ap (λ (l : List (Slot Failing)). slot_at l n) (sym c.as_slice.ensures.value) ∙ c.has_slot.ensures.none c.if-has_slot.false in
    (adds v.items _ n c.in_ok-name.name c.args.failing c.in_ok-push.ensures.items (ap held_in none) (ap outs_in none) c.in_ok-name.ensures).holds

pub returns-then-has_slot-clause-said : goal.returns-then-has_slot-clause-said
returns-then-has_slot-clause-said c = (held_now (goal.at.returns-then-has_slot-clause-said c).After-put_held).here

pub returns-then-has_slot-clause-elsewhere : goal.returns-then-has_slot-clause-elsewhere
returns-then-has_slot-clause-elsewhere c = (held_now (goal.at.returns-then-has_slot-clause-elsewhere c).After-put_held).elsewhere

pub returns-clause-said : goal.returns-clause-said
returns-clause-said c = (added (goal.at.returns-clause-said c).In_ok-push).here

pub returns-clause-elsewhere : goal.returns-clause-elsewhere
returns-clause-elsewhere c = (added (goal.at.returns-clause-elsewhere c).In_ok-push).elsewhere
