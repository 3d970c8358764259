-- What the code reads and writes at the place of a name.
use Rattle.std.proofs.Common.{ℕ, ◌≡◌, List, [], ◌∷◌, get_or, None, Some, slice_set, arith, sym, ap, ◌∙◌}
use Rattle.std.proofs.lemmas.Option.{slice_get-get_or}
use Rattle.disk_model.specs.Slots.{ChangesSlot, IsPlace, put_slot, slot_at}
use Rattle.disk_model.specs.declared.names.DiskName.{DiskName}
use Rattle.disk_model.specs.declared.slots.Slot.{Slot}

module _ {T : Type 0} where
  pub found : (slots : List (Slot T)) (n : DiskName) (i : ℕ) (d : Slot T) → IsPlace slots n i → slot_at slots n ≡ Some (get_or slots i d)
  found slots n i d place = sym place.here ∙ slice_get-get_or slots i d place.within

  -- what is written at the place of a name changes that name's slot
  pub changes : (slots : List (Slot T)) (n : DiskName) (i : ℕ) (d t : Slot T) (change : Slot T → Slot T) → IsPlace slots n i → t ≡ change (get_or slots i d) → ChangesSlot n change slots (slice_set slots i t)
  changes slots n i d t change place is s there =
      let both : Some (get_or slots i d) ≡ Some s = sym (found slots n i d place) ∙ there in
      let same : get_or slots i d ≡ s = cc in
      place.put t ∙ ap (put_slot slots n) (is ∙ ap change same)

  -- a name with a place has a slot
  pub has_place : (slots : List (Slot T)) (n : DiskName) (i : ℕ) → IsPlace slots n i → slot_at slots n ≡ None → ⊥
  has_place [] n i place none = omega (arith, place.within)
  has_place (s ∷ ss) n i place none = let e : None ≡ Some (get_or (s ∷ ss) i s) = sym none ∙ found (s ∷ ss) n i s place in cc

  pub none_changes : (slots : List (Slot T)) (n : DiskName) (change : Slot T → Slot T) → slot_at slots n ≡ None → ChangesSlot n change slots slots
  none_changes slots n change none s there = let e : None ≡ Some s = sym none ∙ there in cc
