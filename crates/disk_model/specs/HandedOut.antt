-- What a host holds by name, and what of it is out.
use Rattle.std.specs.Prelude.{ℕ, Option}
use Rattle.disk_model.specs.Slots.{held_in, outs_in, shelves_in, slot_at}
use Rattle.disk_model.specs.declared.handed_out.HandedOut.{HandedOut}
use Rattle.disk_model.specs.declared.names.DiskName.{DiskName}

module _ {T : Type 0} where
  -- what is held of a name, if there is something and it isn't out
  abbrev pub held_under : HandedOut T → DiskName → Option T
  held_under h n = held_in (slot_at h.slots.items n)

  -- how many disks of a name are out
  abbrev pub disks_of : HandedOut T → DiskName → ℕ
  disks_of h n = outs_in (slot_at h.slots.items n)

  -- how many shelves of the disk of a name are out
  abbrev pub shelves_of : HandedOut T → DiskName → ℕ
  shelves_of h n = shelves_in (slot_at h.slots.items n)
