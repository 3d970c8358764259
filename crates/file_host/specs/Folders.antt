-- What a host of real files says of itself.
use Rattle.std.specs.Prelude.{ℕ, List, Option}
use Rattle.disk_model.specs.declared.names.DiskName.{DiskName}
use Rattle.file_host.specs.Entered.{entered_word}
use Rattle.disk_model.specs.HandedOut.{disks_of, shelves_of}
use Rattle.file_host.specs.declared.causes.Cause.{Cause}
use Rattle.file_host.specs.declared.folders.FileHost.{FileHost}

module _ {R D : Type 0} where
  abbrev pub folder_disks_out : FileHost R D → DiskName → ℕ
  folder_disks_out h = disks_of h.handed

  abbrev pub folder_shelves_out : FileHost R D → DiskName → ℕ
  folder_shelves_out h = shelves_of h.handed

  abbrev pub folder_faults : FileHost R D → ℕ
  folder_faults h = h.failures.count

  -- the word of the last call of `enter` that went well
  abbrev pub folder_entered : FileHost R D → Option (List ℕ)
  folder_entered h = entered_word h.entered

  -- the first failure of a device that the host came to know, if there was one
  abbrev pub folder_cause : FileHost R D → Option Cause
  folder_cause h = h.failures.first
