-- Why a device failed first.
use Rattle.std.specs.Prelude.{Option}
use Rattle.std.specs.Option.{option_map}
use Rattle.disk_model.specs.declared.names.DiskName.{DiskName}
use Rattle.file_host.specs.declared.causes.Cause.{Cause}
use Rattle.file_host.specs.declared.causes.Failure.{Failure}
use Rattle.file_host.specs.declared.causes.Place.TheVariants.{File}
use Rattle.file_host.specs.declared.disks.FileDisk.{FileDisk}
use Rattle.file_host.specs.declared.shelves.FileShelf.{FileShelf}

-- the failed call of a disk or of a shelf, with the file of its disk
abbrev pub cause_of : DiskName → Failure → Cause
cause_of name failure = record { call = failure.call; place = File name failure.file; error = failure.error }

-- why a disk's first failed call failed, if one did
abbrev pub disk_cause : {R D : Type 0} → FileDisk R D → Option Cause
disk_cause d = option_map (cause_of d.name) d.failures.first

-- the same of a shelf
abbrev pub shelf_cause : FileShelf → Option Cause
shelf_cause s = option_map (cause_of s.name) s.failures.first
