-- The meanings of a shelf in memory.
use Rattle.std.specs.Prelude.{ℕ, Bool, List}
use Rattle.disk_model.specs.Tallies.{SameFailing, tally_fails}
use Rattle.disk_model.specs.declared.memory_shelf.MemShelf.{MemShelf}
use Rattle.disk_model.specs.declared.names.DiskName.{DiskName}

abbrev pub shelf_name : MemShelf → DiskName
shelf_name s = s.name

abbrev pub shelf_file : MemShelf → ℕ
shelf_file s = s.file

abbrev pub shelf_bytes : MemShelf → List ℕ
shelf_bytes s = s.bytes.items

abbrev pub shelf_faults : MemShelf → ℕ
shelf_faults s = s.tally.faults

abbrev pub shelf_calls : MemShelf → ℕ
shelf_calls s = s.tally.calls

-- a call with this number is told to fail
abbrev pub shelf_fails : MemShelf → ℕ → Bool
shelf_fails s number = tally_fails s.tally number

-- the same calls are told to fail
abbrev pub SameShelfTold : MemShelf → MemShelf → Type 0
SameShelfTold old new = SameFailing old.tally new.tally
