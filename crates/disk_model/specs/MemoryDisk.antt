-- The meanings of a disk in memory.
use Rattle.std.specs.Prelude.{ℕ, ◌≡◌, Bool, ◌≤◌, ◌<◌, ◌||◌, if◌then◌else◌, length, nat_le, not}
use Rattle.samza_model.specs.Files.{Image}
use Rattle.disk_model.specs.Capacities.{Capacity, with_used}
use Rattle.disk_model.specs.FileStates.{FileState, IsImage}
use Rattle.disk_model.specs.Handles.{SameDisk}
use Rattle.disk_model.specs.Tallies.{tally_fails}
use Rattle.disk_model.specs.TraceWords.{bytes_of, capacity_of, has_room_in, now_of, then_of}
use Rattle.disk_model.specs.declared.memory_disk.MemDisk.{MemDisk}
use Rattle.disk_model.specs.declared.names.DiskName.{DiskName}

abbrev pub mem_name : MemDisk → DiskName
mem_name d = d.name

abbrev pub mem_reads : MemDisk → Image
mem_reads d = bytes_of d.trace

abbrev pub mem_images : MemDisk → Image → Type 0
mem_images d = IsImage (now_of d.trace)

-- an image after some number of calls from k on
abbrev pub mem_images_since : MemDisk → ℕ → Image → Type 0
mem_images_since d k c = (j : ℕ) × (k ≤ j) × (j ≤ d.tally.calls) × IsImage (then_of d.trace j) c

abbrev pub mem_calls : MemDisk → ℕ
mem_calls d = d.tally.calls

abbrev pub mem_faults : MemDisk → ℕ
mem_faults d = d.tally.faults

-- the number of files that there are, the greatest size of one, and the greatest number of calls
abbrev pub mem_size : MemDisk → ℕ
mem_size d = length d.trace.files.items

abbrev pub mem_room : MemDisk → ℕ
mem_room d = d.trace.room

abbrev pub mem_limit : MemDisk → ℕ
mem_limit d = d.trace.limit

-- how many bytes were written so far, of which the record keeps each
abbrev pub mem_used : MemDisk → ℕ
mem_used d = length d.trace.written.items

-- what the disk can take
abbrev pub mem_capacity : MemDisk → Capacity
mem_capacity d = capacity_of d.trace

-- a call with this number is told to fail
abbrev pub mem_fails : MemDisk → ℕ → Bool
mem_fails d number = tally_fails d.tally number

-- as many calls were made as the record keeps
abbrev pub is_spent : MemDisk → Bool
is_spent d = nat_le d.trace.limit d.tally.calls

-- there is such a file, with room for so many bytes at this place, and the record has room for them
abbrev pub can_write : MemDisk → ℕ → ℕ → ℕ → Bool
can_write d file at n = has_room_in d.trace file at n

-- what the disk can take after a write: its bytes count, also where it is told to fail, unless it can't be made
abbrev pub after_write : MemDisk → ℕ → ℕ → ℕ → Capacity
after_write d file at n = if is_spent d || not (can_write d file at n) then mem_capacity d else with_used n (mem_capacity d)

-- the same calls are told to fail
abbrev pub SameFails : MemDisk → MemDisk → Type 0
SameFails old new = (number : ℕ) → mem_fails new number ≡ mem_fails old number

-- the disk can take what it could, and the same calls are told to fail
pub record SameTold (old new : MemDisk) : Type 0 where
  pub capacity : mem_capacity new ≡ mem_capacity old
  pub fails : SameFails old new

-- each file since its last sync
abbrev pub mem_states : MemDisk → ℕ → FileState
mem_states d = now_of d.trace

-- one more than the greatest number of a file that was written or put
abbrev pub mem_file_count : MemDisk → ℕ
mem_file_count d = d.trace.there

-- there is such a file, with room for so many bytes
abbrev pub CanPlace : MemDisk → ℕ → ℕ → Type 0
CanPlace d file n = (file < length d.trace.files.items) × (n ≤ d.trace.room)

-- the second disk has the meanings of the first
abbrev pub IsSameDisk : MemDisk → MemDisk → Type 0
IsSameDisk old new = SameDisk (mem_reads old) (mem_images old) (mem_images_since old) (mem_calls old) (mem_reads new) (mem_images new) (mem_images_since new) (mem_calls new)
