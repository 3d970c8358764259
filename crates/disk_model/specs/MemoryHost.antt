-- The meanings of a host in memory.
use Rattle.std.specs.Prelude.{ℕ, ◌≡◌, ◌<◌, ◌≤◌, Bool, List, Option}
use Rattle.samza_model.specs.Files.{Image}
use Rattle.disk_model.specs.Capacities.{Capacity}
use Rattle.disk_model.specs.Folders.{Folder}
use Rattle.disk_model.specs.Handles.{SameAt}
use Rattle.disk_model.specs.MemoryDisk.{mem_calls, mem_capacity, mem_file_count, mem_images, mem_images_since, mem_reads}
use Rattle.disk_model.specs.HandedOut.{disks_of, held_under, shelves_of}
use Rattle.disk_model.specs.Slots.{held_in, images_in, number_in, or_else, reads_in, since_in, slot_at, text_in}
use Rattle.disk_model.specs.Arms.{said_fails}
use Rattle.disk_model.specs.Tallies.{tally_fails}
use Rattle.disk_model.specs.declared.memory_disk.MemDisk.{MemDisk}
use Rattle.disk_model.specs.declared.memory_host.MemHost.{MemHost}
use Rattle.disk_model.specs.declared.names.DiskName.{DiskName}
use Rattle.disk_model.specs.declared.names.DiskName.TheVariants.{Stream, Task}
use Rattle.disk_model.specs.declared.new_disks.TheConstants.{STREAM_FILES, TASK_FILES}

-- the disk of a name, if it is there and not out
abbrev pub disk_of : MemHost → DiskName → Option MemDisk
disk_of h = held_under h.handed

abbrev pub host_text : MemHost → Option (List ℕ)
host_text h = text_in (λ v. v.items) h.text

abbrev pub host_reads : MemHost → DiskName → Image
host_reads h n = reads_in mem_reads (disk_of h n)

abbrev pub host_file_count : MemHost → DiskName → ℕ
host_file_count h n = number_in mem_file_count (disk_of h n)

abbrev pub host_folder : MemHost → Folder
host_folder h = record { text = host_text h; files = host_file_count h; disks = host_reads h }

-- the word of the last call of `enter` that went well
abbrev pub host_entered : MemHost → Option (List ℕ)
host_entered h = h.entered

abbrev pub host_images : MemHost → DiskName → Image → Type 0
host_images h n = images_in mem_images (disk_of h n)

abbrev pub host_images_since : MemHost → DiskName → ℕ → Image → Type 0
host_images_since h n = since_in mem_images_since (disk_of h n)

abbrev pub host_calls : MemHost → DiskName → ℕ
host_calls h n = number_in mem_calls (disk_of h n)

abbrev pub host_disks_out : MemHost → DiskName → ℕ
host_disks_out h = disks_of h.handed

abbrev pub host_shelves_out : MemHost → DiskName → ℕ
host_shelves_out h = shelves_of h.handed

abbrev pub host_faults : MemHost → ℕ
host_faults h = h.tally.faults

-- the greatest size of one file and of the bytes that are written to one disk, and the greatest number of calls of one disk
abbrev pub host_bounds : MemHost → ℕ × ℕ
host_bounds h = (h.room, h.calls)

-- the number of files of a disk
abbrev pub files_for : DiskName → ℕ
files_for (Task task) = TASK_FILES
files_for (Stream system stream) = STREAM_FILES

-- what a new disk can take, within these bounds
abbrev pub new_capacity : ℕ × ℕ → DiskName → Capacity
new_capacity bounds n = record { files = files_for n; room = bounds.0; calls = bounds.1; used = 0 }

-- what the disk of a name can take: one that isn't there yet is a new one; nothing is said of one that is out
abbrev pub host_capacity : MemHost → DiskName → Capacity
host_capacity h n = or_else (new_capacity (host_bounds h) n) mem_capacity (disk_of h n)

-- so many bytes can stand in this file of the disk of a name
pub record CanPut (h : MemHost) (n : DiskName) (file len : ℕ) : Type 0 where
  pub there : file < (host_capacity h n).files
  pub room : len ≤ (host_capacity h n).room

-- the number of calls of the host itself
abbrev pub host_own_calls : MemHost → ℕ
host_own_calls h = h.tally.calls

-- a call of the host itself with this number is told to fail
abbrev pub host_fails : MemHost → ℕ → Bool
host_fails h number = tally_fails h.tally number

-- a call with this number, counted from the handing out, is told to fail on each disk and shelf of a name
abbrev pub host_armed : MemHost → DiskName → ℕ → Bool
host_armed h n = said_fails (held_in (slot_at h.arms.items n))

-- the bounds are the same, and the same calls are told to fail, of the host itself and of each handle
pub record SameHostTold (old new : MemHost) : Type 0 where
  pub bounds : host_bounds new ≡ host_bounds old
  pub fails : (number : ℕ) → host_fails new number ≡ host_fails old number
  pub arms : (n : DiskName) (number : ℕ) → host_armed new n number ≡ host_armed old n number

-- the host's disk of a name can take what it could
abbrev pub SameCapacity : MemHost → MemHost → DiskName → Type 0
SameCapacity old new n = host_capacity new n ≡ host_capacity old n

-- the host's disk of a name is as it was
abbrev pub IsSameHeld : MemHost → MemHost → DiskName → Type 0
IsSameHeld old new n = SameAt host_folder host_images host_images_since host_calls old new n
