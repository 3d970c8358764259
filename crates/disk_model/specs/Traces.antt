-- The files of a disk in memory, from what they were at the start and from the record of its calls.
use Rattle.std.specs.Prelude.{ℕ, ◌+◌, Bool, true, false, ◌==◌, if◌then◌else◌, List, get_or}
use Rattle.samza_model.specs.Files.{Image}
use Rattle.disk_model.specs.HeldBytes.{HeldBytes, no_bytes}
use Rattle.disk_model.specs.FileStates.{FileState, at_rest, after_all}
use Rattle.disk_model.specs.declared.traces.Entry.{Entry}
use Rattle.disk_model.specs.declared.traces.Entry.TheVariants.{Quiet, Wrote, Shortened, Synced}

-- a file's bytes; one that isn't there has none
abbrev pub bytes_at : List HeldBytes → Image
bytes_at files f = (get_or files f no_bytes).bytes

-- each file after these calls
abbrev pub file_state : List HeldBytes → List Entry → List ℕ → ℕ → FileState
file_state start noted written f = after_all noted written f (at_rest (bytes_at start f))

-- how many of the written bytes there are up to those of this call
abbrev pub used_by : Entry → ℕ
used_by Quiet = 0
used_by (Wrote file at from len) = from + len
used_by (Shortened file size) = 0
used_by (Synced file) = 0

-- the end of what a call wrote in its file
abbrev pub reach_of : Entry → ℕ
reach_of Quiet = 0
reach_of (Wrote file at from len) = at + len
reach_of (Shortened file size) = 0
reach_of (Synced file) = 0

-- a call that changes nothing that a read gives
abbrev pub is_still : Entry → Bool
is_still Quiet = true
is_still (Wrote file at from len) = false
is_still (Shortened file size) = false
is_still (Synced file) = true

-- a call, where it was not of this file, and else one that does nothing
abbrev pub without : ℕ → Entry → Entry
without f Quiet = Quiet
without f (Wrote file at from len) = if file == f then Quiet else Wrote file at from len
without f (Shortened file size) = if file == f then Quiet else Shortened file size
without f (Synced file) = if file == f then Quiet else Synced file

-- one more than the number of the file that a call wrote
abbrev pub file_end : Entry → ℕ
file_end Quiet = 0
file_end (Wrote file at from len) = file + 1
file_end (Shortened file size) = 0
file_end (Synced file) = 0
