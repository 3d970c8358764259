-- What is said of the files of a disk in memory.
use Rattle.std.specs.Prelude.{ℕ, ◌≡◌, ◌≢◌, ◌+◌, ◌&&◌, Bool, length, nat_le, nat_lt, take}
use Rattle.samza_model.specs.Files.{Image}
use Rattle.disk_model.specs.Capacities.{Capacity}
use Rattle.disk_model.specs.FileStates.{FileState}
use Rattle.disk_model.specs.Traces.{bytes_at, file_state}
use Rattle.disk_model.specs.declared.traces.Trace.{Trace}

-- the number of entries
abbrev pub calls_noted : Trace → ℕ
calls_noted t = length t.noted.items

abbrev pub capacity_of : Trace → Capacity
capacity_of t = record { files = length t.files.items; room = t.room; calls = t.limit; used = length t.written.items }

abbrev pub bytes_of : Trace → Image
bytes_of t = bytes_at t.files.items

-- each file now
abbrev pub now_of : Trace → ℕ → FileState
now_of t = file_state t.start.items t.noted.items t.written.items

-- each file after so many calls
abbrev pub then_of : Trace → ℕ → ℕ → FileState
then_of t j = file_state t.start.items (take j t.noted.items) t.written.items

-- a change of one file
pub record AtFile (file : ℕ) (change : FileState → FileState) (old new : ℕ → FileState) : Type 0 where
  pub here : new file ≡ change (old file)
  pub elsewhere : (f : ℕ) → f ≢ file → new f ≡ old f

-- there is such a file, with room for so many bytes at this place, and the record has room for them
abbrev pub has_room_in : Trace → ℕ → ℕ → ℕ → Bool
has_room_in t file at n = nat_lt file (length t.files.items) && nat_le (at + n) t.room && nat_le (length t.written.items + n) t.room
