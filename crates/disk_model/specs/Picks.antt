-- Which image a crash leaves.
use Rattle.std.specs.Prelude.{ℕ, ◌≡◌, ◌+◌, ◌-◌, ◌<◌, ◌≤◌, ◌⊎◌, ◌==◌, if◌then◌else◌, min, List, [], ◌∷◌, length, take, drop, get_or}
use Rattle.disk_model.specs.Cells.{filled, put_at, put_padded}
use Rattle.disk_model.specs.FileStates.{FileState, InWrites, IsFileImage}
use Rattle.disk_model.specs.HeldBytes.{HeldBytes, no_bytes}
use Rattle.disk_model.specs.declared.picks.Pick.{Pick}
use Rattle.disk_model.specs.declared.picks.Pick.TheVariants.{Old, New, Fill, Cut}
use Rattle.disk_model.specs.declared.traces.Entry.{Entry}
use Rattle.disk_model.specs.declared.traces.Entry.TheVariants.{Quiet, Wrote, Shortened, Synced}

-- the first n bytes of each write, put over the bytes in the order of the writes, which stand the newest first
abbrev pub with_fronts : ℕ → List (ℕ × List ℕ) → List ℕ → List ℕ
with_fronts n [] c = c
with_fronts n (w ∷ ws) c = put_padded w.0 (take n w.1) (with_fronts n ws c)

-- the greatest size, and the value in each byte that is free: from the least size on, or in a range that was written
pub record IsFilled (value : ℕ) (s : FileState) (c : List ℕ) : Type 0 where
  pub size : length c ≡ s.greatest
  pub free : (i : ℕ) → i < s.greatest → (s.least ≤ i) ⊎ InWrites s.writes i → get_or c i 0 ≡ value

-- what a crash leaves of a file
abbrev pub IsPicked : Pick → FileState → List ℕ → Type 0
IsPicked Old s c = c ≡ s.old
IsPicked New s c = c ≡ s.now
IsPicked (Fill value) s c = IsFilled value s c
IsPicked (Cut n) s c = c ≡ with_fronts n s.writes s.old

-- that it is one of the file's images, and which
pub record IsCrashOf (pick : Pick) (s : FileState) (c : List ℕ) : Type 0 where
  pub image : IsFileImage s c
  pub picked : IsPicked pick s c

-- what a write makes of the file that a crash leaves
abbrev pub torn_write : Pick → ℕ → List ℕ → List ℕ → List ℕ
torn_write Old at bytes c = c
torn_write New at bytes c = put_at at bytes c
torn_write (Fill value) at bytes c = filled at (length bytes) value c
torn_write (Cut n) at bytes c = put_padded at (take n bytes) c

-- what a cut makes of it
abbrev pub torn_cut : Pick → ℕ → List ℕ → List ℕ
torn_cut Old size c = c
torn_cut New size c = take size c
torn_cut (Fill value) size c = filled (min size (length c)) (length c - size) value c
torn_cut (Cut n) size c = c

-- what a read gives of a file after a call
abbrev pub read_after : List ℕ → ℕ → Entry → List ℕ → List ℕ
read_after written f Quiet now = now
read_after written f (Wrote file at from len) now = if file == f then put_at at (take len (drop from written)) now else now
read_after written f (Shortened file size) now = if file == f then take size now else now
read_after written f (Synced file) now = now

-- what a crash leaves of it
abbrev pub torn_after : Pick → List ℕ → ℕ → Entry → List ℕ → List ℕ → List ℕ
torn_after pick written f Quiet now c = c
torn_after pick written f (Wrote file at from len) now c = if file == f then torn_write pick at (take len (drop from written)) c else c
torn_after pick written f (Shortened file size) now c = if file == f then torn_cut pick size c else c
torn_after pick written f (Synced file) now c = if file == f then now else c

-- as many files, of the same rooms
pub record SameRooms (old new : List HeldBytes) : Type 0 where
  pub len : length new ≡ length old
  pub rooms : (k : ℕ) → (get_or new k no_bytes).room ≡ (get_or old k no_bytes).room

-- a call's file is there, and has room for what was written
abbrev pub FitsIn : List HeldBytes → Entry → Type 0
FitsIn files Quiet = Unit {0}
FitsIn files (Wrote file at from len) = (file < length files) × (at + len ≤ (get_or files file no_bytes).room)
FitsIn files (Shortened file size) = Unit {0}
FitsIn files (Synced file) = Unit {0}
