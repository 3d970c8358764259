-- A file since its last sync, and what a crash may leave of it.
use Rattle.std.specs.Prelude.{ℕ, ◌≡◌, ◌+◌, ◌<◌, ◌≤◌, ◌⊎◌, ◌==◌, if◌then◌else◌, min, max, List, [], ◌∷◌, length, take, drop, get_or}
use Rattle.samza_model.specs.Files.{Image}
use Rattle.disk_model.specs.Cells.{put_at}
use Rattle.disk_model.specs.declared.traces.Entry.{Entry}
use Rattle.disk_model.specs.declared.traces.Entry.TheVariants.{Quiet, Wrote, Shortened, Synced}

-- A file since its last sync: what a read gives, what it gave at the sync, the least and the greatest size, and the writes,
-- each as its place and its bytes, the newest first.
pub record FileState : Type 0 where
  pub now : List ℕ
  pub old : List ℕ
  pub least : ℕ
  pub greatest : ℕ
  pub writes : List (ℕ × List ℕ)

-- a byte that one of the writes wrote
abbrev pub InWrites : List (ℕ × List ℕ) → ℕ → Type 0
InWrites [] i = ⊥
InWrites (w ∷ ws) i = ((w.0 ≤ i) × (i < w.0 + length w.1)) ⊎ InWrites ws i

-- a size between, and what a read gives below the least size and outside the writes
pub record IsFileImage (s : FileState) (c : List ℕ) : Type 0 where
  pub no_shorter : s.least ≤ length c
  pub no_longer : length c ≤ s.greatest
  pub same : (i : ℕ) → i < s.least → (InWrites s.writes i → ⊥) → get_or c i 0 ≡ get_or s.now i 0

abbrev pub IsImage : (ℕ → FileState) → Image → Type 0
IsImage states c = (f : ℕ) → IsFileImage (states f) (c f)

abbrev pub at_rest : List ℕ → FileState
at_rest bytes = record { now = bytes; old = bytes; least = length bytes; greatest = length bytes; writes = [] }

abbrev pub with_written : ℕ → List ℕ → FileState → FileState
with_written at bytes s = record {
  now = put_at at bytes s.now;
  old = s.old;
  least = s.least;
  greatest = max s.greatest (at + length bytes);
  writes = (at, bytes) ∷ s.writes;
}

abbrev pub with_cut : ℕ → FileState → FileState
with_cut size s = record {
  now = take size s.now;
  old = s.old;
  least = min s.least size;
  greatest = s.greatest;
  writes = s.writes;
}

-- a file after a call; the written bytes of all calls stand one after another
abbrev pub after : List ℕ → ℕ → Entry → FileState → FileState
after written f Quiet s = s
after written f (Wrote file at from len) s = if file == f then with_written at (take len (drop from written)) s else s
after written f (Shortened file size) s = if file == f then with_cut size s else s
after written f (Synced file) s = if file == f then at_rest s.now else s

-- a file after the calls in order
abbrev pub after_all : List Entry → List ℕ → ℕ → FileState → FileState
after_all [] written f s = s
after_all (e ∷ es) written f s = after_all es written f (after written f e s)
