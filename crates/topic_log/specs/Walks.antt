-- What is seen of a file that is read in pieces.
use Rattle.std.specs.Prelude.{ℕ, ◌≡◌, ◌≢◌, ◌+◌, ◌-◌, ◌≤◌, ◌⊎◌, List, [], ◌∷◌, length, take, drop, Option, Some, None}
use Rattle.samza_model.specs.declared.messages.Record.{Record}
use Rattle.samza_model.specs.Files.{Image}
use Rattle.samza_model.specs.Logs.{ReadsAs}
use Rattle.disk_model.specs.Images.{SameElsewhere}
use Rattle.log_frame.specs.declared.reading.Checked.{Checked}
use Rattle.log_frame.specs.Frame.{Begins}
use Rattle.topic_log.specs.declared.extents.Extent.{Extent}
use Rattle.topic_log.specs.declared.windows.Window.{Window}
use Rattle.topic_log.specs.Extents.{IsExtent}
use Rattle.topic_log.specs.Opened.{IsLeft}

-- the window has the bytes of the file from its first one on
abbrev pub Shows : Window → List ℕ → Type 0
Shows w bytes = w.bytes.items ≡ take (length w.bytes.items) (drop w.from bytes)

-- what stands from this byte on among the first so many
abbrev pub seen : ℕ → ℕ → List ℕ → List ℕ
seen size at bytes = take (size - at) (drop at bytes)

-- these bytes of the file are in the window
pub record Covers (w : Window) (at len : ℕ) : Type 0 where
  pub begins : w.from ≤ at
  pub ends : at + len ≤ w.from + length w.bytes.items

-- a gate that is closed
pub record IsClosed (bytes : List ℕ) : Type 0 where
  pub gate : ℕ
  pub behind : List ℕ
  pub split : bytes ≡ gate ∷ behind
  pub closed : gate ≢ 0x4F

-- a gate that is open, and a frame behind it
pub record HasBatch (bytes : List ℕ) (count used : ℕ) : Type 0 where
  pub behind : List ℕ
  pub split : bytes ≡ 0x4F ∷ behind
  pub frame : Begins behind count used

abbrev pub IsBatch : Option Checked → List ℕ → Type 0
IsBatch None bytes = IsClosed bytes
IsBatch (Some c) bytes = HasBatch bytes c.count c.used

-- how far the frames of the bytes reach
pub record Reaches (bytes : List ℕ) (extent : Extent) : Type 0 where
  pub frames : List (List Record)
  pub reads : ReadsAs bytes frames
  pub extent_is : IsExtent extent frames

-- how far the frames of a file reach, which may be empty
abbrev pub Finds : List ℕ → Extent → Type 0
Finds bytes extent = ((length bytes ≤ 1) × IsExtent extent []) ⊎ ((2 ≤ length bytes) × Reaches bytes extent)

-- one byte, which is a closed gate
pub record IsGate (bytes : List ℕ) : Type 0 where
  pub gate : ℕ
  pub is : bytes ≡ gate ∷ []
  pub closed : gate ≢ 0x4F

-- no byte, or a gate alone that is open
abbrev pub LacksGate : List ℕ → Type 0
LacksGate bytes = (bytes ≡ []) ⊎ (bytes ≡ 0x4F ∷ [])

-- an empty file has one closed gate; another is cut behind the gate
pub record Settled (file gate : ℕ) (old new : Image) : Type 0 where
  pub short : length (old file) ≤ 1 → IsGate (new file)
  pub left : IsLeft (old file) (new file) (gate + 1)
  pub elsewhere : SameElsewhere file old new

-- an empty file stays empty; another keeps its bytes up to the gate
pub record Repairs (file gate : ℕ) (old new : Image) : Type 0 where
  pub short : length (old file) ≤ 1 → length (new file) ≤ 1
  pub long : 2 ≤ length (old file) → take (gate + 1) (new file) ≡ take (gate + 1) (old file)
  pub elsewhere : SameElsewhere file old new
