-- Bytes of several frames, each with a gate behind it, and what an append leaves in a file.
use Rattle.std.specs.Prelude.{ℕ, ◌≡◌, ◌⊎◌, ◌+◌, ◌-◌, List, [], ◌∷◌, ◌++◌, length, take, drop}
use Rattle.std.specs.List.{flat_map}
use Rattle.samza_model.specs.Files.{Image}
use Rattle.disk_model.specs.Images.{SameElsewhere}
use Rattle.log_frame.specs.Frame.{FrameView}

-- frames, each with a closed gate behind it
abbrev pub closed_frames : List FrameView → List ℕ
closed_frames frames = flat_map (λ f. f.bytes ++ 0x43 ∷ []) frames

-- how many records the frames have
abbrev pub record_count : List FrameView → ℕ
record_count [] = 0
record_count (f ∷ frames) = f.count + record_count frames

-- frames, each with an open gate behind it
abbrev pub open_frames : List FrameView → List ℕ
open_frames frames = flat_map (λ f. f.bytes ++ 0x4F ∷ []) frames

-- all gates but the last are open
abbrev pub staged : List FrameView → List ℕ
staged frames = open_frames (take (length frames - 1) frames) ++ closed_frames (drop (length frames - 1) frames)

-- the file has these bytes more, and the other files are the same
pub record Extended (file : ℕ) (bytes : List ℕ) (old new : Image) : Type 0 where
  pub here : new file ≡ old file ++ bytes
  pub elsewhere : SameElsewhere file old new

-- an open gate and these bytes in the place of the gate at the file's end
pub record Opened (file gate : ℕ) (bytes : List ℕ) (old new : Image) : Type 0 where
  pub here : new file ≡ take gate (old file) ++ 0x4F ∷ bytes
  pub elsewhere : SameElsewhere file old new

-- in place of the frames with closed gates from `at` on the same with open ones
pub record OpensGates (file at : ℕ) (frames : List FrameView) (old new : Image) : Type 0 where
  pub here : new file ≡ take at (old file) ++ (open_frames frames ++ drop (at + length (closed_frames frames)) (old file))
  pub elsewhere : SameElsewhere file old new

-- the file has these frames with closed gates from `at` on
abbrev pub HasClosed : ℕ → List FrameView → List ℕ → Type 0
HasClosed at frames bytes = bytes ≡ take at bytes ++ (closed_frames frames ++ drop (at + length (closed_frames frames)) bytes)

-- the file begins as it was, with its last gate; or any gate stands in the last one's place, and these bytes behind it
pub record Stages (file gate : ℕ) (behind : List ℕ) (old new : Image) : Type 0 where
  pub here : (take (gate + 1) (new file) ≡ take (gate + 1) (old file)) ⊎ ((x : ℕ) × (new file ≡ take gate (old file) ++ x ∷ behind))
  pub elsewhere : SameElsewhere file old new
