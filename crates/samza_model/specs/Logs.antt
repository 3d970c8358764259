-- A log's file: gates and frames. An open gate (4F) stands before a frame, and any other byte is a closed gate, behind
-- which nothing counts. A file of 0 or 1 bytes is empty.
use Rattle.std.specs.Prelude.{ℕ, ◌≡◌, ◌≢◌, ◌≤◌, ◌⊎◌, List, [], ◌∷◌, ◌++◌, length}
use Rattle.std.specs.List.{flat_map, AllByRecursion}
use Rattle.samza_model.specs.declared.messages.Record.{Record}
use Rattle.samza_model.specs.Frames.{frame_bytes}
use Rattle.samza_model.specs.Limits.{IsFrameable}

-- open gates, each with its frame
abbrev pub spelled : List (List Record) → List ℕ
spelled frames = flat_map (λ records. 0x4F ∷ frame_bytes records) frames

-- the frames' records in order
abbrev pub joined : List (List Record) → List Record
joined frames = flat_map (λ records. records) frames

-- open gates with these frames, and then a closed gate with anything behind it
pub record ReadsAs (bytes : List ℕ) (frames : List (List Record)) : Type 0 where
  pub gate : ℕ
  pub behind : List ℕ
  pub split : bytes ≡ spelled frames ++ gate ∷ behind
  pub closed : gate ≢ 0x4F
  pub frameable : AllByRecursion IsFrameable frames

-- the file has these frames
abbrev pub HasFrames : List ℕ → List (List Record) → Type 0
HasFrames bytes frames = ((length bytes ≤ 1) × (frames ≡ [])) ⊎ ReadsAs bytes frames

-- the file is a log of these records
pub record HasLog (bytes : List ℕ) (records : List Record) : Type 0 where
  pub frames : List (List Record)
  pub has : HasFrames bytes frames
  pub records_are : records ≡ joined frames

-- the file is no log
abbrev pub HasNoLog : List ℕ → Type 0
HasNoLog bytes = (frames : List (List Record)) → HasFrames bytes frames → ⊥
