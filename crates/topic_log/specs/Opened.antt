-- Logs that are open, and what a crash may leave of them.
use Rattle.std.specs.Prelude.{ℕ, ◌≡◌, ◌≢◌, ◌+◌, ◌≤◌, ◌⊎◌, Bool, List, [], ◌∷◌, ◌++◌, length, take}
use Rattle.samza_model.specs.declared.messages.Record.{Record}
use Rattle.samza_model.specs.Files.{Image}
use Rattle.samza_model.specs.Logs.{spelled, HasFrames, HasNoLog}
use Rattle.disk_model.specs.Images.{SameElsewhere, Only}
use Rattle.topic_log.specs.declared.logs.Log.{Log}
use Rattle.topic_log.specs.Extents.{IsExtent}

-- the number of the log's file
abbrev pub file_of : Log → ℕ
file_of log = log.file

-- how many records it has
abbrev pub count_of : Log → ℕ
count_of log = log.extent.count

-- how many bytes its file has
abbrev pub size_of : Log → ℕ
size_of log = log.extent.gate + 1

-- a call on it answered Device
abbrev pub is_broken : Log → Bool
is_broken log = log.broken

-- the log's sizes and its last place are those of these frames
abbrev pub HasExtent : Log → List (List Record) → Type 0
HasExtent log frames = IsExtent log.extent frames

-- The log has these frames: its file reads as their spelling with a closed gate behind it, and in each image the file is
-- as it reads.
pub record IsOpen (reads : Image) (images : Image → Type 0) (log : Log) (frames : List (List Record)) : Type 0 where
  pub gate : ℕ
  pub bytes : reads log.file ≡ spelled frames ++ gate ∷ []
  pub closed : gate ≢ 0x4F
  pub extent : HasExtent log frames
  pub durable : Only log.file reads images

-- What an opening leaves of a file, whose log has this size then: a closed gate where there was none or an open one alone, a closed
-- gate alone as it is, and what stands behind the last gate is cut off.
pub record IsLeft (old new : List ℕ) (size : ℕ) : Type 0 where
  pub none : old ≡ [] → new ≡ 0x43 ∷ []
  pub opened : old ≡ 0x4F ∷ [] → new ≡ 0x43 ∷ []
  pub closed : (gate : ℕ) → gate ≢ 0x4F → old ≡ gate ∷ [] → new ≡ gate ∷ []
  pub frames : 2 ≤ length old → new ≡ take size old

-- the log's sizes and its last place are as they were
abbrev pub KeepsExtent : Log → Log → Type 0
KeepsExtent old new = new.extent ≡ old.extent

-- the file has the frames that it had, or is as it was where it is no log, and the other files are the same
pub record KeepsFrames (file : ℕ) (old new : Image) : Type 0 where
  pub here : (frames : List (List Record)) → HasFrames (old file) frames → HasFrames (new file) frames
  pub lost : HasNoLog (old file) → new file ≡ old file
  pub elsewhere : SameElsewhere file old new

-- the file has these frames, or those followed by more, and the other files are the same
pub record Appends (file : ℕ) (frames more : List (List Record)) (old new : Image) : Type 0 where
  pub here : HasFrames (new file) frames ⊎ HasFrames (new file) (frames ++ more)
  pub elsewhere : SameElsewhere file old new
