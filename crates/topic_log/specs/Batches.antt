-- What is read at a place of a log.
use Rattle.std.specs.Prelude.{ℕ, ◌≡◌, List, [], ◌∷◌, ◌++◌, Option, Some, None}
use Rattle.samza_model.specs.declared.messages.Record.{Record}
use Rattle.topic_log.specs.declared.batches.Batches.{Batches}
use Rattle.topic_log.specs.declared.extents.Place.{Place}
use Rattle.samza_model.specs.Files.{Image}
use Rattle.topic_log.specs.declared.logs.Log.{Log}
use Rattle.topic_log.specs.declared.windows.Window.{Window}
use Rattle.topic_log.specs.Extents.{StandsBehind}
use Rattle.topic_log.specs.Opened.{IsOpen}
use Rattle.topic_log.specs.Walks.{Shows}

-- behind these first frames: nothing, where they are all; or the records of the next, and the place behind it
abbrev pub IsNext : List (List Record) → List (List Record) → Option (List Record × Place) → Type 0
IsNext frames before None = before ≡ frames
IsNext frames before (Some batch) = StandsBehind frames (before ++ batch.0 ∷ []) batch.1

-- the log has these frames, and the place is behind the first ones
pub record HasPlace (reads : Image) (images : Image → Type 0) (log : Log) (place : Place) (frames before : List (List Record)) : Type 0 where
  pub opened : IsOpen reads images log frames
  pub stands : StandsBehind frames before place

-- the window is on the log's file, up to the gate behind its frames
pub record IsOn (log : Log) (window : Window) : Type 0 where
  pub file : window.file ≡ log.file
  pub size : window.size ≡ log.extent.gate

-- the batches are those of the log
abbrev pub AreOf : Log → Batches → Type 0
AreOf log batches = IsOn log batches.window

-- none was read yet, and nothing is at hand
pub record AreUnread (batches : Batches) : Type 0 where
  pub stands : (frames : List (List Record)) → StandsBehind frames [] batches.place
  pub shows : (bytes : List ℕ) → Shows batches.window bytes

-- the byte of the gate before the next batch
abbrev pub byte_of : Batches → ℕ
byte_of batches = batches.place.byte

-- the log has these frames, of which the first ones were read, and what is at hand of its file is as it reads
pub record HasBatches (reads : Image) (images : Image → Type 0) (log : Log) (batches : Batches) (frames before : List (List Record)) : Type 0 where
  pub place : HasPlace reads images log batches.place frames before
  pub shows : Shows batches.window (reads log.file)
