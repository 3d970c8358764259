-- One record that is appended to a file, in a frame of its own.
use Rattle.std.specs.Prelude.{ℕ, ◌≡◌, ◌⊎◌, List, [], ◌∷◌, ◌++◌, length}
use Rattle.samza_model.specs.declared.messages.Record.{Record}
use Rattle.samza_model.specs.Files.{Image}
use Rattle.samza_model.specs.Logs.{joined, HasFrames, HasNoLog}
use Rattle.disk_model.specs.Images.{SameElsewhere}
use Rattle.topic_log.specs.Growth.{Passes}

-- behind the frames that it had, the file has one of this record, whose offset is the number of records before it
pub record IsProduced (before after : List ℕ) (body : Record) (offset : ℕ) : Type 0 where
  pub frames : List (List Record)
  pub had : HasFrames before frames
  pub has : HasFrames after (frames ++ (body ∷ []) ∷ [])
  pub offset_is : offset ≡ length (joined frames)

-- the file has the frames that it had, or these and one of this record, or is as it was where it is no log, and the other files
-- are the same
pub record Produces (file : ℕ) (body : Record) (old new : Image) : Type 0 where
  pub here : (frames : List (List Record)) → HasFrames (old file) frames → HasFrames (new file) frames ⊎ HasFrames (new file) (frames ++ (body ∷ []) ∷ [])
  pub lost : HasNoLog (old file) → new file ≡ old file
  pub elsewhere : SameElsewhere file old new

-- with a frame of this record the file would pass its limit
abbrev pub IsFull : List ℕ → Record → Type 0
IsFull bytes body = Passes bytes ((body ∷ []) ∷ [])
