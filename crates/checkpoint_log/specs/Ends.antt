-- How the frames of a checkpoint file end.
use Rattle.std.specs.Prelude.{ℕ, ◌≡◌, ◌+◌, ◌⊎◌, List, [], ◌∷◌, ◌++◌, length}
use Rattle.samza_model.specs.declared.messages.Record.{Record}
use Rattle.samza_model.specs.declared.checkpoints.Checkpoint.{Checkpoint}
use Rattle.samza_model.specs.Checkpoint.{StandsFor}
use Rattle.samza_model.specs.Logs.{spelled}
use Rattle.samza_model.specs.Restored.{EndsWith}
use Rattle.topic_log.specs.declared.extents.Place.{Place}
use Rattle.topic_log.specs.Extents.{StandsBehind, IsLast}

-- the place before the last frame, or before the first where there is none
abbrev pub IsEnd : List (List Record) → Place → Type 0
IsEnd frames place = IsLast frames place ⊎ ((frames ≡ []) × StandsBehind frames [] place)

-- the last frame, whose first byte is this one, is no checkpoint
pub record IsBadEnd (frames : List (List Record)) (at : ℕ) : Type 0 where
  pub before : List (List Record)
  pub last : List Record
  pub split : frames ≡ before ++ last ∷ []
  pub at_is : at ≡ length (spelled before) + 1
  pub bad : (k : Checkpoint) → EndsWith frames k → ⊥

-- these records are the checkpoint's alone, and its number is this one
pub record IsAlone (records : List Record) (count : ℕ) (k : Checkpoint) : Type 0 where
  pub alone : Record
  pub records_are : records ≡ alone ∷ []
  pub stands_for : StandsFor alone k
  pub id : k.id ≡ count
