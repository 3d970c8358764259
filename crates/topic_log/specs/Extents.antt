-- How far a log reaches, and the places of its batches.
use Rattle.std.specs.Prelude.{◌≡◌, List, [], ◌∷◌, ◌++◌, length, Option, Some, None}
use Rattle.std.specs.List.{AllByRecursion}
use Rattle.samza_model.specs.declared.messages.Record.{Record}
use Rattle.samza_model.specs.Limits.{IsFrameable}
use Rattle.samza_model.specs.Logs.{spelled, joined}
use Rattle.topic_log.specs.declared.extents.Place.{Place}
use Rattle.topic_log.specs.declared.extents.Extent.{Extent}

-- the place stands behind these first frames
pub record StandsBehind (frames before : List (List Record)) (place : Place) : Type 0 where
  pub behind : List (List Record)
  pub front : frames ≡ before ++ behind
  pub byte : place.byte ≡ length (spelled before)
  pub index : place.index ≡ length (joined before)

-- the place before the last frame
pub record IsLast (frames : List (List Record)) (place : Place) : Type 0 where
  pub before : List (List Record)
  pub batch : List Record
  pub front : frames ≡ before ++ batch ∷ []
  pub stands : StandsBehind frames before place

-- the same, and no place where there is no frame
abbrev pub IsLastOf : Option Place → List (List Record) → Type 0
IsLastOf None frames = frames ≡ []
IsLastOf (Some place) frames = IsLast frames place

-- the extent of these frames: the byte of the gate behind them, and the number of their records
pub record IsExtent (extent : Extent) (frames : List (List Record)) : Type 0 where
  pub frameable : AllByRecursion IsFrameable frames
  pub gate : extent.gate ≡ length (spelled frames)
  pub count : extent.count ≡ length (joined frames)
  pub last : IsLastOf extent.last frames
