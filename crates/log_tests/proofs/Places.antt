-- The place behind the batch that was read.
use Rattle.std.proofs.Common.{List, [], ◌∷◌, ◌++◌, Option, Some, None, Result, Ok, Err, IfOk, IfSome}
use Rattle.samza_model.specs.declared.messages.Record.{Record}
use Rattle.samza_model.specs.Files.{Image}
use Rattle.topic_log.specs.declared.extents.Place.{Place}
use Rattle.topic_log.specs.declared.logs.Log.{Log}
use Rattle.topic_log.specs.Batches.{HasPlace, IsNext}
use Rattle.topic_log.specs.Opened.{IsOpen}

module _ (reads reads' : Image) (images images' : Image → Type 0) (log log' : Log) where
  pub place_behind : {E : Type 0} (tells : Type 0) (read : Result (Option (List Record × Place)) E) (place : Place)
      → IfOk read (λ o. tells → (frames before : List (List Record)) → HasPlace reads images log place frames before → IsNext frames before o)
      → (tells → (frames before : List (List Record)) × HasPlace reads images log place frames before)
      → (tells → (frames : List (List Record)) → IsOpen reads images log frames → IsOpen reads' images' log' frames)
      → IfOk read (λ o. IfSome o (λ b. tells → (frames before : List (List Record)) × HasPlace reads' images' log' b.1 frames before))
  place_behind tells (Ok (Some batch)) place next at stays = λ told.
      let p = at told in
      (p.0, p.1 ++ batch.0 ∷ [], record { opened = stays told p.0 p.2.opened; stands = next told p.0 p.1 p.2 })
  place_behind tells (Ok None) place next at stays = tt
  place_behind tells (Err e) place next at stays = tt
