-- The records of a file that is read at once.
use Rattle.std.specs.Prelude.{ℕ, ◌≡◌, List, ◌∷◌, ◌++◌, length, Option, Some, None}
use Rattle.samza_model.specs.declared.messages.Record.{Record}
use Rattle.samza_model.specs.Frames.{frame_bytes}
use Rattle.samza_model.specs.Limits.{IsFrameable}
use Rattle.log_frame.specs.declared.decoding.Decoded.{Decoded}
use Rattle.topic_log.specs.Walks.{IsClosed}

-- an open gate, and the frame of these records behind it
pub record HasRecords (bytes : List ℕ) (records : List Record) (used : ℕ) : Type 0 where
  pub rest : List ℕ
  pub split : bytes ≡ 0x4F ∷ (frame_bytes records ++ rest)
  pub fits : IsFrameable records
  pub used_is : used ≡ length (frame_bytes records)

abbrev pub IsListed : Option Decoded → List ℕ → Type 0
IsListed None bytes = IsClosed bytes
IsListed (Some d) bytes = HasRecords bytes d.records d.used
