-- Where a file stops being a log.
use Rattle.std.specs.Prelude.{ℕ, ◌≡◌, ◌+◌, ◌≤◌, List, [], ◌∷◌, ◌++◌, length, Err}
use Rattle.std.specs.List.{AllByRecursion}
use Rattle.samza_model.specs.declared.messages.Record.{Record}
use Rattle.samza_model.specs.Limits.{IsFrameable}
use Rattle.samza_model.specs.Logs.{spelled}
use Rattle.log_frame.specs.Reading.{frame_at}

-- of the bytes from a place of the file on: reading a frame stops at this place of the file
pub record StopsAt (bytes : List ℕ) (from at : ℕ) : Type 0 where
  pub place : ℕ
  pub stops : frame_at bytes ≡ Err place
  pub at_is : at ≡ from + place

-- of what stands from this byte on: no gate, or an open gate behind which reading a frame stops
abbrev pub IsDamage : List ℕ → ℕ → ℕ → Type 0
IsDamage [] gate at = at ≡ gate
IsDamage (g ∷ behind) gate at = (g ≡ 0x4F) × StopsAt behind (gate + 1) at

-- The file is no log: behind these frames no gate follows, at the file's size, or an open gate with no frame, at the byte
-- at which reading one stops.
pub record IsDamagedAt (bytes : List ℕ) (at : ℕ) : Type 0 where
  pub frames : List (List Record)
  pub rest : List ℕ
  pub split : bytes ≡ spelled frames ++ rest
  pub frameable : AllByRecursion IsFrameable frames
  pub long : 2 ≤ length bytes
  pub here : IsDamage rest (length (spelled frames)) at
