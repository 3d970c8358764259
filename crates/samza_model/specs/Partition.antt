-- A partition of a stream: its first offset and its messages, each at the offset behind the one before.
use Rattle.std.specs.Prelude.{ℕ, ◌+◌, ◌-◌, List, [], ◌∷◌, length, Option, None, nat_le, slice_get, if◌then◌else◌}
use Rattle.samza_model.specs.declared.messages.Record.{Record}
use Rattle.samza_model.specs.declared.messages.Ssp.{Ssp}
use Rattle.samza_model.specs.declared.messages.Envelope.{Envelope}

pub record Partition : Type 0 where
  pub first : ℕ
  pub records : List Record

-- the partition that a topic file's records are: their offsets begin at 0
abbrev pub partition_of : List Record → Partition
partition_of records = record { first = 0; records = records }

-- the offset behind the last message
abbrev pub end_of : Partition → ℕ
end_of p = p.first + length p.records

-- the message at an offset; there is none below the first, or from the end on
abbrev pub message : Partition → ℕ → Option Record
message p offset = if nat_le p.first offset then slice_get p.records (offset - p.first) else None

-- messages with their places, of which the first stands at this offset
abbrev pub envelopes : Ssp → ℕ → List Record → List Envelope
envelopes ssp offset [] = []
envelopes ssp offset (r ∷ rs) = record { ssp = ssp; offset = offset; body = r } ∷ envelopes ssp (offset + 1) rs
