-- The one spelling of a record, and of a frame of records. All numbers are big-endian.
use Rattle.std.specs.Prelude.{ℕ, List, ◌++◌, length, Option, Some, None}
use Rattle.std.specs.List.{flat_map}
use Rattle.std.specs.Int.{to_be_bytes, w32}
use Rattle.samza_model.specs.declared.messages.Record.{Record}

-- a length in 4 bytes, and the bytes
abbrev pub text_bytes : List ℕ → List ℕ
text_bytes text = to_be_bytes w32 (length text) ++ text

-- FFFFFFFF where there is no value
abbrev pub value_bytes : Option (List ℕ) → List ℕ
value_bytes None = to_be_bytes w32 0xFFFFFFFF
value_bytes (Some value) = text_bytes value

abbrev pub record_bytes : Record → List ℕ
record_bytes r = text_bytes r.key ++ value_bytes r.value

abbrev pub body_bytes : List Record → List ℕ
body_bytes records = flat_map record_bytes records

-- the length of the records part in 4 bytes, their number in 4 bytes, and the records
abbrev pub frame_bytes : List Record → List ℕ
frame_bytes records = to_be_bytes w32 (length (body_bytes records)) ++ (to_be_bytes w32 (length records) ++ body_bytes records)
