-- How a record is read as a checkpoint. What is read need not be well formed, and need not be all that the record has.
use Rattle.std.specs.Prelude.{ℕ, zero, suc, ◌≡◌, List, [], ◌∷◌, length, take, drop, Option, Some, None, Result, Ok, Err, nat_lt, if◌then◌else◌}
use Rattle.std.specs.Int.{Width, byte_len, from_be_bytes, w16, w32, w64}
use Rattle.samza_model.specs.declared.messages.Record.{Record}
use Rattle.samza_model.specs.declared.checkpoints.InputMark.{InputMark}
use Rattle.samza_model.specs.declared.checkpoints.StoreMark.{StoreMark}
use Rattle.samza_model.specs.declared.checkpoints.Checkpoint.{Checkpoint}
use Rattle.checkpoint_log.specs.declared.faults.CheckpointFault.{CheckpointFault}
use Rattle.checkpoint_log.specs.declared.faults.CheckpointFault.TheVariants.{Bad, NoMemory}

-- what was read, then more
infixl 10 ◌>>=◌
abbrev pub ◌>>=◌ : {A B : Type 0} → Option A → (A → Option B) → Option B
(Some x) >>= f = f x
None >>= f = None

-- the fault is the reading's, or want of memory
abbrev pub FailsCheckpoint : {Y : Type 0} → CheckpointFault → Option Y → Type 0
FailsCheckpoint NoMemory read = Unit {0}
FailsCheckpoint Bad read = read ≡ None

-- what a function returned, seen by view, is what the reading gives, unless memory ran out
abbrev pub GivesCheckpoint : {X Y : Type 0} → (X → Y) → Result X CheckpointFault → Option Y → Type 0
GivesCheckpoint view (Ok x) read = read ≡ Some (view x)
GivesCheckpoint view (Err e) read = FailsCheckpoint e read

unfoldable pub byte_at : List ℕ → Option (ℕ × List ℕ)
byte_at [] = None
byte_at (b ∷ rest) = Some (b, rest)

unfoldable pub number_at : Width → List ℕ → Option (ℕ × List ℕ)
number_at w bytes = if nat_lt (length bytes) (byte_len w) then None else Some (from_be_bytes w (take (byte_len w) bytes), drop (byte_len w) bytes)

unfoldable pub name_at : List ℕ → Option (List ℕ × List ℕ)
name_at bytes = do
  n ← byte_at bytes
  if nat_lt (length n.1) n.0 then None else Some (take n.0 n.1, drop n.0 n.1)

unfoldable pub input_at : List ℕ → Option (InputMark × List ℕ)
input_at bytes = do
  stream ← name_at bytes
  partition ← number_at w32 stream.1
  next ← number_at w64 partition.1
  Some (record { stream = stream.0; partition = partition.0; next = next.0 }, next.1)

unfoldable pub store_at : List ℕ → Option (StoreMark × List ℕ)
store_at bytes = do
  name ← name_at bytes
  count ← number_at w64 name.1
  Some (record { name = name.0; count = count.0 }, count.1)

-- so many, one after the other
unfoldable pub list_at : {A : Type 0} → (List ℕ → Option (A × List ℕ)) → ℕ → List ℕ → Option (List A × List ℕ)
list_at read zero bytes = Some ([], bytes)
list_at read (suc n) bytes = do
  first ← read bytes
  others ← list_at read n first.1
  Some (first.0 ∷ others.0, others.1)

-- the value's fields, behind the format's byte
unfoldable pub fields_at : ℕ → List ℕ → Option Checkpoint
fields_at id bytes = do
  i ← number_at w16 bytes
  inputs ← list_at input_at i.0 i.1
  s ← byte_at inputs.1
  stores ← list_at store_at s.0 s.1
  o ← byte_at stores.1
  outputs ← list_at name_at o.0 o.1
  Some (record { id = id; inputs = inputs.0; stores = stores.0; outputs = outputs.0 })

unfoldable pub checkpoint_at : Record → Option Checkpoint
checkpoint_at r = do
  id ← number_at w64 r.key
  value ← r.value
  format ← byte_at value
  fields_at id.0 format.1
