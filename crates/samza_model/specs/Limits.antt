-- The limits of keys, values, acts and frames.
use Rattle.std.specs.Prelude.{ℕ, ◌^◌, ◌≤◌, List, length, Bool, true, ◌&&◌, nat_le, nat_lt, IfSome, Option, Some, None}
use Rattle.std.specs.List.{AllByRecursion}
use Rattle.samza_model.specs.declared.messages.Record.{Record}
use Rattle.samza_model.specs.declared.acts.Act.{Act}
use Rattle.samza_model.specs.declared.acts.Act.TheVariants.{Get, Next, Put, Delete, Send, AskCommit, AskShutdown, Done, Fail}
use Rattle.samza_model.specs.declared.setups.Setup.{Setup}

-- a log's file has at most so many bytes
abbrev pub file_limit : ℕ
file_limit = 2 ^ 40

-- what is appended in one go goes into frames of at most so many records, but for a store's changes, which have their own batch
abbrev pub frame_batch : ℕ
frame_batch = 500

-- a task has at most so many stores, and so many outputs
abbrev pub store_limit : ℕ
store_limit = 8

abbrev pub output_limit : ℕ
output_limit = 8

-- a key has at most so many bytes, and a value
abbrev pub key_limit : ℕ
key_limit = 1024

abbrev pub value_limit : ℕ
value_limit = 65536

-- a record's key and value are no longer
pub record IsWithinLimits (r : Record) : Type 0 where
  pub key : length r.key ≤ key_limit
  pub value : IfSome r.value (λ v. length v ≤ value_limit)

-- the records of a frame: 1 to 4,096, within the limits
pub record IsFrameable (records : List Record) : Type 0 where
  pub some : 1 ≤ length records
  pub few : length records ≤ 4096
  pub limits : AllByRecursion IsWithinLimits records

-- the same of a key and of a value, as tests
abbrev pub key_fits : List ℕ → Bool
key_fits key = nat_le (length key) key_limit

abbrev pub value_fits : Option (List ℕ) → Bool
value_fits None = true
value_fits (Some value) = nat_le (length value) value_limit

-- whether an act names a store or an output that is there, with a key and a value that aren't too long
abbrev pub act_fits : Setup → Act → Bool
act_fits s (Get store key) = nat_lt store (length s.stores) && key_fits key
act_fits s (Next store key) = nat_lt store (length s.stores) && key_fits key
act_fits s (Put store key value) = nat_lt store (length s.stores) && key_fits key && value_fits (Some value)
act_fits s (Delete store key) = nat_lt store (length s.stores) && key_fits key
act_fits s (Send output body) = nat_lt output (length s.outputs) && key_fits body.key && value_fits body.value
act_fits s (AskCommit scope) = true
act_fits s (AskShutdown scope) = true
act_fits s Done = true
act_fits s (Fail code) = true
