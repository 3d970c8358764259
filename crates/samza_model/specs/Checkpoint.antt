-- The one spelling of a checkpoint as a record: its number is the key, and the value lists inputs, stores and outputs.
use Rattle.std.specs.Prelude.{ℕ, ◌≡◌, ◌<◌, ◌≤◌, ◌^◌, List, [], ◌∷◌, ◌++◌, length, Some, Bool, true, false, ◌==◌, if◌then◌else◌}
use Rattle.std.specs.List.{flat_map, list_any, AllByRecursion}
use Rattle.std.specs.Int.{to_be_bytes, w16, w32, w64}
use Rattle.std.specs.Ordering.{nat_cmp, is_lt, ordering_then}
use Rattle.std.specs.Cmp.Lexicographic.{pointwise, slice_cmp}
use Rattle.samza_model.specs.declared.messages.Record.{Record}
use Rattle.samza_model.specs.declared.checkpoints.InputMark.{InputMark}
use Rattle.samza_model.specs.declared.checkpoints.StoreMark.{StoreMark}
use Rattle.samza_model.specs.declared.checkpoints.Checkpoint.{Checkpoint}
use Rattle.samza_model.specs.Limits.{store_limit, output_limit}
use Rattle.samza_model.specs.Names.{is_topic, is_system}

-- a length in one byte, and the name
abbrev pub name_bytes : List ℕ → List ℕ
name_bytes name = length name ∷ name

abbrev pub input_bytes : InputMark → List ℕ
input_bytes i = name_bytes i.stream ++ to_be_bytes w32 i.partition ++ to_be_bytes w64 i.next

abbrev pub store_bytes : StoreMark → List ℕ
store_bytes s = name_bytes s.name ++ to_be_bytes w64 s.count

-- format 1: inputs, stores, outputs, each list behind its number
abbrev pub checkpoint_value : Checkpoint → List ℕ
checkpoint_value c = 1 ∷ (to_be_bytes w16 (length c.inputs) ++ (flat_map input_bytes c.inputs
    ++ (length c.stores ∷ (flat_map store_bytes c.stores ++ (length c.outputs ∷ flat_map name_bytes c.outputs)))))

abbrev pub checkpoint_record : Checkpoint → Record
checkpoint_record c = record { key = to_be_bytes w64 c.id; value = Some (checkpoint_value c) }

-- the order of inputs: by name, then by partition
abbrev pub is_before : InputMark → InputMark → Bool
is_before a b = is_lt (ordering_then (slice_cmp nat_cmp a.stream b.stream) (nat_cmp a.partition b.partition))

abbrev pub inputs_rise_behind : InputMark → List InputMark → Bool
inputs_rise_behind last [] = true
inputs_rise_behind last (x ∷ xs) = if is_before last x then inputs_rise_behind x xs else false

abbrev pub inputs_rise : List InputMark → Bool
inputs_rise [] = true
inputs_rise (x ∷ xs) = inputs_rise_behind x xs

abbrev pub stores_rise_behind : StoreMark → List StoreMark → Bool
stores_rise_behind last [] = true
stores_rise_behind last (x ∷ xs) = if is_lt (slice_cmp nat_cmp last.name x.name) then stores_rise_behind x xs else false

abbrev pub stores_rise : List StoreMark → Bool
stores_rise [] = true
stores_rise (x ∷ xs) = stores_rise_behind x xs

-- no name stands twice
abbrev pub are_distinct : List (List ℕ) → Bool
are_distinct [] = true
are_distinct (x ∷ xs) = if list_any (λ y. pointwise ◌==◌ x y) xs then false else are_distinct xs

pub record FitsInput (i : InputMark) : Type 0 where
  pub name : is_topic i.stream ≡ true
  pub partition : i.partition < 256

-- what is asked of a checkpoint's lists
pub record IsWellFormed (c : Checkpoint) : Type 0 where
  pub few_inputs : length c.inputs ≤ 64
  pub few_stores : length c.stores ≤ store_limit
  pub few_outputs : length c.outputs ≤ output_limit
  pub each_input : AllByRecursion FitsInput c.inputs
  pub each_store : AllByRecursion (λ s. is_system s.name ≡ true) c.stores
  pub each_output : AllByRecursion (λ o. is_topic o ≡ true) c.outputs
  pub inputs_rise : inputs_rise c.inputs ≡ true
  pub stores_rise : stores_rise c.stores ≡ true
  pub outputs_distinct : are_distinct c.outputs ≡ true

-- its numbers are within 64 bits
pub record IsInRange (c : Checkpoint) : Type 0 where
  pub id : c.id < 2 ^ 64
  pub nexts : AllByRecursion (λ i. i.next < 2 ^ 64) c.inputs
  pub counts : AllByRecursion (λ s. s.count < 2 ^ 64) c.stores

-- the record spells this checkpoint
pub record Spells (c : Checkpoint) (r : Record) : Type 0 where
  pub formed : IsWellFormed c
  pub ranges : IsInRange c
  pub is : r ≡ checkpoint_record c

-- What a record of a checkpoint file stands for. A commit writes it so, in the one format that there is.
abbrev pub StandsFor : Record → Checkpoint → Type 0
StandsFor r c = Spells c r
