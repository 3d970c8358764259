-- How long a checkpoint's record is: at most 4 bytes, 64 inputs of 258 bytes, 8 stores of 73 and 8 outputs of 246.
use Rattle.std.proofs.Common.{ℕ, ◌≡◌, ◌*◌, ◌≤◌, List, [], ◌∷◌, ◌++◌, length, true, arith}
use Rattle.std.specs.List.{flat_map, AllByRecursion}
use Rattle.std.specs.Int.{to_be_bytes, w32, w64}
use Rattle.std.proofs.lemmas.List.{length-append}
use Rattle.samza_model.specs.declared.checkpoints.InputMark.{InputMark}
use Rattle.samza_model.specs.declared.checkpoints.StoreMark.{StoreMark}
use Rattle.samza_model.specs.declared.checkpoints.Checkpoint.{Checkpoint}
use Rattle.samza_model.specs.Names.{is_topic, is_system}
use Rattle.samza_model.specs.Limits.{IsWithinLimits}
use Rattle.samza_model.specs.Checkpoint.{name_bytes, input_bytes, store_bytes, checkpoint_value, checkpoint_record, FitsInput, IsWellFormed}
use Rattle.checkpoint_log.proofs.Spelled.{topic_short, system_short}

inputs_small : (xs : List InputMark) → AllByRecursion FitsInput xs → length (flat_map input_bytes xs) ≤ 258 * length xs
inputs_small [] fits = omega arith
inputs_small (x ∷ xs) fits =
    let n = length-append (name_bytes x.stream ++ to_be_bytes w32 x.partition) (to_be_bytes w64 x.next) in
    let m = length-append (name_bytes x.stream) (to_be_bytes w32 x.partition) in
    omega (arith, length-append (input_bytes x) (flat_map input_bytes xs), n, m, topic_short x.stream fits.0.name, inputs_small xs fits.1)

stores_small : (xs : List StoreMark) → AllByRecursion (λ s. is_system s.name ≡ true) xs → length (flat_map store_bytes xs) ≤ 73 * length xs
stores_small [] fits = omega arith
stores_small (x ∷ xs) fits =
    let n = length-append (name_bytes x.name) (to_be_bytes w64 x.count) in
    omega (arith, length-append (store_bytes x) (flat_map store_bytes xs), n, system_short x.name fits.0, stores_small xs fits.1)

outputs_small : (xs : List (List ℕ)) → AllByRecursion (λ o. is_topic o ≡ true) xs → length (flat_map name_bytes xs) ≤ 246 * length xs
outputs_small [] fits = omega arith
outputs_small (x ∷ xs) fits = omega (arith, length-append (name_bytes x) (flat_map name_bytes xs), topic_short x fits.0, outputs_small xs fits.1)

pub value_small : (c : Checkpoint) → IsWellFormed c → length (checkpoint_value c) ≤ 65536
value_small c formed =
    let outputs = flat_map name_bytes c.outputs in
    let stores = flat_map store_bytes c.stores in
    let inputs = flat_map input_bytes c.inputs in
    let last = length c.outputs ∷ outputs in
    omega (
      arith,
      length-append inputs (length c.stores ∷ (stores ++ last)),
      length-append stores last,
      inputs_small c.inputs formed.each_input,
      stores_small c.stores formed.each_store,
      outputs_small c.outputs formed.each_output,
      formed.few_inputs,
      formed.few_stores,
      formed.few_outputs,
    )

-- a checkpoint's record is within the limits
pub record_within : (c : Checkpoint) → IsWellFormed c → IsWithinLimits (checkpoint_record c)
record_within c formed = record { key = omega arith; value = value_small c formed }
