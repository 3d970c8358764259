use Rattle.std.proofs.Common.{◌≡◌, ◌++◌, ◌<◌, ◌^◌, drop}
use Rattle.std.specs.List.{flat_map, AllByRecursion}
use Rattle.samza_model.specs.Checkpoint.{input_bytes}
use Rattle.checkpoint_log.proofs.encoding.put_inputs.Given as goal

abbrev pub invariant-loop-input : goal.invariant-loop-input
invariant-loop-input l = (l.out.items ++ flat_map input_bytes (drop l.input-index l.inputs) ≡ l.fn.out.items ++ flat_map input_bytes l.inputs)
    × (AllByRecursion (λ i. i.next < 2 ^ 64) (drop l.input-index l.inputs) → AllByRecursion (λ i. i.next < 2 ^ 64) l.inputs)
