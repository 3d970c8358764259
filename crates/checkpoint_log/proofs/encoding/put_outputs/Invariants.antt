use Rattle.std.proofs.Common.{◌≡◌, ◌++◌, drop}
use Rattle.std.specs.List.{flat_map}
use Rattle.samza_model.specs.Checkpoint.{name_bytes}
use Rattle.checkpoint_log.proofs.encoding.put_outputs.Given as goal

abbrev pub invariant-loop-output : goal.invariant-loop-output
invariant-loop-output l = l.out.items ++ flat_map name_bytes (drop l.output-index l.outputs) ≡ l.fn.out.items ++ flat_map name_bytes l.outputs
