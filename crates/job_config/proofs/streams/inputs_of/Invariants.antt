use Rattle.std.proofs.Common.{◌≡◌, ◌++◌, map}
use Rattle.std.specs.Vec.Iter.{into_iter_items}
use Rattle.job_config.specs.Streams.{input_config}
use Rattle.job_config.proofs.streams.inputs_of.Given as goal

abbrev pub invariant-loop-stream : goal.invariant-loop-stream
invariant-loop-stream l = l.inputs.items ++ map input_config (into_iter_items l.stream-iterator) ≡ map input_config l.fn.streams
