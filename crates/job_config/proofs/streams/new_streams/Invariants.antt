use Rattle.std.proofs.Common.{◌≡◌, map, take}
use Rattle.job_config.specs.Streams.{new_stream}
use Rattle.job_config.proofs.streams.new_streams.Given as goal

abbrev pub invariant-loop-name : goal.invariant-loop-name
invariant-loop-name l = l.streams.items ≡ map new_stream (take l.name-index l.names)
