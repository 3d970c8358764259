use Rattle.std.proofs.Common.{◌≡◌, map, take}
use Rattle.samza_container.specs.SetUp.{input_setup}
use Rattle.samza_container.proofs.setups.partitions_of.Given as goal

abbrev pub invariant-loop-input : goal.invariant-loop-input
invariant-loop-input l = l.setups.items ≡ map input_setup (take l.input-index l.inputs)
