use Rattle.std.proofs.Common.{◌≡◌, map, take}
use Rattle.samza_container.proofs.setups.inputs_of.Given as goal

abbrev pub invariant-loop-input : goal.invariant-loop-input
invariant-loop-input l = l.inputs.items ≡ map (λ i. i.ssp) (take l.input-index l.setup.inputs)
