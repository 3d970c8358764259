use Rattle.std.proofs.Common.{◌≡◌, take, map}
use Rattle.samza_model.specs.Restored.{marked_place, setup_place}
use Rattle.restore_trim.proofs.naming.same_inputs.Given as goal

abbrev pub invariant-loop-i : goal.invariant-loop-i
invariant-loop-i l = map marked_place (take l.i l.marks) ≡ map setup_place (take l.i l.inputs)
