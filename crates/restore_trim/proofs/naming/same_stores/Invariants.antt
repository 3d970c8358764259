use Rattle.std.proofs.Common.{◌≡◌, take}
use Rattle.samza_model.specs.Restored.{mark_names, setup_names}
use Rattle.restore_trim.proofs.naming.same_stores.Given as goal

abbrev pub invariant-loop-i : goal.invariant-loop-i
invariant-loop-i l = mark_names (take l.i l.marks) ≡ setup_names (take l.i l.stores)
