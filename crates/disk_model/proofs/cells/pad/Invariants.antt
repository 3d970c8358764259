use Rattle.std.proofs.Common.{◌≡◌, ◌≤◌, ◌++◌, replicate}
use Rattle.std.specs.Prelude.{vec_capacity}
use Rattle.disk_model.proofs.cells.pad.Given as goal

abbrev pub invariant-loop-i : goal.invariant-loop-i
invariant-loop-i l = (l.cells.items ≡ l.initial.cells.items ++ replicate l._i l.value) × (vec_capacity l.initial.cells ≤ vec_capacity l.cells)
