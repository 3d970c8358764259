use Rattle.std.proofs.Common.{◌≡◌, map, take}
use Rattle.offset_window.specs.Windows.{Window}
use Rattle.task_core.proofs.planning.lows_of.Given as goal

abbrev pub invariant-loop-i : goal.invariant-loop-i
invariant-loop-i l = l.lows.items ≡ map (λ (w : Window). w.low) (take l.i l.lanes)
