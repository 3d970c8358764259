use Rattle.std.proofs.Common.{ℕ, ◌≡◌, ◌<◌, ◌≤◌, get_or}
use Rattle.disk_model.specs.Traces.{without}
use Rattle.disk_model.specs.declared.traces.Entry.TheVariants.{Quiet}
use Rattle.disk_model.proofs.traces.forget.Given as goal

abbrev pub invariant-loop-i : goal.invariant-loop-i
invariant-loop-i l =
    ((k : ℕ) → k < l.i → get_or l.noted k Quiet ≡ without l.file (get_or l.initial.noted k Quiet)) × ((k : ℕ) → l.i ≤ k → get_or l.noted k Quiet ≡ get_or l.initial.noted k Quiet)
