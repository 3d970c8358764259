use Rattle.std.proofs.Common.{◌≡◌, ℕ, ◌<◌, ◌==◌, false, get_or}
use Rattle.checkpoint_log.proofs.names.first_dot.Given as goal

abbrev pub invariant-loop-dot : goal.invariant-loop-dot
invariant-loop-dot l = (k : ℕ) → k < l.dot → (get_or l.name k 0 == 46) ≡ false
