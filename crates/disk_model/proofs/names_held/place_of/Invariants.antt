use Rattle.std.proofs.Common.{ℕ, ◌≡◌, ◌<◌, false}
use Rattle.disk_model.proofs.ByName.{named_at}
use Rattle.disk_model.proofs.names_held.place_of.Given as goal

abbrev pub invariant-loop-i : goal.invariant-loop-i
invariant-loop-i g l = (k : ℕ) → k < l.i → named_at l.slots l.name k ≡ false
