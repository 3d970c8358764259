use Rattle.std.proofs.Common.{ℕ, ◌≢◌, ◌<◌, get_or}
use Rattle.callback_manager.proofs.Kept.{no_ticket}
use Rattle.callback_manager.proofs.callbacks.find.Given as goal

abbrev pub invariant-loop-i : goal.invariant-loop-i
invariant-loop-i l = (k : ℕ) → k < l.i → (get_or l.tickets k no_ticket).number ≢ l.number
