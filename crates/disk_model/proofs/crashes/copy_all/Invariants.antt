use Rattle.std.proofs.Common.{ℕ, ◌≡◌, ◌<◌}
use Rattle.disk_model.specs.Picks.{SameRooms}
use Rattle.disk_model.specs.Traces.{bytes_at}
use Rattle.disk_model.proofs.crashes.copy_all.Given as goal

abbrev pub invariant-loop-i : goal.invariant-loop-i
invariant-loop-i l =
    record { rooms : SameRooms l.initial.files.items l.files.items; below : (k : ℕ) → k < l.i → bytes_at l.files.items k ≡ bytes_at l.others k }
