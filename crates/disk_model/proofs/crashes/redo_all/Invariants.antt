use Rattle.std.proofs.Common.{ℕ, ◌≡◌, take}
use Rattle.disk_model.specs.Picks.{IsCrashOf, SameRooms}
use Rattle.disk_model.specs.Traces.{bytes_at, file_state}
use Rattle.disk_model.proofs.crashes.redo_all.Given as goal

abbrev pub invariant-loop-i : goal.invariant-loop-i
invariant-loop-i l = record {
  file_rooms : SameRooms l.initial.files.items l.files.items;
  torn_rooms : SameRooms l.initial.torn.items l.torn.items;
  read : (f : ℕ) → bytes_at l.files.items f ≡ (file_state l.initial.torn.items (take l.i l.noted) l.written f).now;
  torn : (f : ℕ) → IsCrashOf l.pick (file_state l.initial.torn.items (take l.i l.noted) l.written f) (bytes_at l.torn.items f);
}
