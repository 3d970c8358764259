use Rattle.std.proofs.Common.{◌≡◌, length, take}
use Rattle.std.specs.Prelude.{filter}
use Rattle.samza_model.specs.Journals.{belongs}
use Rattle.packed_events.specs.Packed.{bytes_of}
use Rattle.packed_events.proofs.packed.Packed.kept.Given as goal

abbrev pub invariant-loop-i : goal.invariant-loop-i
invariant-loop-i l = record {
  made_is : l.made ≡ filter (belongs l.numbers) (take l.i l.self);
  from_is : l.from ≡ length (bytes_of (take l.i l.self));
}
