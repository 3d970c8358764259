use Rattle.std.proofs.Common.{◌≡◌, drop}
use Rattle.samza_model.specs.Journals.{is_among}
use Rattle.packed_events.proofs.seen.is_among.Given as goal

abbrev pub invariant-loop-other : goal.invariant-loop-other
invariant-loop-other l = is_among l.numbers l.number ≡ is_among (drop l.other-index l.numbers) l.number
