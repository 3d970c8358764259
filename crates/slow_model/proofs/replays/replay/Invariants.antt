use Rattle.std.proofs.Common.{◌≡◌, drop}
use Rattle.samza_model.specs.Content.{replayed, foldrec}
use Rattle.slow_model.proofs.replays.replay.Given as goal

abbrev pub invariant-loop-r : goal.invariant-loop-r
invariant-loop-r l = replayed l.table (drop l.r-index l.records) ≡ foldrec l.records
