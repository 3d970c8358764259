use Rattle.std.proofs.Common.{◌≡◌, ◌++◌, drop}
use Rattle.samza_model.specs.Logs.{spelled}
use Rattle.slow_logs.proofs.spellings.spell_log.Given as goal

abbrev pub invariant-loop-records : goal.invariant-loop-records
invariant-loop-records l = l.out.items ++ spelled (drop l.records-index l.frames) ≡ spelled l.frames
