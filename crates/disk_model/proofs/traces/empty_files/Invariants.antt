use Rattle.std.proofs.Common.{◌≡◌, [], replicate}
use Rattle.disk_model.proofs.traces.empty_files.Given as goal

abbrev pub invariant-loop-i : goal.invariant-loop-i
invariant-loop-i l = l.files.items ≡ replicate l._i (record { bytes = []; room = l.room })
