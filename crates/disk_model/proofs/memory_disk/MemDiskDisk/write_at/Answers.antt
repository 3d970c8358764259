use Rattle.std.proofs.Common.{◌≤◌, length, ap, arith, inl, inr}
use Rattle.std.proofs.lemmas.Bool.{cases_Bool}
use Rattle.disk_model.proofs.Steps.{follows_written, joins_trace, keeps_same, not_torn}
use Rattle.disk_model.specs.Formed.{formed}
use Rattle.disk_model.specs.TraceWords.{now_of}
use Rattle.disk_model.proofs.memory_disk.MemDiskDisk.write_at.Goals as goal

pub returns-clause-time : goal.returns-clause-time
returns-clause-time c =
    let old = c.args.self.now in
    let new = c.write-made.new.self in
    let calls = old.tally.calls in
    joins_trace calls c.answer.new.self.calls old.trace new (omega (arith, c.answer.ensures.calls, c.begin-failing.ensures.calls)) (omega (arith, c.answer.ensures.calls, c.begin-failing.ensures.calls)) old.counted c.write-made.ensures.count c.write-made.ensures.past

pub returns-clause-crash : goal.returns-clause-crash
returns-clause-crash c =
    let old = c.args.self.now.trace in
    let new = c.write-made.new.self in
    let fits : c.args.at ≤ length (now_of old c.args.file).now = omega (arith, c.requires, ap length (old.kept c.args.file)) in
    elim (cases_Bool c.write-made.result) [
      | inl made ↦
          follows_written c.args.file c.args.at c.args.bytes.now (now_of old) (now_of new) (c.write-made.ensures.made made)
          (formed old.start.items old.noted.items old.written.items c.args.file) fits
      | inr spared ↦ λ x now.
          (x, keeps_same (now_of old) (now_of new) (c.write-made.ensures.spared spared) x now, not_torn c.args.file c.args.at (length c.args.bytes.now) x)
    ]
