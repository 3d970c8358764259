use Rattle.std.proofs.Common.{arith}
use Rattle.disk_model.proofs.Steps.{joins_trace}
use Rattle.disk_model.proofs.memory_disk.MemDiskDisk.size.Goals as goal

pub returns-clause-time : goal.returns-clause-time
returns-clause-time c =
    let old = c.args.self.now in
    let new = c.note-noted.new.self in
    let calls = old.tally.calls in
    joins_trace calls c.answer.new.self.calls old.trace new (omega (arith, c.answer.ensures.calls, c.begin-failing.ensures.calls)) (omega (arith, c.answer.ensures.calls, c.begin-failing.ensures.calls)) old.counted c.note-noted.ensures.count c.note-noted.ensures.past
