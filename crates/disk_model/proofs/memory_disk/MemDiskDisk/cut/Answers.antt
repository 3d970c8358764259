use Rattle.std.proofs.Common.{arith, inl, inr}
use Rattle.std.proofs.lemmas.Bool.{cases_Bool}
use Rattle.disk_model.proofs.Steps.{follows_cut, joins_trace, keeps_same, not_cut}
use Rattle.disk_model.specs.Formed.{formed}
use Rattle.disk_model.specs.TraceWords.{now_of}
use Rattle.disk_model.proofs.memory_disk.MemDiskDisk.cut.Goals as goal

pub returns-clause-time : goal.returns-clause-time
returns-clause-time c =
    let old = c.args.self.now in
    let new = c.cut-made.new.self in
    let calls = old.tally.calls in
    joins_trace calls c.answer.new.self.calls old.trace new (omega (arith, c.answer.ensures.calls, c.begin-failing.ensures.calls)) (omega (arith, c.answer.ensures.calls, c.begin-failing.ensures.calls)) old.counted c.cut-made.ensures.count c.cut-made.ensures.past

pub returns-clause-crash : goal.returns-clause-crash
returns-clause-crash c =
    let old = c.args.self.now.trace in
    let new = c.cut-made.new.self in
    elim (cases_Bool c.cut-made.result) [
      | inl made ↦
          follows_cut c.args.file c.args.size (now_of old) (now_of new) (c.cut-made.ensures.made made)
          (formed old.start.items old.noted.items old.written.items c.args.file)
      | inr spared ↦ λ x now.
          (x, keeps_same (now_of old) (now_of new) (c.cut-made.ensures.spared spared) x now, not_cut c.args.file c.args.size x)
    ]
