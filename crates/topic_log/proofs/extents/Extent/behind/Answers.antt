use Rattle.std.proofs.Common.{◌≡◌, ◌≤◌, ◌+◌, List, length, ap, ◌∙◌, arith}
use Rattle.std.proofs.lemmas.List.{take_all}
use Rattle.log_frame.proofs.Laws.{frame_large}
use Rattle.topic_log.specs.Steps.{closed_frames, record_count}
use Rattle.std.proofs.lemmas.Bool.Decides.{nat_tests}
use Rattle.topic_log.proofs.Logged.{some_frames, no_frames}
use Rattle.topic_log.proofs.Putting.{closed_fewer}
use Rattle.topic_log.proofs.Extending.{extending_none, extending_more, extending_done}
use Rattle.topic_log.proofs.extents.Extent.behind.Goals as goal

pub loop-frame-init : goal.loop-frame-init
loop-frame-init c = extending_none c.args.self c.args.frames.now

pub returns-then-is_empty-clause-limit : goal.returns-then-is_empty-clause-limit
returns-then-is_empty-clause-limit c = λ some.
    let none : length c.args.frames.now ≡ 0 = grind (arith, nat_tests) in
    absurd (some (no_frames c.args.frames.now none))

pub returns-then-extent-gt-FILE_LIMIT-clause-limit : goal.returns-then-extent-gt-FILE_LIMIT-clause-limit
returns-then-extent-gt-FILE_LIMIT-clause-limit c =
    let some : 1 ≤ length c.args.frames.now = grind (arith, nat_tests) in
    record { some = some_frames c.args.frames.now some; passes = omega (arith, c.loop-frame.invariant.gate, closed_fewer c.loop-frame.frame-index c.args.frames.now) }

pub grown-extent-requires-clause-counted : goal.grown-extent-requires-clause-counted
grown-extent-requires-clause-counted c =
    let framed = c.bytes.ensures.framed in
    omega (arith, c.count.ensures.value, framed.1.count_is, ap length c.bytes.ensures.value, ap length framed.1.bytes_are, frame_large framed.0 framed.1.frameable)

pub loop-frame-preserved : goal.loop-frame-preserved
loop-frame-preserved c =
    extending_more c.args.self c.loop-frame.extent c.grown-extent.result c.args.frames.now c.loop-frame.frame-index c.frame-item.result (length c.bytes.result.now) c.count.result
    c.loop-frame.invariant c.loop-frame-test.true c.frame-item.is (record { gate = c.grown-extent.ensures.gate; count_is = c.grown-extent.ensures.count; last = c.grown-extent.ensures.last })
    (ap length c.bytes.ensures.value) c.count.ensures.value

pub returns-then-extent-gt-FILE_LIMIT-2-clause-limit : goal.returns-then-extent-gt-FILE_LIMIT-2-clause-limit
returns-then-extent-gt-FILE_LIMIT-2-clause-limit c =
    let some : 1 ≤ length c.args.frames.now = grind (arith, nat_tests) in
    record { some = some_frames c.args.frames.now some; passes = omega (arith, c.loop-frame.invariant.gate, closed_fewer c.loop-frame.frame-index c.args.frames.now) }

pub returns-clause-limit : goal.returns-clause-limit
returns-clause-limit c = λ some. omega (arith, c.loop-frame.invariant.gate, ap (λ (l : List _). length (closed_frames l)) (take_all c.loop-frame.frame-index c.args.frames.now c.loop-frame-test.false))

pub returns-clause-count : goal.returns-clause-count
returns-clause-count c = c.loop-frame.invariant.count ∙ ap (λ (l : List _). c.args.self.count + record_count l) (take_all c.loop-frame.frame-index c.args.frames.now c.loop-frame-test.false)

pub returns-clause-gate : goal.returns-clause-gate
returns-clause-gate c = c.loop-frame.invariant.gate ∙ ap (λ (l : List _). c.args.self.gate + length (closed_frames l)) (take_all c.loop-frame.frame-index c.args.frames.now c.loop-frame-test.false)

pub returns-clause-frames : goal.returns-clause-frames
returns-clause-frames c = extending_done c.args.self c.loop-frame.extent c.args.frames.now c.loop-frame.frame-index c.loop-frame-test.false c.loop-frame.invariant
