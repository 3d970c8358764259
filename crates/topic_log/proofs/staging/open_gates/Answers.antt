use Rattle.std.proofs.Common.{◌+◌, List, length, ap, arith}
use Rattle.topic_log.specs.Moves.{KeepsFront}
use Rattle.topic_log.proofs.Moving.{no_call}
use Rattle.topic_log.proofs.Bytes.{front_none}
use Rattle.topic_log.proofs.Writing.{opening_none, opening_more, opening_stops, opening_done, closed_part, gate_inside}
use Rattle.topic_log.proofs.staging.open_gates.Goals as goal

pub loop-frame-init : goal.loop-frame-init
loop-frame-init g c =
    let disk = g.D.Disk in
    let old = c.args.disk.now in
    let law = (g.met.D.Disk g.world.𝓛 g.world.𝓜 g.world.𝓡 ((λ s x. x), (λ x. x), (λ x. x), λ x. x)) in
    opening_none disk.tells disk.reads disk.call_number disk.images disk.images_since disk.fault_count disk.name old c.args.file c.args.at c.args.frames.now c.requires.closed
    (λ told. no_call disk.reads disk.call_number disk.images disk.images_since old (KeepsFront c.args.file c.args.at) (λ f left. law.only_now old f told left) (λ f. front_none c.args.file c.args.at f) (law.read_is_image old told))

pub overflow_add-gate : goal.overflow_add-gate
overflow_add-gate g c =
    let part = closed_part c.args.frames.now c.loop-frame.frame-index c.frame-item.result c.loop-frame-test.true c.frame-item.is in
    omega (arith, c.loop-frame.invariant.ends, c.requires.small, ap length c.bytes.ensures.value)

pub write-requires-after_bounds : goal.write-requires-after_bounds
write-requires-after_bounds g c κs within = λ told.
    let inv = c.loop-frame.invariant in
    let inside = gate_inside (g.D.Disk.reads c.args.disk.now c.args.file) (g.D.Disk.reads c.loop-frame.disk c.args.file) c.args.frames.now c.args.at c.loop-frame.frame-index c.frame-item.result
    (c.requires.inside told) c.loop-frame-test.true c.frame-item.is (inv.opened told).here in
    omega (arith, inv.ends, ap length c.bytes.ensures.value)

pub returns-in_err-write-clause-moves : goal.returns-in_err-write-clause-moves
returns-in_err-write-clause-moves g c =
    let disk = g.D.Disk in
    opening_stops disk.tells disk.reads disk.call_number disk.images disk.images_since disk.fault_count disk.name c.args.disk.now c.loop-frame.disk c.write.new.disk c.args.file c.args.at c.loop-frame.end c.loop-frame.frame-index (c.loop-frame.end + length c.bytes.result.now)
    c.args.frames.now c.loop-frame.invariant (omega arith) c.write.ensures.moves

pub overflow_add-end : goal.overflow_add-end
overflow_add-end g c =
    let part = closed_part c.args.frames.now c.loop-frame.frame-index c.frame-item.result c.loop-frame-test.true c.frame-item.is in
    omega (arith, c.loop-frame.invariant.ends, c.requires.small, ap length c.bytes.ensures.value)

pub loop-frame-preserved : goal.loop-frame-preserved
loop-frame-preserved g c =
    let disk = g.D.Disk in
    opening_more disk.tells disk.reads disk.call_number disk.images disk.images_since disk.fault_count disk.name c.args.disk.now c.loop-frame.disk c.write.new.disk c.args.file c.args.at c.loop-frame.end c.loop-frame.frame-index
    c.args.frames.now c.frame-item.result (c.loop-frame.end + length c.bytes.result.now) c.loop-frame.invariant c.loop-frame-test.true c.frame-item.is (ap (λ (l : List _). c.loop-frame.end + length l) c.bytes.ensures.value)
    c.requires.inside c.in_ok-write.ensures.written c.write.ensures.moves c.write.ensures.later c.write.ensures.name

pub returns-clause-opened : goal.returns-clause-opened
returns-clause-opened g c = λ told.
    opening_done c.args.file c.args.at c.loop-frame.frame-index c.args.frames.now (g.D.Disk.reads c.args.disk.now) (g.D.Disk.reads c.loop-frame.disk) c.loop-frame-test.false (c.loop-frame.invariant.opened told)
