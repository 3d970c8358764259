use Rattle.std.proofs.Common.{◌≡◌, ◌+◌, List, ◌∷◌, [], ◌++◌, length, take, ap, subst, sym, ◌∙◌, arith, length-append}
use Rattle.std.proofs.lemmas.List.{take_all}
use Rattle.log_frame.specs.Frame.{FrameView}
use Rattle.topic_log.specs.Moves.{KeepsFront}
use Rattle.topic_log.specs.Steps.{closed_frames, Extended}
use Rattle.topic_log.proofs.Moving.{no_call}
use Rattle.topic_log.proofs.Bytes.{front_none}
use Rattle.topic_log.proofs.Writing.{writing_none, writing_more, writing_stops, closed-more, closed_part}
use Rattle.topic_log.proofs.staging.write_frames.Goals as goal

pub loop-frame-init : goal.loop-frame-init
loop-frame-init g c =
    let disk = g.D.Disk in
    let old = c.args.disk.now in
    let law = (g.met.D.Disk g.world.𝓛 g.world.𝓜 g.world.𝓡 ((λ s x. x), (λ x. x), (λ x. x), λ x. x)) in
    writing_none disk.tells disk.reads disk.call_number disk.images disk.images_since disk.fault_count disk.name old c.args.file c.args.at
    (λ told. no_call disk.reads disk.call_number disk.images disk.images_since old (KeepsFront c.args.file c.args.at) (λ f left. law.only_now old f told left) (λ f. front_none c.args.file c.args.at f) (law.read_is_image old told))

pub write-requires-after_bounds : goal.write-requires-after_bounds
write-requires-after_bounds g c κs within = λ told.
    let inv = c.loop-frame.invariant in
    let here = (inv.written told).here in
    omega (arith, inv.ends, c.requires.at told, ap length here, length-append (g.D.Disk.reads c.args.disk.now c.args.file) (closed_frames (take c.loop-frame.frame-index c.args.frames.now)))

pub returns-in_err-write-clause-moves : goal.returns-in_err-write-clause-moves
returns-in_err-write-clause-moves g c =
    let disk = g.D.Disk in
    writing_stops disk.tells disk.reads disk.call_number disk.images disk.images_since disk.fault_count disk.name c.args.disk.now c.loop-frame.disk c.write.new.disk c.args.file c.args.at c.loop-frame.end (length c.gated-gated.result.now)
    (closed_frames (take c.loop-frame.frame-index c.args.frames.now)) c.loop-frame.invariant c.write.ensures.moves

pub overflow_add-end : goal.overflow_add-end
overflow_add-end g c =
    let part = closed_part c.args.frames.now c.loop-frame.frame-index c.frame-item.result c.loop-frame-test.true c.frame-item.is in
    let long : length c.gated-gated.result.now ≡ length c.frame-item.result.bytes + 1 = ap length c.gated-gated.ensures.value ∙ length-append c.frame-item.result.bytes (0x43 ∷ []) in
    omega (arith, c.loop-frame.invariant.ends, c.requires.small)

pub loop-frame-preserved : goal.loop-frame-preserved
loop-frame-preserved g c =
    let disk = g.D.Disk in
    writing_more disk.tells disk.reads disk.call_number disk.images disk.images_since disk.fault_count disk.name c.args.disk.now c.loop-frame.disk c.write.new.disk c.args.file c.args.at c.loop-frame.end
    (closed_frames (take c.loop-frame.frame-index c.args.frames.now)) c.gated-gated.result.now (closed_frames (take (c.loop-frame.frame-index + 1) c.args.frames.now))
    c.loop-frame.invariant c.requires.at c.in_ok-write.ensures.written c.write.ensures.moves c.write.ensures.later c.write.ensures.name
    (closed-more c.args.frames.now c.loop-frame.frame-index c.frame-item.result c.loop-frame-test.true c.frame-item.is ∙ ap (λ (l : List _). closed_frames (take c.loop-frame.frame-index c.args.frames.now) ++ l) (sym c.gated-gated.ensures.value))

pub returns-clause-written : goal.returns-clause-written
returns-clause-written g c = λ told.
    subst (λ (l : List FrameView). Extended c.args.file (closed_frames l) (g.D.Disk.reads c.args.disk.now) (g.D.Disk.reads c.loop-frame.disk)) (take_all c.loop-frame.frame-index c.args.frames.now c.loop-frame-test.false) (c.loop-frame.invariant.written told)
