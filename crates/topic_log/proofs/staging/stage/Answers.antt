use Rattle.std.proofs.Common.{◌-◌, List, length, ap, subst, sym, arith}
use Rattle.std.proofs.lemmas.Result.{on_ok_weaker}
use Rattle.samza_model.specs.Files.{Image}
use Rattle.disk_model.specs.Images.{Only}
use Rattle.topic_log.specs.Moves.{KeepsFront}
use Rattle.topic_log.specs.Steps.{staged, closed_frames, HasClosed, OpensGates, Extended}
use Rattle.topic_log.proofs.Moving.{then, then_still}
use Rattle.topic_log.proofs.Bytes.{front_then}
use Rattle.topic_log.proofs.Putting.{stage_closed, stage_inside, stage_done, closed_fewer}
use Rattle.topic_log.proofs.staging.stage.Goals as goal

pub open_gates-requires-clause-closed : goal.open_gates-requires-clause-closed
open_gates-requires-clause-closed g c κs within = λ told.
    let disk = g.D.Disk in
    subst (λ (l : List _). HasClosed c.args.at l (disk.reads c.write_frames.new.disk c.args.file)) (sym c.split_at.ensures.front)
    (stage_closed c.args.file c.args.at (length c.args.frames.now - 1) c.args.frames.now (disk.reads c.args.disk.now) (disk.reads c.write_frames.new.disk) (c.requires.at told) (c.in_ok-write_frames.ensures.written told))

pub open_gates-requires-clause-inside : goal.open_gates-requires-clause-inside
open_gates-requires-clause-inside g c κs within = λ told.
    let disk = g.D.Disk in
    stage_inside c.args.file c.args.at (length c.args.frames.now - 1) c.args.frames.now (disk.reads c.args.disk.now) (disk.reads c.write_frames.new.disk) (c.requires.at told) (c.in_ok-write_frames.ensures.written told)

pub open_gates-requires-clause-small : goal.open_gates-requires-clause-small
open_gates-requires-clause-small g c =
    omega (arith, c.requires.small, ap (λ (l : List _). length (closed_frames l)) c.split_at.ensures.front, closed_fewer (length c.args.frames.now - 1) c.args.frames.now)

pub returns-in_err-open_gates-clause-moves : goal.returns-in_err-open_gates-clause-moves
returns-in_err-open_gates-clause-moves g c = λ told.
    let disk = g.D.Disk in
    let front = KeepsFront c.args.file c.args.at in
    then disk.reads disk.call_number disk.images disk.images_since c.args.disk.now c.write_frames.new.disk c.open_gates.new.disk front front front (c.write_frames.ensures.moves told) (c.open_gates.ensures.moves told)
    (λ a b d p q. front_then c.args.file c.args.at a b d p q) (λ a b p. p)

pub returns-clause-written : goal.returns-clause-written
returns-clause-written g c = on_ok_weaker c.sync.result (λ durable told.
    let disk = g.D.Disk in
    let opens = subst (λ (l : List _). OpensGates c.args.file c.args.at l (disk.reads c.write_frames.new.disk) (disk.reads c.open_gates.new.disk)) c.split_at.ensures.front (c.in_ok-open_gates.ensures.opened told) in
    let done = stage_done c.args.file c.args.at (length c.args.frames.now - 1) c.args.frames.now (disk.reads c.args.disk.now) (disk.reads c.write_frames.new.disk) (c.requires.at told) (c.in_ok-write_frames.ensures.written told) (disk.reads c.open_gates.new.disk) opens in
    subst (λ (r : Image). Extended c.args.file (staged c.args.frames.now) (disk.reads c.args.disk.now) r) (sym (c.sync.ensures.reads told)) done) c.sync.ensures.durable

pub returns-clause-durable : goal.returns-clause-durable
returns-clause-durable g c = on_ok_weaker c.sync.result (λ durable told.
    subst (λ (r : Image). Only c.args.file r (g.D.Disk.images c.sync.new.disk)) (sym (c.sync.ensures.reads told)) (durable told)) c.sync.ensures.durable

pub returns-clause-moves : goal.returns-clause-moves
returns-clause-moves g c = λ told.
    let disk = g.D.Disk in
    let front = KeepsFront c.args.file c.args.at in
    let both = then disk.reads disk.call_number disk.images disk.images_since c.args.disk.now c.write_frames.new.disk c.open_gates.new.disk front front front (c.write_frames.ensures.moves told) (c.open_gates.ensures.moves told)
    (λ a b d p q. front_then c.args.file c.args.at a b d p q) (λ a b p. p) in
    then_still disk.reads disk.call_number disk.images disk.images_since c.args.disk.now c.open_gates.new.disk c.sync.new.disk front both (c.sync.ensures.moves told)
