use Rattle.std.proofs.Common.{subst, sym}
use Rattle.std.proofs.lemmas.Result.{on_ok_weaker}
use Rattle.samza_model.specs.Files.{Image}
use Rattle.disk_model.specs.Images.{Only}
use Rattle.topic_log.specs.Steps.{staged, Opened, Stages}
use Rattle.topic_log.proofs.Moving.{then_still}
use Rattle.topic_log.proofs.Putting.{gate_within, put_opened, put_moves, kept_moves}
use Rattle.topic_log.proofs.staging.put_behind.Goals as goal

pub stage-requires-clause-at : goal.stage-requires-clause-at
stage-requires-clause-at g c κs within = λ told. sym (c.requires.gate told)

pub returns-in_err-stage-clause-moves : goal.returns-in_err-stage-clause-moves
returns-in_err-stage-clause-moves g c = λ told.
    let disk = g.D.Disk in
    kept_moves disk.reads disk.call_number disk.images disk.images_since c.args.disk.now c.stage.new.disk c.args.file c.args.gate (staged c.args.frames.now) (c.stage.ensures.moves told)

pub write-requires-after_bounds : goal.write-requires-after_bounds
write-requires-after_bounds g c κs within = λ told.
    let disk = g.D.Disk in
    gate_within c.args.file c.args.gate (staged c.args.frames.now) (disk.reads c.args.disk.now) (disk.reads c.stage.new.disk) (c.requires.gate told) (c.in_ok-stage.ensures.written told)

pub returns-in_err-write-clause-moves : goal.returns-in_err-write-clause-moves
returns-in_err-write-clause-moves g c = λ told.
    let disk = g.D.Disk in
    put_moves disk.reads disk.call_number disk.images disk.images_since c.args.disk.now c.stage.new.disk c.write.new.disk c.args.file c.args.gate (staged c.args.frames.now)
    (c.requires.gate told) (c.requires.durable told) (c.in_ok-stage.ensures.durable told) (c.in_ok-stage.ensures.written told) (c.stage.ensures.moves told) (c.write.ensures.moves told)

pub returns-clause-opened : goal.returns-clause-opened
returns-clause-opened g c = on_ok_weaker c.sync.result (λ durable told.
    let disk = g.D.Disk in
    let opened = put_opened c.args.file c.args.gate (staged c.args.frames.now) (disk.reads c.args.disk.now) (disk.reads c.stage.new.disk) (c.requires.gate told) (c.in_ok-stage.ensures.written told) (disk.reads c.write.new.disk) (c.in_ok-write.ensures.written told) in
    subst (λ (r : Image). Opened c.args.file c.args.gate (staged c.args.frames.now) (disk.reads c.args.disk.now) r) (sym (c.sync.ensures.reads told)) opened) c.sync.ensures.durable

pub returns-clause-durable : goal.returns-clause-durable
returns-clause-durable g c = on_ok_weaker c.sync.result (λ durable told.
    subst (λ (r : Image). Only c.args.file r (g.D.Disk.images c.sync.new.disk)) (sym (c.sync.ensures.reads told)) (durable told)) c.sync.ensures.durable

pub returns-clause-moves : goal.returns-clause-moves
returns-clause-moves g c = λ told.
    let disk = g.D.Disk in
    let opened = put_moves disk.reads disk.call_number disk.images disk.images_since c.args.disk.now c.stage.new.disk c.write.new.disk c.args.file c.args.gate (staged c.args.frames.now)
    (c.requires.gate told) (c.requires.durable told) (c.in_ok-stage.ensures.durable told) (c.in_ok-stage.ensures.written told) (c.stage.ensures.moves told) (c.write.ensures.moves told) in
    then_still disk.reads disk.call_number disk.images disk.images_since c.args.disk.now c.write.new.disk c.sync.new.disk (Stages c.args.file c.args.gate (staged c.args.frames.now)) opened (c.sync.ensures.moves told)
