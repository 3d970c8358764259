use Rattle.std.proofs.Common.{◌+◌}
use Rattle.disk_model.specs.Images.{TornCut}
use Rattle.topic_log.specs.Walks.{Repairs}
use Rattle.topic_log.proofs.Moving.{weaken, then_still}
use Rattle.topic_log.proofs.Settling.{cut_repairs}
use Rattle.topic_log.proofs.opening.cut_behind.Goals as goal

pub returns-clause-moves : goal.returns-clause-moves
returns-clause-moves g c = λ told.
    let disk = g.D.Disk in
    let step = Repairs c.args.file c.args.gate in
    let one = weaken disk.reads disk.call_number disk.images disk.images_since c.args.disk.now c.cut.new.disk (TornCut c.args.file (c.args.gate + 1)) step (c.cut.ensures.moves told) (λ a b now p. cut_repairs c.args.file c.args.gate a b p) in
    then_still disk.reads disk.call_number disk.images disk.images_since c.args.disk.now c.cut.new.disk c.sync.new.disk step one (c.sync.ensures.moves told)
