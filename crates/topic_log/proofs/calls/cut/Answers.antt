use Rattle.std.proofs.Common.{refl, arith}
use Rattle.disk_model.specs.Images.{TornCut}
use Rattle.topic_log.proofs.Moving.{one_call}
use Rattle.topic_log.proofs.calls.cut.Goals as goal

pub returns-in-Ok-clause-moves : goal.returns-in-Ok-clause-moves
returns-in-Ok-clause-moves g c = λ told.
    let disk = g.D.Disk in
    let old = c.args.disk.now in
    let new = c.cut.new.self in
    let law = (g.met.D.Disk g.world.𝓛 g.world.𝓜 g.world.𝓡 ((λ s x. x), (λ x. x), (λ x. x), λ x. x)) in
    one_call disk.reads disk.call_number disk.images disk.images_since old new (TornCut c.args.file c.args.size)
    (λ f left. law.only_now old f told left) (λ f. record { before = refl; no_longer = omega arith; elsewhere = λ k other. refl })
    (c.cut.ensures.time told) (omega (arith, c.cut.ensures.called)) (c.cut.ensures.crash told) (law.read_is_image new told)

pub returns-in-Err-clause-moves : goal.returns-in-Err-clause-moves
returns-in-Err-clause-moves g c = λ told.
    let disk = g.D.Disk in
    let old = c.args.disk.now in
    let new = c.cut.new.self in
    let law = (g.met.D.Disk g.world.𝓛 g.world.𝓜 g.world.𝓡 ((λ s x. x), (λ x. x), (λ x. x), λ x. x)) in
    one_call disk.reads disk.call_number disk.images disk.images_since old new (TornCut c.args.file c.args.size)
    (λ f left. law.only_now old f told left) (λ f. record { before = refl; no_longer = omega arith; elsewhere = λ k other. refl })
    (c.cut.ensures.time told) (omega (arith, c.cut.ensures.called)) (c.cut.ensures.crash told) (law.read_is_image new told)
