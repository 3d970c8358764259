use Rattle.std.proofs.Common.{arith}
use Rattle.topic_log.proofs.Moving.{one_rest}
use Rattle.topic_log.proofs.calls.size.Goals as goal

pub returns-in-Ok-clause-rests : goal.returns-in-Ok-clause-rests
returns-in-Ok-clause-rests g c = λ told.
    let disk = g.D.Disk in
    let old = c.args.disk.now in
    let new = c.size.new.self in
    let law = (g.met.D.Disk g.world.𝓛 g.world.𝓜 g.world.𝓡 ((λ s x. x), (λ x. x), (λ x. x), λ x. x)) in
    one_rest disk.reads disk.call_number disk.images disk.images_since old new (λ f left. law.only_now old f told left)
    (c.size.ensures.time told) (omega (arith, c.size.ensures.called)) (c.size.ensures.crash told) (c.size.ensures.none_lost told) (law.read_is_image new told)
    (c.size.ensures.reads told)

pub returns-in-Err-clause-rests : goal.returns-in-Err-clause-rests
returns-in-Err-clause-rests g c = λ told.
    let disk = g.D.Disk in
    let old = c.args.disk.now in
    let new = c.size.new.self in
    let law = (g.met.D.Disk g.world.𝓛 g.world.𝓜 g.world.𝓡 ((λ s x. x), (λ x. x), (λ x. x), λ x. x)) in
    one_rest disk.reads disk.call_number disk.images disk.images_since old new (λ f left. law.only_now old f told left)
    (c.size.ensures.time told) (omega (arith, c.size.ensures.called)) (c.size.ensures.crash told) (c.size.ensures.none_lost told) (law.read_is_image new told)
    (c.size.ensures.reads told)
