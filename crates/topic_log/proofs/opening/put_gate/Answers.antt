use Rattle.std.proofs.Common.{ap, sym, subst, arith, ◌≤◌, length}
use Rattle.samza_model.specs.Files.{Image}
use Rattle.disk_model.specs.Images.{TornWrite}
use Rattle.topic_log.specs.Moves.{Same}
use Rattle.topic_log.specs.Walks.{Repairs}
use Rattle.topic_log.proofs.Moving.{then_from, then_still}
use Rattle.topic_log.proofs.Settling.{gate_repairs, repairs_none}
use Rattle.topic_log.proofs.opening.put_gate.Goals as goal

pub returns-in_err-write-clause-moves : goal.returns-in_err-write-clause-moves
returns-in_err-write-clause-moves g c = λ told.
    let disk = g.D.Disk in
    let file = c.args.file in
    let step = Repairs file c.args.gate in
    then_from disk.reads disk.call_number disk.images disk.images_since c.args.disk.now c.lacks_gate.new.disk c.write.new.disk Same (TornWrite file 0 1) step (c.lacks_gate.ensures.moves told) (c.write.ensures.moves told)
    (λ a b d was is p q.
    let few : length (b file) ≤ 1 = omega (arith, ap length (ap (λ (i : Image). i file) p), ap length (c.requires.durable told a was), c.requires.size told) in
    subst (λ (i : Image). step i d) p (gate_repairs file c.args.gate b d few q))
    (λ a b was p. subst (λ (i : Image). step a i) (sym p) (repairs_none file c.args.gate a))

pub returns-clause-moves : goal.returns-clause-moves
returns-clause-moves g c = λ told.
    let disk = g.D.Disk in
    let file = c.args.file in
    let step = Repairs file c.args.gate in
    let one = then_from disk.reads disk.call_number disk.images disk.images_since c.args.disk.now c.lacks_gate.new.disk c.write.new.disk Same (TornWrite file 0 1) step (c.lacks_gate.ensures.moves told) (c.write.ensures.moves told)
    (λ a b d was is p q.
    let few : length (b file) ≤ 1 = omega (arith, ap length (ap (λ (i : Image). i file) p), ap length (c.requires.durable told a was), c.requires.size told) in
    subst (λ (i : Image). step i d) p (gate_repairs file c.args.gate b d few q))
    (λ a b was p. subst (λ (i : Image). step a i) (sym p) (repairs_none file c.args.gate a)) in
    then_still disk.reads disk.call_number disk.images disk.images_since c.args.disk.now c.write.new.disk c.sync.new.disk step one (c.sync.ensures.moves told)
