use Rattle.std.proofs.Common.{ℕ, ◌+◌, ◌≤◌, List, length, drop, ap, subst, sym, ◌∙◌, arith}
use Rattle.std.specs.Prelude.{Option, IfSome}
use Rattle.log_frame.specs.declared.reading.Checked.{Checked}
use Rattle.topic_log.specs.Walks.{Shows, IsBatch, IsClosed}
use Rattle.topic_log.specs.Damage.{IsDamage}
use Rattle.topic_log.proofs.Moving.{no_read, rests_then}
use Rattle.topic_log.proofs.Settling.{walking_none, walking_file, walking_more, walked_done, walked_damaged}
use Rattle.topic_log.proofs.opening.walk.Goals as goal

pub gates-init : goal.gates-init
gates-init g c =
    let disk = g.D.Disk in
    let old = c.args.disk.now in
    let law = (g.met.D.Disk g.world.𝓛 g.world.𝓜 g.world.𝓡 ((λ s x. x), (λ x. x), (λ x. x), λ x. x)) in
    walking_none disk.tells disk.reads disk.call_number disk.images disk.images_since disk.fault_count disk.name old c.args.file c.args.size c.new-window.result c.start-extent.result
    c.new-window.ensures.file c.new-window.ensures.size c.new-window.ensures.shows c.start-extent.ensures.gate c.start-extent.ensures.count c.start-extent.ensures.last
    (λ told. no_read disk.reads disk.call_number disk.images disk.images_since old (λ f left. law.only_now old f told left) (law.read_is_image old told))

pub batch_at-requires-clause-size : goal.batch_at-requires-clause-size
batch_at-requires-clause-size g c κs within = λ told.
    let disk = g.D.Disk in
    let same = walking_file disk.tells disk.reads disk.call_number disk.images disk.images_since disk.fault_count disk.name c.args.disk.now c.gates.disk c.args.file c.args.size c.gates.window c.gates.extent c.gates.invariant told in
    c.gates.invariant.size_is ∙ c.requires.size told ∙ ap length (sym same)

pub batch_at-requires-clause-shows : goal.batch_at-requires-clause-shows
batch_at-requires-clause-shows g c κs within = λ told.
    let disk = g.D.Disk in
    let same = walking_file disk.tells disk.reads disk.call_number disk.images disk.images_since disk.fault_count disk.name c.args.disk.now c.gates.disk c.args.file c.args.size c.gates.window c.gates.extent c.gates.invariant told in
    subst (λ (l : List ℕ). Shows c.gates.window l) (sym same) (c.gates.invariant.shows told)

pub gates-preserved : goal.gates-preserved
gates-preserved g c =
    let disk = g.D.Disk in
    let within = subst (λ (o : Option Checked). IfSome o (λ k. (k.count ≤ k.used) × (c.gates.extent.gate + 1 + k.used ≤ c.gates.window.size))) c.in-Ok-Some.field-0-is c.in-Ok-Some.ensures.within in
    walking_more disk.tells disk.reads disk.call_number disk.images disk.images_since disk.fault_count disk.name c.args.disk.now c.gates.disk c.batch_at.new.disk c.args.file c.args.size
    c.gates.window c.batch_at.new.self c.gates.extent c.grown-extent.result c.in-Ok-Some.checked.count c.in-Ok-Some.checked.used c.gates.invariant
    c.batch_at.ensures.file c.batch_at.ensures.size c.in-Ok-Some.ensures.shows c.batch_at.ensures.rests c.batch_at.ensures.later c.batch_at.ensures.name within.1
    (λ told. subst (λ (o : Option Checked). IsBatch o (drop c.gates.extent.gate (disk.reads c.gates.disk c.gates.window.file))) c.in-Ok-Some.field-0-is (c.in-Ok-Some.ensures.batch told))
    (record { gate = c.grown-extent.ensures.gate; count_is = c.grown-extent.ensures.count; last = c.grown-extent.ensures.last })

pub returns-in-Ok-None-clause-reaches : goal.returns-in-Ok-None-clause-reaches
returns-in-Ok-None-clause-reaches g c = λ told.
    let disk = g.D.Disk in
    let same = walking_file disk.tells disk.reads disk.call_number disk.images disk.images_since disk.fault_count disk.name c.args.disk.now c.gates.disk c.args.file c.args.size c.gates.window c.gates.extent c.gates.invariant told in
    let shut = subst (λ (o : Option Checked). IsBatch o (drop c.gates.extent.gate (disk.reads c.gates.disk c.gates.window.file))) c.in-Ok-None.field-0-is (c.in-Ok-None.ensures.batch told) in
    walked_done (disk.reads c.args.disk.now c.args.file) c.gates.extent (c.gates.invariant.so_far told) (subst (λ (l : List ℕ). IsClosed (drop c.gates.extent.gate l)) same shut)

pub returns-in-Ok-None-clause-rests : goal.returns-in-Ok-None-clause-rests
returns-in-Ok-None-clause-rests g c = λ told.
    let disk = g.D.Disk in
    rests_then disk.reads disk.call_number disk.images disk.images_since c.args.disk.now c.gates.disk c.batch_at.new.disk (c.gates.invariant.rests told) (c.batch_at.ensures.rests told)

pub returns-in-Err-clause-damaged : goal.returns-in-Err-clause-damaged
returns-in-Err-clause-damaged g c = λ at e told.
    let disk = g.D.Disk in
    let same = walking_file disk.tells disk.reads disk.call_number disk.images disk.images_since disk.fault_count disk.name c.args.disk.now c.gates.disk c.args.file c.args.size c.gates.window c.gates.extent c.gates.invariant told in
    let damage = subst (λ (l : List ℕ). IsDamage (drop c.gates.extent.gate l) c.gates.extent.gate at) same (c.in-Err.ensures.damaged at e told) in
    walked_damaged (disk.reads c.args.disk.now c.args.file) c.gates.extent at (omega (arith, c.requires.long, c.requires.size told)) (c.gates.invariant.so_far told) damage

pub returns-in-Err-clause-rests : goal.returns-in-Err-clause-rests
returns-in-Err-clause-rests g c = λ told.
    let disk = g.D.Disk in
    rests_then disk.reads disk.call_number disk.images disk.images_since c.args.disk.now c.gates.disk c.batch_at.new.disk (c.gates.invariant.rests told) (c.batch_at.ensures.rests told)
