use Rattle.std.proofs.Common.{Err, refl, sym, ◌∙◌, ap}
use Rattle.std.proofs.lemmas.Option.{none-some}
use Rattle.core_steps.specs.Held.{state_of}
use Rattle.task_core.specs.Acting.{next_act}
use Rattle.task_core.specs.declared.applied.Applied.{Applied}
use Rattle.event_unit.specs.Acts.{act_event}
use Rattle.run_loop.proofs.Counting.{found_at}
use Rattle.run_loop.proofs.Running.{runs_event}
use Rattle.run_loop.proofs.Turning.{of_message, outcome}
use Rattle.run_loop.proofs.turns.act.Goals as goal

pub unreachable-requires-in-Err-Unknown : goal.unreachable-requires-in-Err-Unknown
unreachable-requires-in-Err-Unknown g c =
    let found = found_at c.args.unit.now.core.callbacks.flights c.pick-place.result c.in-Some.number (sym c.in-Some.ensures.number) in
    none-some found.0 (sym (c.in-Err-Unknown.ensures.unknown.0 (ap Err c.in-Err-Unknown.field-0-is)) ∙ found.1)

pub returns-in-Ok-clause-runs : goal.returns-in-Ok-clause-runs
returns-in-Ok-clause-runs g c =
    let disk = g.D.Disk in
    let old = c.args.unit.now in
    let found = found_at old.core.callbacks.flights c.pick-place.result c.in-Some.number (sym c.in-Some.ensures.number) in
    let job = g.J.Job.meaning old.job in
    let law = (g.met.D.Disk g.world.𝓛 g.world.𝓜 g.world.𝓡 ((λ s x. x), (λ x. x), (λ x. x), λ x. x)) in
    runs_event g.J.Job.meaning disk.tells disk.reads disk.call_number disk.images disk.images_since disk.name disk.fault_count (λ d i told left. law.only_now d i told left) old c.act_now.new.self (act_event job old.core found.0) (c.in-Ok.ensures.added found.0 found.1) (of_message old.core.setup found.0 (state_of old.core.held) (next_act job found.0))

pub returns-in-Ok-clause-stop : goal.returns-in-Ok-clause-stop
returns-in-Ok-clause-stop g c =
    let disk = g.D.Disk in
    let old = c.args.unit.now in
    let found = found_at old.core.callbacks.flights c.pick-place.result c.in-Some.number (sym c.in-Some.ensures.number) in
    let job = g.J.Job.meaning old.job in
    (tt, (refl, (outcome g.J.Job.meaning disk.tells disk.reads disk.call_number disk.images disk.images_since old c.act_now.new.self c.requires.standing c.requires.going c.in-Some.number found.0 found.1 (state_of old.core.held) (next_act job found.0) _ refl (c.in-Ok.ensures.added found.0 found.1)).1 (sym (ap (λ (a : Applied). a.failed) (c.in-Ok.ensures.applied found.0 found.1)) ∙ c.if-applied.true)))

pub returns-in-Ok-2-clause-runs : goal.returns-in-Ok-2-clause-runs
returns-in-Ok-2-clause-runs g c =
    let disk = g.D.Disk in
    let old = c.args.unit.now in
    let found = found_at old.core.callbacks.flights c.pick-place.result c.in-Some.number (sym c.in-Some.ensures.number) in
    let job = g.J.Job.meaning old.job in
    let law = (g.met.D.Disk g.world.𝓛 g.world.𝓜 g.world.𝓡 ((λ s x. x), (λ x. x), (λ x. x), λ x. x)) in
    runs_event g.J.Job.meaning disk.tells disk.reads disk.call_number disk.images disk.images_since disk.name disk.fault_count (λ d i told left. law.only_now d i told left) old c.act_now.new.self (act_event job old.core found.0) (c.in-Ok.ensures.added found.0 found.1) (of_message old.core.setup found.0 (state_of old.core.held) (next_act job found.0))

pub returns-in-Ok-2-clause-going : goal.returns-in-Ok-2-clause-going
returns-in-Ok-2-clause-going g c =
    let disk = g.D.Disk in
    let old = c.args.unit.now in
    let found = found_at old.core.callbacks.flights c.pick-place.result c.in-Some.number (sym c.in-Some.ensures.number) in
    let job = g.J.Job.meaning old.job in
    ((outcome g.J.Job.meaning disk.tells disk.reads disk.call_number disk.images disk.images_since old c.act_now.new.self c.requires.standing c.requires.going c.in-Some.number found.0 found.1 (state_of old.core.held) (next_act job found.0) _ refl (c.in-Ok.ensures.added found.0 found.1)).0 (sym (ap (λ (a : Applied). a.failed) (c.in-Ok.ensures.applied found.0 found.1)) ∙ c.if-applied.false)).0

pub returns-in-Ok-2-clause-left : goal.returns-in-Ok-2-clause-left
returns-in-Ok-2-clause-left g c =
    let disk = g.D.Disk in
    let old = c.args.unit.now in
    let found = found_at old.core.callbacks.flights c.pick-place.result c.in-Some.number (sym c.in-Some.ensures.number) in
    let job = g.J.Job.meaning old.job in
    ((outcome g.J.Job.meaning disk.tells disk.reads disk.call_number disk.images disk.images_since old c.act_now.new.self c.requires.standing c.requires.going c.in-Some.number found.0 found.1 (state_of old.core.held) (next_act job found.0) _ refl (c.in-Ok.ensures.added found.0 found.1)).0 (sym (ap (λ (a : Applied). a.failed) (c.in-Ok.ensures.applied found.0 found.1)) ∙ c.if-applied.false)).1
