use Rattle.std.proofs.Common.{refl, sym, ◌∙◌, subst}
use Rattle.std.proofs.lemmas.Result.{IfOk-weaker}
use Rattle.core_steps.specs.Cores.{next_at}
use Rattle.task_core.specs.declared.faults.DeliverFault.{DeliverFault}
use Rattle.std.proofs.lemmas.Option.{none-some}
use Rattle.run_loop.specs.Runs.{Runs}
use Rattle.run_loop.proofs.Ending.{more_to_deliver}
use Rattle.run_loop.proofs.Running.{runs_event, stays}
use Rattle.run_loop.proofs.Turning.{going_delivered, left_delivered}
use Rattle.core_steps.specs.Cores.{deliver_event}
use Rattle.run_loop.proofs.turns.deliver.Goals as goal

pub returns-in-Ok-clause-going : goal.returns-in-Ok-clause-going
returns-in-Ok-clause-going g c =
    let disk = g.D.Disk in
    let old = c.args.unit.now in
    going_delivered g.J.Job.meaning disk.tells disk.reads disk.call_number disk.images disk.images_since old c.deliver.new.self c.requires.standing c.requires.going old.core.callbacks.next (next_at old.core 0) c.in-Ok.ensures.added.0 old.core.times.moment c.in-Ok.ensures.added.2 (more_to_deliver old.broken old.core c.in-Ok.ensures.ok)

pub returns-in-Ok-clause-delivered : goal.returns-in-Ok-clause-delivered
returns-in-Ok-clause-delivered g c _ =
    let disk = g.D.Disk in
    let old = c.args.unit.now in
    left_delivered g.J.Job.meaning disk.tells disk.reads disk.call_number disk.images disk.images_since old c.deliver.new.self c.requires.standing c.requires.going old.core.callbacks.next (next_at old.core 0) c.in-Ok.ensures.added.0 old.core.times.moment c.in-Ok.ensures.added.2 (more_to_deliver old.broken old.core c.in-Ok.ensures.ok)

pub returns-in-Err-clause-runs : goal.returns-in-Err-clause-runs
returns-in-Err-clause-runs g c =
    let disk = g.D.Disk in
    let law = (g.met.D.Disk g.world.𝓛 g.world.𝓜 g.world.𝓡 ((λ s x. x), (λ x. x), (λ x. x), λ x. x)) in
    let old = c.args.unit.now in
    subst (λ u. Runs g.J.Job.meaning disk.tells disk.reads disk.call_number disk.images disk.images_since disk.name disk.fault_count old u) (sym c.in-Err.ensures.kept)
    (stays g.J.Job.meaning disk.tells disk.reads disk.call_number disk.images disk.images_since disk.name disk.fault_count (λ d i told left. law.only_now d i told left) old)

pub returns-in-Err-clause-refused : goal.returns-in-Err-clause-refused
returns-in-Err-clause-refused g c =
    let old = c.args.unit.now in
    let fault : DeliverFault = c.in-Err.fault in
    let refused = c.in-Err.ensures.refused in
    IfOk-weaker c.refused.result _ _ (λ d told _. (c.in-Err.ensures.kept, λ none. none-some fault (sym none ∙ (refused fault told.1).0 refl))) c.refused.ensures.refused

pub returns-in-Ok-clause-runs : goal.returns-in-Ok-clause-runs
returns-in-Ok-clause-runs g c =
    let disk = g.D.Disk in
    let law = (g.met.D.Disk g.world.𝓛 g.world.𝓜 g.world.𝓡 ((λ s x. x), (λ x. x), (λ x. x), λ x. x)) in
    let old = c.args.unit.now in
    let added = c.in-Ok.ensures.added in
    runs_event g.J.Job.meaning disk.tells disk.reads disk.call_number disk.images disk.images_since disk.name disk.fault_count (λ d i told left. law.only_now d i told left) old c.deliver.new.self (deliver_event old.core 0 added.0) added.2 tt
