use Rattle.std.proofs.Common.{◌≡◌, ◌∙◌, ap, sym, subst, refl, reverse}
use Rattle.samza_model.specs.Events.{flight_of}
use Rattle.task_core.specs.declared.faults.ActFault.TheVariants.{Unknown}
use Rattle.event_unit.specs.Acts.{act_event}
use Rattle.unit_steps.specs.Units.{UnitValue, Adds}
use Rattle.unit_steps.proofs.Laws.{acted, keeps_unit, with_core}
use Rattle.event_unit.proofs.Knowing.{known, ok_alone}
use Rattle.event_unit.proofs.units.TaskUnit.act_now.Goals as goal

pub invariant_of-self-2 : goal.invariant_of-self-2
invariant_of-self-2 g c =
    let u = c.self.inside in
    let disk = g.D.Disk in
    let old : UnitValue _ _ _ = record { job = g.J.Job.plain u.job.now; shelf = u.shelf; messages = u.messages.items; core = u.core; disk = u.disk; marks = reverse u.marks.items; begun = u.begun; broken = u.broken } in
    let is = known (flight_of c.args.number u.core.callbacks.flights) (λ none. ok_alone c.in_ok-applied.applied Unknown (c.in_ok-applied.ensures.unknown.1 none)) in
    keeps_unit g.J.Job.meaning disk.tells disk.reads disk.call_number disk.images disk.images_since u.logs old c.act_now.new.self _ c.self.invariant
    (acted g.J.Job.meaning disk.tells disk.reads disk.call_number disk.images disk.images_since old c.act_now.new.self is.0 _ refl (c.in_ok-applied.ensures.added is.0 is.1))

pub returns-clause-added : goal.returns-clause-added
returns-clause-added g c = λ f flies.
    let u = c.self.inside in
    let disk = g.D.Disk in
    let old : UnitValue _ _ _ = record { job = g.J.Job.plain u.job.now; shelf = u.shelf; messages = u.messages.items; core = u.core; disk = u.disk; marks = reverse u.marks.items; begun = u.begun; broken = u.broken } in
    let flies' = ap (λ v. flight_of c.args.number v.core.callbacks.flights) c.self.view_is ∙ flies in
    subst (λ v. Adds g.J.Job.meaning disk.tells disk.reads disk.call_number disk.images disk.images_since v (with_core old c.act_now.new.self) (act_event (g.J.Job.meaning v.job) v.core f)) c.self.view_is
    (acted g.J.Job.meaning disk.tells disk.reads disk.call_number disk.images disk.images_since old c.act_now.new.self f _ refl (c.in_ok-applied.ensures.added f flies'))
