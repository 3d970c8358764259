use Rattle.std.proofs.Common.{reverse, subst}
use Rattle.unit_steps.specs.Units.{UnitValue, Keeps}
use Rattle.unit_steps.proofs.Laws.{keeps, stays_unit, with_core}
use Rattle.event_unit.proofs.units.TaskUnit.tell.Goals as goal

pub invariant_of-self : goal.invariant_of-self
invariant_of-self g c =
    let u = c.self.inside in
    let disk = g.D.Disk in
    let old : UnitValue _ _ _ = record { job = g.J.Job.plain u.job.now; shelf = u.shelf; messages = u.messages.items; core = u.core; disk = u.disk; marks = reverse u.marks.items; begun = u.begun; broken = u.broken } in
    stays_unit g.J.Job.meaning disk.tells disk.reads disk.call_number disk.images disk.images_since u.logs old c.tell.new.self c.self.invariant
    (keeps g.J.Job.meaning disk.tells disk.reads disk.call_number disk.images disk.images_since old c.tell.new.self c.tell.ensures.keeps)

pub returns-clause-keeps : goal.returns-clause-keeps
returns-clause-keeps g c =
    let u = c.self.inside in
    let disk = g.D.Disk in
    let old : UnitValue _ _ _ = record { job = g.J.Job.plain u.job.now; shelf = u.shelf; messages = u.messages.items; core = u.core; disk = u.disk; marks = reverse u.marks.items; begun = u.begun; broken = u.broken } in
    subst (λ v. Keeps g.J.Job.meaning disk.tells disk.reads disk.call_number disk.images disk.images_since v (with_core old c.tell.new.self)) c.self.view_is
    (keeps g.J.Job.meaning disk.tells disk.reads disk.call_number disk.images disk.images_since old c.tell.new.self c.tell.ensures.keeps)
