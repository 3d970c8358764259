use Rattle.std.proofs.Common.{◌≡◌, length, reverse, false, subst}
use Rattle.samza_model.specs.Files.{Image}
use Rattle.unit_steps.specs.Moments.{SameOfTask}
use Rattle.unit_steps.specs.Units.{UnitValue}
use Rattle.unit_steps.proofs.Laws.{same_of_task}
use Rattle.event_unit.proofs.units.TaskUnit.close.Goals as goal

pub returns-clause-durable : goal.returns-clause-durable
returns-clause-durable g c =
    let u = c.self.inside in
    let disk = g.D.Disk in
    let old : UnitValue _ _ _ = record { job = g.J.Job.plain u.job.now; shelf = u.shelf; messages = u.messages.items; core = u.core; disk = u.disk; marks = reverse u.marks.items; begun = u.begun; broken = u.broken } in
    subst (λ v. v.broken ≡ false → disk.tells → (image : Image) → disk.images v.disk image → SameOfTask (length v.core.setup.stores) (length v.core.setup.outputs) (disk.reads v.disk) image) c.self.view_is
    (λ sound told image now. same_of_task g.J.Job.meaning disk.tells disk.reads disk.call_number disk.images disk.images_since u.logs old c.self.invariant sound told image now)
