use Rattle.std.proofs.Common.{◌≡◌, ◌<◌, ◌∙◌, ap, sym, subst, refl, reverse, length, Some, false, slice_get}
use Rattle.samza_model.specs.Requests.{due_by}
use Rattle.core_steps.specs.Cores.{next_at, deliver_event}
use Rattle.unit_steps.specs.Units.{UnitValue, Adds}
use Rattle.unit_steps.proofs.Laws.{delivered, keeps_unit, with_core}
use Rattle.event_unit.proofs.units.TaskUnit.deliver.Goals as goal

pub invariant_of-self-2 : goal.invariant_of-self-2
invariant_of-self-2 g c =
    let u = c.self.inside in
    let disk = g.D.Disk in
    let old : UnitValue _ _ _ = record { job = g.J.Job.plain u.job.now; shelf = u.shelf; messages = u.messages.items; core = u.core; disk = u.disk; marks = reverse u.marks.items; begun = u.begun; broken = u.broken } in
    let at : slice_get u.messages.items (next_at u.core c.args.input) ≡ Some c.in_ok-body.body =
    ap (slice_get u.messages.items) (sym c.next-next.ensures.next) ∙ ap (λ l. slice_get l c.next-next.result) (sym c.as_slice.ensures.value) ∙ c.in_ok-body.ensures in
    let within : c.args.input < length u.core.starts = subst (λ v. c.args.input < length v.core.starts) (sym c.self.view_is) c.requires in
    keeps_unit g.J.Job.meaning disk.tells disk.reads disk.call_number disk.images disk.images_since u.logs old c.deliver.new.self _ c.self.invariant
    (delivered g.J.Job.meaning disk.tells disk.reads disk.call_number disk.images disk.images_since old c.deliver.new.self c.args.input c.in_ok-body.body c.refusal.ensures.core c.self.invariant.set_up within at c.in-Ok.ensures.added c.in-Ok.ensures.prompt)

pub returns-clause-added : goal.returns-clause-added
returns-clause-added g c =
    let u = c.self.inside in
    let disk = g.D.Disk in
    let m = c.in_ok-body.body in
    let old : UnitValue _ _ _ = record { job = g.J.Job.plain u.job.now; shelf = u.shelf; messages = u.messages.items; core = u.core; disk = u.disk; marks = reverse u.marks.items; begun = u.begun; broken = u.broken } in
    let at : slice_get u.messages.items (next_at u.core c.args.input) ≡ Some m =
    ap (slice_get u.messages.items) (sym c.next-next.ensures.next) ∙ ap (λ l. slice_get l c.next-next.result) (sym c.as_slice.ensures.value) ∙ c.in_ok-body.ensures in
    let within : c.args.input < length u.core.starts = subst (λ v. c.args.input < length v.core.starts) (sym c.self.view_is) c.requires in (
      m,
      subst (λ v. slice_get v.messages (next_at v.core c.args.input) ≡ Some m) c.self.view_is at,
      subst (λ v. Adds g.J.Job.meaning disk.tells disk.reads disk.call_number disk.images disk.images_since v (with_core old c.deliver.new.self) (deliver_event v.core c.args.input m)) c.self.view_is
          (delivered g.J.Job.meaning disk.tells disk.reads disk.call_number disk.images disk.images_since old c.deliver.new.self c.args.input m c.refusal.ensures.core c.self.invariant.set_up within at c.in-Ok.ensures.added c.in-Ok.ensures.prompt),
    )
