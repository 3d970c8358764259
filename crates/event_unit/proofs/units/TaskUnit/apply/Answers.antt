use Rattle.std.proofs.Common.{◌≡◌, ◌∙◌, inl, inr, ap, sym, subst, refl, reverse}
use Rattle.samza_model.specs.Events.{flight_of}
use Rattle.task_core.specs.Acting.{next_act, next_in_window, ActsOn, ActsInWindow}
use Rattle.event_unit.specs.Acts.{act_event, window_act_event}
use Rattle.unit_steps.specs.Units.{UnitValue, Adds}
use Rattle.unit_steps.proofs.Laws.{acted, acted_in_window, keeps_unit, with_core}
use Rattle.event_unit.proofs.Knowing.{turn_of}
use Rattle.event_unit.proofs.units.TaskUnit.apply.Goals as goal

pub invariant_of-self-2 : goal.invariant_of-self-2
invariant_of-self-2 g c =
    let u = c.self.inside in
    let disk = g.D.Disk in
    let of = g.J.Job.meaning in
    let core = c.apply.new.self in
    let old : UnitValue _ _ _ = record { job = g.J.Job.plain u.job.now; shelf = u.shelf; messages = u.messages.items; core = u.core; disk = u.disk; marks = reverse u.marks.items; begun = u.begun; broken = u.broken } in
    let job : c.args.stepped.job ≡ old.job = c.requires.job ∙ ap (λ v. v.job) (sym c.self.view_is) in
    elim (turn_of u.core c.args.stepped.question.turn _ c.in_ok-applied.ensures.current) [
      | inl (n, f, turn, flies) ↦
          keeps_unit of disk.tells disk.reads disk.call_number disk.images disk.images_since u.logs old core _ c.self.invariant
          (acted of disk.tells disk.reads disk.call_number disk.images disk.images_since old core f _ refl (subst (λ j. ActsOn u.core core f (next_act (of j) f)) job (c.in_ok-applied.ensures.added n f turn flies)))
      | inr (answers, turn, opened) ↦
          keeps_unit of disk.tells disk.reads disk.call_number disk.images disk.images_since u.logs old core _ c.self.invariant
          (acted_in_window of disk.tells disk.reads disk.call_number disk.images disk.images_since old core answers _ refl (subst (λ j. ActsInWindow u.core core answers (next_in_window (of j) answers)) job (c.in_ok-applied.ensures.window_added answers turn opened)))
    ]

pub returns-clause-added : goal.returns-clause-added
returns-clause-added g c = λ n f turn flies.
    let u = c.self.inside in
    let disk = g.D.Disk in
    let of = g.J.Job.meaning in
    let core = c.apply.new.self in
    let old : UnitValue _ _ _ = record { job = g.J.Job.plain u.job.now; shelf = u.shelf; messages = u.messages.items; core = u.core; disk = u.disk; marks = reverse u.marks.items; begun = u.begun; broken = u.broken } in
    let job : c.args.stepped.job ≡ old.job = c.requires.job ∙ ap (λ v. v.job) (sym c.self.view_is) in
    let flies' = ap (λ v. flight_of n v.core.callbacks.flights) c.self.view_is ∙ flies in
    subst (λ v. Adds of disk.tells disk.reads disk.call_number disk.images disk.images_since v (with_core old core) (act_event (of v.job) v.core f)) c.self.view_is
    (acted of disk.tells disk.reads disk.call_number disk.images disk.images_since old core f _ refl (subst (λ j. ActsOn u.core core f (next_act (of j) f)) job (c.in_ok-applied.ensures.added n f turn flies')))

pub returns-clause-window_added : goal.returns-clause-window_added
returns-clause-window_added g c = λ answers turn opened.
    let u = c.self.inside in
    let disk = g.D.Disk in
    let of = g.J.Job.meaning in
    let core = c.apply.new.self in
    let old : UnitValue _ _ _ = record { job = g.J.Job.plain u.job.now; shelf = u.shelf; messages = u.messages.items; core = u.core; disk = u.disk; marks = reverse u.marks.items; begun = u.begun; broken = u.broken } in
    let job : c.args.stepped.job ≡ old.job = c.requires.job ∙ ap (λ v. v.job) (sym c.self.view_is) in
    let opened' = ap (λ v. v.core.window) c.self.view_is ∙ opened in
    subst (λ v. Adds of disk.tells disk.reads disk.call_number disk.images disk.images_since v (with_core old core) (window_act_event (of v.job) v.core answers)) c.self.view_is
    (acted_in_window of disk.tells disk.reads disk.call_number disk.images disk.images_since old core answers _ refl (subst (λ j. ActsInWindow u.core core answers (next_in_window (of j) answers)) job (c.in_ok-applied.ensures.window_added answers turn opened')))
