use Rattle.std.proofs.Common.{◌≡◌, ◌∙◌, ◌∷◌, [], List, ap, sym, subst, refl, reverse, length, None, false}
use Rattle.samza_model.specs.declared.messages.Record.{Record}
use Rattle.samza_model.specs.Ran.{fresh}
use Rattle.topic_log.specs.Opened.{count_of}
use Rattle.unit_logs.specs.declared.writing.Logs.{Logs}
use Rattle.unit_logs.specs.Standing.{OnDisk}
use Rattle.unit_logs.specs.Written.{AreSound}
use Rattle.unit_steps.specs.Units.{IsUnit, Stands, opened_history}
use Rattle.event_unit.proofs.Handed.{Handed, Opened, opened_unit, stands_opened}
use Rattle.event_unit.proofs.units.TaskUnit.open_unit.Goals as goal

pub invariant_of-result : goal.invariant_of-result
invariant_of-result g c =
    let disk = g.D.Disk in
    let law = (g.met.D.Disk g.world.𝓛 g.world.𝓜 g.world.𝓡 ((λ s x. x), (λ x. x), (λ x. x), λ x. x)) in
    let s = c.args.setup in
    let task = c.in-Ok.opened in
    let ok = c.in-Ok.ensures in
    let b = c.in-Ok-begin.begun in
    let begun = c.in-Ok-begin.ensures in
    let new = c.open_task.new.disk in
    let handed : Handed disk.tells disk.reads disk.images s task.tables (disk.reads c.args.disk) new task.mark =
    record { restored = ok.restored; durable = ok.durable; stay = ok.logs_durable; whole = ok.whole } in
    let job = g.J.Job.plain c.args.job.now in
    let shelf = c.open_task.new.shelf in
    let marks : record { checkpoint = task.mark; at = disk.call_number new } ∷ [] ≡ reverse b.marks.items =
    sym (ap reverse (begun.parts.2 ∙ ap (λ at. record { checkpoint = task.mark; at = at } ∷ []) c.calls.ensures)) in
    let logs = begun.parts.0 in
    subst (λ v. IsUnit g.J.Job.meaning disk.tells disk.reads disk.call_number disk.images disk.images_since b.logs v) (λ i. record { job = job; shelf = shelf; messages = b.messages.items; core = b.core; disk = new; marks = marks i; begun = None; broken = false })
    (opened_unit g.J.Job.meaning disk.tells disk.reads disk.call_number disk.images disk.images_since job shelf b.messages.items b.core new task.mark (disk.reads c.args.disk) s task.tables begun.given.setup begun.stands begun.fresh.since handed (law.read_is_image new) (λ told image left. law.only_now new image told left) b.logs c.requires.set_up
    (ap (λ (l : Logs). length l.changelogs.items) logs ∙ ok.changelogs) (ap (λ (l : Logs). length l.outputs.items) logs ∙ ok.outputs)
    (begun.given.ends ∙ ap (λ (l : List Record). length l ∷ []) (sym begun.parts.1)) (subst (λ (l : Logs). AreSound l) (sym logs) ok.sound) (ap (λ (l : Logs). count_of l.marks) logs ∙ ok.counted) begun.given.last
    (λ told. subst (λ (l : Logs). OnDisk (disk.reads new) (disk.images new) s l task.mark b.core.held) (sym logs) (ok.on_disk told b.core.held begun.contents)))

pub returns-in-Ok-begin-clause-stands : goal.returns-in-Ok-begin-clause-stands
returns-in-Ok-begin-clause-stands g c = λ o of_job parts state.
    let disk = g.D.Disk in
    let law = (g.met.D.Disk g.world.𝓛 g.world.𝓜 g.world.𝓡 ((λ s x. x), (λ x. x), (λ x. x), λ x. x)) in
    let s = c.args.setup in
    let task = c.in-Ok.opened in
    let ok = c.in-Ok.ensures in
    let b = c.in-Ok-begin.begun in
    let begun = c.in-Ok-begin.ensures in
    let new = c.open_task.new.disk in
    let handed : Handed disk.tells disk.reads disk.images s task.tables (disk.reads c.args.disk) new task.mark =
    record { restored = ok.restored; durable = ok.durable; stay = ok.logs_durable; whole = ok.whole } in
    let job = g.J.Job.plain c.args.job.now in
    let shelf = c.open_task.new.shelf in
    let marks : record { checkpoint = task.mark; at = disk.call_number new } ∷ [] ≡ reverse b.marks.items =
    sym (ap reverse (begun.parts.2 ∙ ap (λ at. record { checkpoint = task.mark; at = at } ∷ []) c.calls.ensures)) in
    subst (λ v. Stands g.J.Job.meaning disk.tells disk.reads disk.call_number disk.images disk.images_since o v (opened_history (disk.reads c.args.disk))) (λ i. record { job = job; shelf = shelf; messages = b.messages.items; core = b.core; disk = new; marks = marks i; begun = None; broken = false })
    (stands_opened g.J.Job.meaning disk.tells disk.reads disk.call_number disk.images disk.images_since job shelf b.messages.items b.core new task.mark (disk.reads c.args.disk) s task.tables begun.given.setup begun.stands begun.fresh.since handed (law.read_is_image new) (λ told image left. law.only_now new image told left) o of_job parts (state ∙ ap (fresh s) begun.contents))
