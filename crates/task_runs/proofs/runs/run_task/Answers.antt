use Rattle.std.proofs.Common.{ℕ, ◌≡◌, ◌≤◌, List, [], ◌∷◌, ◌++◌, length, Some, inl, inr, refl, sym, ◌∙◌, ap, subst, arith}
use Rattle.samza_model.specs.Counters.{Rose}
use Rattle.samza_model.specs.Partition.{partition_of}
use Rattle.samza_model.specs.Ran.{fresh}
use Rattle.core_steps.specs.Cores.{Outside}
use Rattle.core_steps.specs.Held.{contents_of}
use Rattle.container_texts.specs.Statuses.{status_of}
use Rattle.std.proofs.lemmas.Result.{IfErr-weaker}
use Rattle.disk_model.proofs.Laws.{started}
use Rattle.restore_trim.specs.Crashes.{OpeningLeaves}
use Rattle.unit_steps.specs.Units.{UnitValue}
use Rattle.task_runs.specs.Worked.{Worked}
use Rattle.task_runs.proofs.Opened.{IsOpened}
use Rattle.task_runs.proofs.Placing.{failure_tells}
use Rattle.task_runs.proofs.Telling.{rose_by, tells_of}
use Rattle.task_runs.proofs.Told.{device_by, nothing_left, opened_told}
use Rattle.task_runs.proofs.Working.{worked}
use Rattle.task_runs.proofs.runs.run_task.Goals as goal

pub returns-in-Err-clause-done : goal.returns-in-Err-clause-done
returns-in-Err-clause-done g c = λ told shown.
    let disk = g.D.Disk in
    let law = (g.met.D.Disk g.world.𝓛 g.world.𝓜 g.world.𝓡 ((λ s x. x), (λ x. x), (λ x. x), λ x. x)) in
    inl (tt, started disk.call_number disk.images disk.images_since c.args.disk (OpeningLeaves c.args.setup) (λ image left. law.only_now c.args.disk image told left) (λ image now. (image, now, nothing_left c.args.setup image)))

pub returns-in-Err-open_unit-clause-done : goal.returns-in-Err-open_unit-clause-done
returns-in-Err-open_unit-clause-done g c = λ told shown.
    let e = c.in-Err-open_unit.ensures in
    inl (
      opened_told g.D.Disk.tells g.S.Shelf.tells c.args.setup (g.D.Disk.reads c.args.disk) (g.S.Shelf.bytes c.args.shelf) c.in-Err-open_unit.fault told shown e.why,
      e.back_any_moment told,
    )

pub returns-in-Err-open_unit-clause-device : goal.returns-in-Err-open_unit-clause-device
returns-in-Err-open_unit-clause-device g c = λ four. c.in-Err-open_unit.ensures.device (device_by c.in-Err-open_unit.fault four)

pub returns-clause-done : goal.returns-clause-done
returns-clause-done g c = λ told shown.
    let disk = g.D.Disk in
    let law = (g.met.D.Disk g.world.𝓛 g.world.𝓜 g.world.𝓡 ((λ s x. x), (λ x. x), (λ x. x), λ x. x)) in
    let s = c.args.setup in
    let u = c.in-Ok-open_unit.unit in
    let e = c.in-Ok-open_unit.ensures in
    let bytes = g.S.Shelf.bytes c.args.shelf in
    let before = disk.reads c.args.disk in
    let meaning = g.J.Job.meaning in
    let v = c.run_one-done.result.1 in
    let result = c.run_one-done.result.0 in
    let one : c.push_reserved.new.self.items ≡ u ∷ [] = c.push_reserved.ensures.items ∙ ap (λ (l : List (UnitValue _ _ _)). l ++ u ∷ []) (c.in-Ok.ensures.items ∙ c.new-units.ensures.items) in
    let opened : IsOpened meaning disk.tells disk.reads disk.call_number disk.images disk.images_since c.args.disk s bytes u = record {
      stands = e.stands;
      restored = e.restored told;
      opens = e.opens told;
      has_messages = e.messages shown;
      setup = e.start.setup;
      starts = e.start.starts;
      ends = e.start.ends;
      moment = e.any_moment told;
    } in
    let says = c.run_one-done.ensures.says u one in
    let w = worked meaning disk.tells disk.reads disk.call_number disk.images disk.images_since disk.name disk.fault_count told (λ d k i le now. law.counts_now d k i told le now) (λ d i left. law.only_now d i told left)
    c.args.disk s c.requires.set_up.one_input c.requires.windowless bytes u v opened c.run_one-done.ensures.core (c.run_one-done.ensures.ran u one)
    (λ sound image now. c.close-disk.ensures.durable sound told image now) says.0 says.1 result says.2 in
    inr (
      w.0,
      subst (λ d. Worked disk.call_number disk.images disk.images_since c.args.disk d (meaning (g.J.Job.plain c.args.job.now)) s bytes before (disk.reads d) result w.0) (sym c.close-disk.ensures.disk)
          (subst (λ j. Worked disk.call_number disk.images disk.images_since c.args.disk v.disk (meaning j) s bytes before (disk.reads v.disk) result w.0) e.job w.1),
    )

pub returns-clause-told : goal.returns-clause-told
returns-clause-told g c =
    let disk = g.D.Disk in
    let u = c.in-Ok-open_unit.unit in
    let e = c.in-Ok-open_unit.ensures in
    let meaning = g.J.Job.meaning in
    let v = c.run_one-done.result.1 in
    let result = c.run_one-done.result.0 in
    let one : c.push_reserved.new.self.items ≡ u ∷ [] = c.push_reserved.ensures.items ∙ ap (λ (l : List (UnitValue _ _ _)). l ++ u ∷ []) (c.in-Ok.ensures.items ∙ c.new-units.ensures.items) in
    let o : Outside = record { job = Some (meaning u.job); parts = Some (partition_of u.messages) ∷ []; state = fresh c.args.setup (contents_of u.core.held.stores) } in
    let r = c.run_one-done.ensures.ran u one in
    let says = c.run_one-done.ensures.says u one in
    let starts : length v.core.starts ≡ 1 = ap (λ k. length k.starts) (r.same.core o) ∙ ap length e.start.starts in
    tells_of v says.0 c.args.setup result says.2
    (λ f failed. failure_tells meaning disk.tells disk.reads disk.call_number disk.images disk.images_since disk.name disk.fault_count u v o _ (e.stands o refl refl refl) tt r starts f failed)

pub returns-clause-device : goal.returns-clause-device
returns-clause-device g c =
    let disk = g.D.Disk in
    let u = c.in-Ok-open_unit.unit in
    let e = c.in-Ok-open_unit.ensures in
    let v = c.run_one-done.result.1 in
    let result = c.run_one-done.result.0 in
    let one : c.push_reserved.new.self.items ≡ u ∷ [] = c.push_reserved.ensures.items ∙ ap (λ (l : List (UnitValue _ _ _)). l ++ u ∷ []) (c.in-Ok.ensures.items ∙ c.new-units.ensures.items) in
    let says = c.run_one-done.ensures.says u one in
    IfErr-weaker result _ _ (λ fault rose four. inl (subst (λ d. Rose (disk.fault_count c.args.disk) (disk.fault_count d)) (sym c.close-disk.ensures.disk) (rose four)))
    (rose_by v says.0 disk.tells disk.reads disk.fault_count u (disk.fault_count c.args.disk) e.disk.1 says.1 result says.2)

pub returns-clause-disk : goal.returns-clause-disk
returns-clause-disk g c =
    let disk = g.D.Disk in
    let u = c.in-Ok-open_unit.unit in
    let e = c.in-Ok-open_unit.ensures in
    let one : c.push_reserved.new.self.items ≡ u ∷ [] = c.push_reserved.ensures.items ∙ ap (λ (l : List (UnitValue _ _ _)). l ++ u ∷ []) (c.in-Ok.ensures.items ∙ c.new-units.ensures.items) in
    let r = c.run_one-done.ensures.ran u one in
    let same = ap disk.fault_count c.close-disk.ensures.disk in
    (ap disk.name c.close-disk.ensures.disk ∙ r.named ∙ e.disk.0, omega (arith, same, r.later, e.disk.1))

pub returns-clause-shelf : goal.returns-clause-shelf
returns-clause-shelf g c =
    let shelf = g.S.Shelf in
    let u = c.in-Ok-open_unit.unit in
    let e = c.in-Ok-open_unit.ensures in
    let one : c.push_reserved.new.self.items ≡ u ∷ [] = c.push_reserved.ensures.items ∙ ap (λ (l : List (UnitValue _ _ _)). l ++ u ∷ []) (c.in-Ok.ensures.items ∙ c.new-units.ensures.items) in
    let r = c.run_one-done.ensures.ran u one in
    let same = c.close-disk.ensures.shelf ∙ r.same.shelf in
    (ap shelf.name same ∙ e.shelf.0, subst (λ s. shelf.fault_count c.args.shelf ≤ shelf.fault_count s) (sym same) e.shelf.2)
