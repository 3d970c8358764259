use Rattle.std.proofs.Common.{ℕ, List, Result, Err, inl, inr, refl, subst, sym, ap, ◌∙◌}
use Rattle.std.specs.Prelude.{map, string_bytes}
use Rattle.samza_model.specs.Files.{Image}
use Rattle.disk_model.proofs.Laws.{same_at_trans, same_disk_refl}
use Rattle.shipped_jobs.specs.WordCount.{word_count}
use Rattle.container_texts.specs.declared.faults.RunFault.{RunFault}
use Rattle.container_texts.specs.declared.reports.TaskReport.{TaskReport}
use Rattle.container_texts.specs.Statuses.{status_of}
use Rattle.container_texts.proofs.Laws.{refused_at}
use Rattle.samza_container.specs.Configured.{input_disk, task_disk}
use Rattle.samza_container.specs.Done.{FolderDone, TaskDone, WhyNoTask}
use Rattle.samza_container.specs.Naming.{IsCause}
use Rattle.samza_container.specs.Stops.{answered}
use Rattle.samza_container.proofs.Done.{done_then, of_done}
use Rattle.samza_container.proofs.Ending.{folder_status, task_status}
use Rattle.samza_container.proofs.Exact.{not_words}
use Rattle.samza_container.proofs.Naming.{no_task, of_folder, of_task}
use Rattle.samza_container.proofs.Told.{if_err, if_stopped, never_two}
use Rattle.samza_container.proofs.top.run.Goals as goal

pub returns-in-Ok-prepare-clause-others : goal.returns-in-Ok-prepare-clause-others
returns-in-Ok-prepare-clause-others g c = λ told n other.
    let h = g.H.Host in
    same_at_trans h.folder h.images h.images_since h.call_number c.args.host.now c.prepare.new.host c.run_set_up.new.host n (c.in-Ok-prepare.ensures.disks told n) (c.run_set_up.ensures.others told n other)

pub returns-in-Ok-prepare-clause-done : goal.returns-in-Ok-prepare-clause-done
returns-in-Ok-prepare-clause-done g c = λ told.
    let h = g.H.Host in
    let old = c.args.host.now in
    let mid = c.prepare.new.host in
    let new = c.run_set_up.new.host in
    let s = c.in-Ok-prepare.setup in
    let result = answered c.run_set_up.result in
    let same = c.in-Ok-prepare.ensures.disks told in
    inr (
      word_count,
      s,
      c.in-Ok-prepare.ensures.ready told,
      done_then h.folder h.images h.images_since h.call_number old mid new task_disk word_count s ((h.folder old).disks (input_disk s) 0) result (same task_disk)
          (subst (λ (i : Image). TaskDone h.folder h.images h.images_since h.call_number mid new task_disk word_count s (i 0) result) (same (input_disk s)).disk.reads_are (c.run_set_up.ensures.done told)),
    )

pub returns-in-Ok-prepare-clause-cause : goal.returns-in-Ok-prepare-clause-cause
returns-in-Ok-prepare-clause-cause g c =
    let h = g.H.Host in
    let old = c.args.host.now in
    let mid = c.prepare.new.host in
    let new = c.run_set_up.new.host in
    let s = c.in-Ok-prepare.setup in
    let words = map string_bytes c.args.words.now in
    if_stopped c.run_set_up.result (λ r. h.tells → TaskDone h.folder h.images h.images_since h.call_number mid new task_disk word_count s ((h.folder mid).disks (input_disk s) 0) r)
    (λ stop done of named.
    of_task h.tells words (h.folder old) word_count s stop.task stop.inputs.items stop.fault c.in-Ok-prepare.ensures.set_up of named c.in-Ok-prepare.ensures.ready (λ told.
    let same = c.in-Ok-prepare.ensures.disks told in
    of_done h.folder h.images h.images_since h.call_number old new task_disk word_count s ((h.folder old).disks (input_disk s) 0) stop.fault of
    (done_then h.folder h.images h.images_since h.call_number old mid new task_disk word_count s ((h.folder old).disks (input_disk s) 0) (Err stop.fault) (same task_disk)
    (subst (λ (i : Image). TaskDone h.folder h.images h.images_since h.call_number mid new task_disk word_count s (i 0) (Err stop.fault)) (same (input_disk s)).disk.reads_are (done told)))))
    c.run_set_up.ensures.done c.run_set_up.ensures.told c.run_set_up.ensures.named

pub returns-in-Err-prepare-clause-done : goal.returns-in-Err-prepare-clause-done
returns-in-Err-prepare-clause-done g c = λ told.
    let h = g.H.Host in
    let words = map string_bytes c.args.words.now in
    inl (
      subst (λ (e : RunFault). WhyNoTask words (h.folder c.args.host.now) (Err e)) (sym c.before_task-in-Err-prepare.ensures)
          (no_task words (h.folder c.args.host.now) c.in-Err-prepare.fault c.in-Err-prepare.ensures.of_folder (c.in-Err-prepare.ensures.why told)),
      c.in-Err-prepare.ensures.disks told task_disk,
    )

pub returns-in-Err-prepare-clause-cause : goal.returns-in-Err-prepare-clause-cause
returns-in-Err-prepare-clause-cause g c =
    let h = g.H.Host in
    let words = map string_bytes c.args.words.now in
    let stop = c.before_task-in-Err-prepare.result in
    subst (λ (e : RunFault). IsCause h.tells words (h.folder c.args.host.now) stop.task stop.inputs.items e) (sym c.before_task-in-Err-prepare.ensures)
    (of_folder h.tells words (h.folder c.args.host.now) stop.task stop.inputs.items c.in-Err-prepare.fault c.in-Err-prepare.ensures.of_folder c.in-Err-prepare.ensures.why)

pub returns-in-Err-clause-done : goal.returns-in-Err-clause-done
returns-in-Err-clause-done g c = λ told.
    let h = g.H.Host in
    let words = map string_bytes c.args.words.now in
    let host = c.args.host.now in
    inl (
      subst (λ (e : RunFault). WhyNoTask words (h.folder host) (Err e)) (sym c.before_task.ensures) (refused_at words c.in-Err.place c.in-Err.ensures.refused),
      record { disk = same_disk_refl ((h.folder host).disks task_disk) (h.images host task_disk) (h.images_since host task_disk) (h.call_number host task_disk); files_are = refl },
    )

pub returns-in-Err-clause-cause : goal.returns-in-Err-clause-cause
returns-in-Err-clause-cause g c =
    let h = g.H.Host in
    let words = map string_bytes c.args.words.now in
    let stop = c.before_task.result in
    subst (λ (e : RunFault). IsCause h.tells words (h.folder c.args.host.now) stop.task stop.inputs.items e) (sym c.before_task.ensures)
    (let refused = refused_at words c.in-Err.place c.in-Err.ensures.refused in record { told = refused; why = λ told. refused; named = λ told. tt })

pub returns-in-Ok-prepare-clause-refused : goal.returns-in-Ok-prepare-clause-refused
returns-in-Ok-prepare-clause-refused g c = λ two. absurd (never_two c.run_set_up.result (if_err c.run_set_up.result (λ stop of. task_status c.in-Ok-prepare.setup stop.fault of) c.run_set_up.ensures.told) two)

pub returns-in-Err-prepare-clause-refused : goal.returns-in-Err-prepare-clause-refused
returns-in-Err-prepare-clause-refused g c = λ two.
    absurd (folder_status c.in-Err-prepare.fault c.in-Err-prepare.ensures.of_folder (sym (ap status_of c.before_task-in-Err-prepare.ensures) ∙ two))

pub returns-in-Err-clause-refused : goal.returns-in-Err-clause-refused
returns-in-Err-clause-refused g c = λ two.
    let words = map string_bytes c.args.words.now in
    ((λ is. not_words words c.in-Err.place is (refused_at words c.in-Err.place c.in-Err.ensures.refused)), refl)
