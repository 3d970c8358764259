use Rattle.std.proofs.Common.{List, ℕ, Err, inl, inr, refl, sym, ◌∙◌, ap, subst}
use Rattle.samza_model.specs.Files.{Image}
use Rattle.disk_model.proofs.Laws.{same_at_trans}
use Rattle.restore_trim.specs.Crashes.{OpeningLeaves}
use Rattle.task_runs.specs.Worked.{Worked, WhyNotStarted}
use Rattle.samza_container.proofs.Done.{hosted, not_handed}
use Rattle.task_runs.proofs.Shared.{nothing_left}
use Rattle.samza_container.proofs.Leaving.{given_back, reads_back, untouched}
use Rattle.samza_container.proofs.hosting.run_on_host.Goals as goal

pub returns-in-Err-shelf-clause-others : goal.returns-in-Err-shelf-clause-others
returns-in-Err-shelf-clause-others g c = λ told n other.
    let h = g.H.Host in
    same_at_trans h.folder h.images h.images_since h.call_number c.args.host.now c.shelf.new.self c.take_disk.new.self n
    (same_at_trans h.folder h.images h.images_since h.call_number c.args.host.now c.lend.new.self c.shelf.new.self n (c.lend.ensures.disks told n other) (c.shelf.ensures.disks told n))
    (c.take_disk.ensures.disks told n other)

pub returns-clause-others : goal.returns-clause-others
returns-clause-others g c = λ told n other.
    let h = g.H.Host in
    same_at_trans h.folder h.images h.images_since h.call_number c.args.host.now c.take_shelf.new.self c.take_disk-2.new.self n
    (same_at_trans h.folder h.images h.images_since h.call_number c.args.host.now c.shelf.new.self c.take_shelf.new.self n
    (same_at_trans h.folder h.images h.images_since h.call_number c.args.host.now c.lend.new.self c.shelf.new.self n (c.lend.ensures.disks told n other) (c.shelf.ensures.disks told n))
    (c.take_shelf.ensures.disks told n))
    (c.take_disk-2.ensures.disks told n other)

pub returns-in-Err-clause-done : goal.returns-in-Err-clause-done
returns-in-Err-clause-done g c = λ told.
    let h = g.H.Host in
    let old = c.args.host.now in
    let input = (h.folder old).disks c.args.input.now c.args.partition in
    inl (
      subst (λ e. WhyNotStarted c.args.setup ((h.folder old).disks c.args.task.now) input (Err e)) (sym c.of_host.ensures) (not_handed c.args.setup ((h.folder old).disks c.args.task.now) input c.in-Err.fault),
      inl (c.in-Err.ensures.kept told),
    )

pub returns-in-Err-shelf-clause-done : goal.returns-in-Err-shelf-clause-done
returns-in-Err-shelf-clause-done g c = λ told.
    let h = g.H.Host in
    let disk = g.H.Disk.Disk in
    let old = c.args.host.now in
    let new = c.take_disk.new.self in
    let n = c.args.task.now in
    let lent = c.in-Ok.disk in
    let tells = g.met.H.Host.disk_tells told in
    let law = (g.met.H.Disk.Disk g.world.𝓛 g.world.𝓜 g.world.𝓡 ((λ s x. x), (λ x. x), (λ x. x), λ x. x)) in
    let out = c.in-Ok.ensures.disk told in
    let home = c.take_disk.ensures.disk told in
    let step = OpeningLeaves c.args.setup in
    let input = (h.folder old).disks c.args.input.now c.args.partition in
    let run = untouched disk.call_number disk.images disk.images_since lent lent step refl (λ image left. law.only_now lent image tells left) (nothing_left c.args.setup) in
    inl (
      subst (λ e. WhyNotStarted c.args.setup ((h.folder old).disks n) input (Err e)) (sym c.of_host-in-Err-shelf.ensures) (not_handed c.args.setup ((h.folder old).disks n) input c.in-Err-shelf.fault),
      inr (record {
        moment = given_back disk.call_number disk.images disk.images_since (λ x. h.call_number x n) (λ x. h.images x n) (λ x. h.images_since x n) ((h.folder old).disks n) (disk.reads lent) (disk.reads lent) ((h.folder new).disks n)
            lent lent old new step out home run;
        reads = reads_back disk.call_number disk.images disk.images_since (λ x. h.images x n) (λ x. h.images_since x n) (λ x. h.call_number x n) ((h.folder old).disks n) (disk.reads lent) (disk.reads lent) ((h.folder new).disks n)
            lent lent old step out home.reads_are (law.read_is_image lent tells) (λ k image low is. law.counts_now lent k image tells low is) run;
      }),
    )

pub returns-clause-done : goal.returns-clause-done
returns-clause-done g c = λ told.
    let h = g.H.Host in
    let disk = g.H.Disk.Disk in
    let old = c.args.host.now in
    let new = c.take_disk-2.new.self in
    let n = c.args.task.now in
    let s = c.args.setup in
    let lent = c.in-Ok.disk in
    let back = c.run_task-done.result.1 in
    let result = c.run_task-done.result.0 in
    let tells = g.met.H.Host.disk_tells told in
    let law = (g.met.H.Disk.Disk g.world.𝓛 g.world.𝓜 g.world.𝓡 ((λ s x. x), (λ x. x), (λ x. x), λ x. x)) in
    let job = g.J.Job.meaning (g.J.Job.plain c.args.job.now) in
    let shelf = g.H.Shelf.Shelf.bytes c.in-Ok-shelf.shelf in
    let bytes = (h.folder old).disks c.args.input.now c.args.partition in
    let input = c.in-Ok-shelf.ensures.bytes told ∙ ap (λ (i : Image). i c.args.partition) (c.lend.ensures.disks told c.args.input.now c.requires.apart).disk.reads_are in
    let out = c.in-Ok.ensures.disk told in
    let home = c.take_disk-2.ensures.disk told in
    elim (c.run_task-done.ensures.done tells (g.met.H.Host.shelf_tells told)) [
      | inl shut ↦ inl (
        subst (λ (b : List ℕ). WhyNotStarted s ((h.folder old).disks n) b result) input (subst (λ (i : Image). WhyNotStarted s i shelf result) out.reads_are shut.0),
        inr (record {
          moment = given_back disk.call_number disk.images disk.images_since (λ x. h.call_number x n) (λ x. h.images x n) (λ x. h.images_since x n) ((h.folder old).disks n) (disk.reads lent) (disk.reads back) ((h.folder new).disks n)
              lent back old new (OpeningLeaves s) out home shut.1;
          reads = reads_back disk.call_number disk.images disk.images_since (λ x. h.images x n) (λ x. h.images_since x n) (λ x. h.call_number x n) ((h.folder old).disks n) (disk.reads lent) (disk.reads back) ((h.folder new).disks n)
              lent back old (OpeningLeaves s) out home.reads_are (law.read_is_image back tells) (λ k image low is. law.counts_now back k image tells low is) shut.1;
        }),
      )
      | inr ran ↦ inr (
        ran.0,
        subst (λ (b : List ℕ). Worked (λ x. h.call_number x n) (λ x. h.images x n) (λ x. h.images_since x n) old new job s b ((h.folder old).disks n) ((h.folder new).disks n) result ran.0) input
            (subst (λ (i : Image). Worked (λ x. h.call_number x n) (λ x. h.images x n) (λ x. h.images_since x n) old new job s shelf i ((h.folder new).disks n) result ran.0) out.reads_are
            (subst (λ (i : Image). Worked (λ x. h.call_number x n) (λ x. h.images x n) (λ x. h.images_since x n) old new job s shelf (disk.reads lent) i result ran.0) (sym home.reads_are)
            (hosted disk.call_number disk.images disk.images_since (λ x. h.call_number x n) (λ x. h.images x n) (λ x. h.images_since x n) ((h.folder old).disks n) (disk.reads lent) (disk.reads back) ((h.folder new).disks n)
            lent back old new job s shelf (disk.reads lent) (disk.reads back) result ran.0 out home ran.1))),
      )
    ]
