use Rattle.std.proofs.Common.{subst, sym, ◌∙◌}
use Rattle.disk_model.proofs.Laws.{same_at_trans}
use Rattle.samza_container.specs.Causes.{WhyNotOne}
use Rattle.samza_container.specs.Configured.{input_disk}
use Rattle.samza_container.proofs.Ready.{not_one, ready}
use Rattle.samza_container.proofs.preparing.prepare.Goals as goal

pub returns-in-Ok-check_partitions-clause-disks : goal.returns-in-Ok-check_partitions-clause-disks
returns-in-Ok-check_partitions-clause-disks g c = λ told n.
    let h = g.H.Host in
    same_at_trans h.folder h.images h.images_since h.call_number c.args.host.now c.configure.new.host c.check_partitions.new.host n (c.in-Ok.ensures.disks told n) (c.check_partitions.ensures.disks told n)

pub returns-clause-disks : goal.returns-clause-disks
returns-clause-disks g c = λ told n.
    let h = g.H.Host in
    same_at_trans h.folder h.images h.images_since h.call_number c.args.host.now c.configure.new.host c.check_partitions.new.host n (c.in-Ok.ensures.disks told n) (c.check_partitions.ensures.disks told n)

pub returns-in-Ok-check_partitions-clause-ready : goal.returns-in-Ok-check_partitions-clause-ready
returns-in-Ok-check_partitions-clause-ready g c = λ told.
    let h = g.H.Host in
    let host = c.args.host.now in
    let s = c.in-Ok-setup_of.setup in
    ready (h.folder host) c.in-Ok.config s (c.in-Ok.ensures.configured told) c.in-Ok-setup_of.ensures.setup c.in-Ok.ensures.built
    (sym (c.in-Ok.ensures.disks told (input_disk s)).files_are ∙ c.in-Ok-check_partitions.ensures.one told)

pub returns-clause-why : goal.returns-clause-why
returns-clause-why g c = λ told.
    let h = g.H.Host in
    let host = c.args.host.now in
    let s = c.in-Ok-setup_of.setup in
    let fault = c.in-Err-check_partitions.fault in
    not_one (h.folder host) c.in-Ok.config s (c.in-Ok.ensures.configured told) c.in-Ok-setup_of.ensures.setup fault
    (subst (λ n. WhyNotOne n fault) (c.in-Ok.ensures.disks told (input_disk s)).files_are (c.in-Err-check_partitions.ensures.why told))
