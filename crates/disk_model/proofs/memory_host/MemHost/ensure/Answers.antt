use Rattle.std.proofs.Common.{◌∙◌, Option, ap, sym}
use Rattle.disk_model.proofs.HostSteps.{by_result, capacity_in, each_name, fresh_in, held_each, made_in, named_each, named_none, named_one}
use Rattle.disk_model.specs.HandedOut.{held_under}
use Rattle.disk_model.specs.MemoryHost.{host_bounds}
use Rattle.disk_model.specs.declared.memory_disk.MemDisk.{MemDisk}
use Rattle.disk_model.proofs.memory_host.MemHost.ensure.Goals as goal

pub invariant_of-self : goal.invariant_of-self
invariant_of-self c =
    let h = c.args.self.now.handed in
    let d = c.in_ok-disk.disk in
    let e = c.add.ensures in
    record { named = named_each (held_under h) _ c.args.name.now e.elsewhere c.args.self.now.named (by_result c.add.result e.held e.refused (λ is. named_one _ d c.args.name.now is c.in_ok-disk.ensures.name) (named_none _ c.args.name.now)) }

pub returns-clause-disks : goal.returns-clause-disks
returns-clause-disks c =
    let d = c.in_ok-disk.disk in
    let e = c.in_ok-disk.ensures in
    held_each c.args.self.now _ c.args.name.now c.add.ensures.elsewhere
    (made_in c.add.result _ _ d c.add.ensures.held c.add.ensures.refused (c.is_known.ensures.not_held c.if-is_known.false) (fresh_in d e.reads e.images e.images_since e.calls e.files))

pub returns-clause-capacity : goal.returns-clause-capacity
returns-clause-capacity c =
    let bounds = host_bounds c.args.self.now in
    let said = λ (o : Option MemDisk). capacity_in bounds c.args.name.now o in
    let none = c.is_known.ensures.not_held c.if-is_known.false in
    each_name _ _ c.args.name.now (λ m ne. ap (λ (o : Option MemDisk). capacity_in bounds m o) (c.add.ensures.elsewhere m ne))
    (by_result c.add.result c.add.ensures.held c.add.ensures.refused
    (λ is. ap said is ∙ c.in_ok-disk.ensures.capacity ∙ sym (ap said none))
    (λ is. ap said is ∙ sym (ap said none)))
