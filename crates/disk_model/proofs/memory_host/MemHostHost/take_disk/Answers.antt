use Rattle.std.proofs.Common.{Option, ap}
use Rattle.disk_model.proofs.HostSteps.{capacity_in, in_from, named_each, named_one, same_held}
use Rattle.disk_model.specs.MemoryHost.{host_bounds}
use Rattle.disk_model.specs.HandedOut.{held_under}
use Rattle.disk_model.specs.declared.memory_disk.MemDisk.{MemDisk}
use Rattle.disk_model.proofs.memory_host.MemHostHost.take_disk.Goals as goal

pub invariant_of-self : goal.invariant_of-self
invariant_of-self c =
    let h = c.args.self.now.handed in
    let e = c.take_disk.ensures in
    record { named = named_each (held_under h) _ c.args.name.now e.elsewhere c.args.self.now.named (named_one _ c.args.disk c.args.name.now e.held c.requires.own) }

pub returns-clause-disk : goal.returns-clause-disk
returns-clause-disk c = (in_from _ _ c.take_disk.ensures.held).disk

pub returns-clause-there : goal.returns-clause-there
returns-clause-there c = (in_from _ _ c.take_disk.ensures.held).files

pub returns-clause-disks : goal.returns-clause-disks
returns-clause-disks c = λ m ne. same_held c.args.self.now _ m (c.take_disk.ensures.elsewhere m ne)

pub returns-clause-returned : goal.returns-clause-returned
returns-clause-returned c = ap (λ (o : Option MemDisk). capacity_in (host_bounds c.args.self.now) c.args.name.now o) c.take_disk.ensures.held

pub returns-clause-capacity : goal.returns-clause-capacity
returns-clause-capacity c = λ m ne. ap (λ (o : Option MemDisk). capacity_in (host_bounds c.args.self.now) m o) (c.take_disk.ensures.elsewhere m ne)
