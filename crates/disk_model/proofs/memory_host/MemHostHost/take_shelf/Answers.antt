use Rattle.std.proofs.Common.{◌∙◌, Option, ap, sym}
use Rattle.disk_model.proofs.HostSteps.{capacity_in, same_held}
use Rattle.disk_model.specs.MemoryHost.{host_bounds}
use Rattle.disk_model.specs.declared.memory_disk.MemDisk.{MemDisk}
use Rattle.disk_model.proofs.memory_host.MemHostHost.take_shelf.Goals as goal

pub invariant_of-self : goal.invariant_of-self
invariant_of-self c = record { named = λ m d e. c.args.self.now.named m d (sym (c.take_shelf.ensures.held m) ∙ e) }

pub returns-clause-disks : goal.returns-clause-disks
returns-clause-disks c = λ m. same_held c.args.self.now _ m (c.take_shelf.ensures.held m)

pub returns-clause-capacity : goal.returns-clause-capacity
returns-clause-capacity c = λ m. ap (λ (o : Option MemDisk). capacity_in (host_bounds c.args.self.now) m o) (c.take_shelf.ensures.held m)
