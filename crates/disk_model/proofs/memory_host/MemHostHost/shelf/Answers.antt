use Rattle.std.proofs.Common.{◌∙◌, Option, ap, sym}
use Rattle.disk_model.proofs.HostSteps.{capacity_in, held_from, in_from, in_host, in_trans}
use Rattle.disk_model.proofs.SameDisks.{as_many_one_more, as_many_trans}
use Rattle.disk_model.specs.MemoryHost.{host_bounds}
use Rattle.disk_model.specs.declared.memory_disk.MemDisk.{MemDisk}
use Rattle.disk_model.proofs.memory_host.MemHostHost.shelf.Goals as goal

pub invariant_of-self-2 : goal.invariant_of-self-2
invariant_of-self-2 c = record { named = λ m d e. c.ensure.new.self.named m d (sym (c.lend_shelf.ensures.held m) ∙ e) }

pub returns-then-not-lend_shelf-clause-disks : goal.returns-then-not-lend_shelf-clause-disks
returns-then-not-lend_shelf-clause-disks c = λ m. held_from c.args.self.now _ m (in_trans _ _ _ (in_host _ c.ensure.new.self m (c.ensure.ensures.disks m)) (in_from _ _ (c.lend_shelf.ensures.held m)))

pub returns-clause-disks : goal.returns-clause-disks
returns-clause-disks c = λ m. held_from c.args.self.now _ m (in_trans _ _ _ (in_host _ c.ensure.new.self m (c.ensure.ensures.disks m)) (in_from _ _ (c.lend_shelf.ensures.held m)))

pub returns-clause-shelves_out : goal.returns-clause-shelves_out
returns-clause-shelves_out c = as_many_one_more _ _ _ _ c.ensure.ensures.shelves_out (c.lend_shelf.ensures.lent c.if-not-lend_shelf.false)

pub returns-clause-disks_out : goal.returns-clause-disks_out
returns-clause-disks_out c = as_many_trans _ _ _ c.ensure.ensures.disks_out c.lend_shelf.ensures.disks

pub returns-clause-capacity : goal.returns-clause-capacity
returns-clause-capacity c = λ m. ap (λ (o : Option MemDisk). capacity_in (host_bounds c.ensure.new.self) m o) (c.lend_shelf.ensures.held m) ∙ c.ensure.ensures.capacity m
