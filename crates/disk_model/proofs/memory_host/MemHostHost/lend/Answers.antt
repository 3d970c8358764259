use Rattle.std.proofs.Common.{◌∙◌, ◌≡◌, Option, Some, ap, sym, subst, rules}
use Rattle.disk_model.proofs.HostSteps.{SameIn, capacity_in, held_from, in_from, in_host, in_trans, named_each, named_none}
use Rattle.disk_model.proofs.SameDisks.{as_many_one_more, as_many_trans, same_disk_trans}
use Rattle.disk_model.specs.HandedOut.{held_under}
use Rattle.disk_model.specs.MemoryDisk.{mem_calls, mem_images, mem_images_since, mem_reads}
use Rattle.disk_model.specs.MemoryHost.{disk_of, host_bounds}
use Rattle.disk_model.specs.declared.memory_disk.MemDisk.{MemDisk}
use Rattle.disk_model.proofs.memory_host.MemHostHost.lend.Goals.{After-lend_disk}
use Rattle.disk_model.proofs.memory_host.MemHostHost.lend.Goals as goal

-- what was held of the name
lent : (c : After-lend_disk) (d : MemDisk) → c.lend_disk.result ≡ Some d → SameIn (disk_of c.args.self.now c.args.name.now) (Some d)
lent c d is =
    let mid = c.ensure.new.self in
    let n = c.args.name.now in
    let held : disk_of mid n ≡ Some d = sym c.lend_disk.ensures.value ∙ is in
    subst (λ (o : Option MemDisk). SameIn (disk_of c.args.self.now n) o) held (in_host _ mid n (c.ensure.ensures.disks n))

pub invariant_of-self-2 : goal.invariant_of-self-2
invariant_of-self-2 c =
    let mid = c.ensure.new.self in
    let e = c.lend_disk.ensures in
    record { named = named_each (held_under mid.handed) _ c.args.name.now e.elsewhere mid.named (named_none _ c.args.name.now e.gone) }

pub returns-in-Some-clause-disk : goal.returns-in-Some-clause-disk
returns-in-Some-clause-disk c =
    let d = c.in-Some.disk in
    let both = lent (goal.at.returns-in-Some-clause-disk c).After-lend_disk d c.in-Some.is in
    same_disk_trans _ (mem_reads d) _ (mem_images d) _ (mem_images_since d) _ (mem_calls d) _ _ _ _ both.disk c.as_handle.ensures.disk

pub returns-in-Some-clause-there : goal.returns-in-Some-clause-there
returns-in-Some-clause-there c = c.as_handle.ensures.files ∙ (lent (goal.at.returns-in-Some-clause-there c).After-lend_disk c.in-Some.disk c.in-Some.is).files

pub returns-in-Some-clause-name : goal.returns-in-Some-clause-name
returns-in-Some-clause-name c = c.as_handle.ensures.name ∙ c.ensure.new.self.named c.args.name.now c.in-Some.disk (sym c.lend_disk.ensures.value ∙ c.in-Some.is)

pub returns-in-Some-clause-disks_out : goal.returns-in-Some-clause-disks_out
returns-in-Some-clause-disks_out c = as_many_one_more _ _ _ _ c.ensure.ensures.disks_out (c.lend_disk.ensures.lent (search rules))

pub returns-in-Some-clause-disks : goal.returns-in-Some-clause-disks
returns-in-Some-clause-disks c = λ m ne. held_from c.args.self.now _ m (in_trans _ _ _ (in_host _ c.ensure.new.self m (c.ensure.ensures.disks m)) (in_from _ _ (c.lend_disk.ensures.elsewhere m ne)))

pub returns-in-Some-clause-shelves_out : goal.returns-in-Some-clause-shelves_out
returns-in-Some-clause-shelves_out c = as_many_trans _ _ _ c.ensure.ensures.shelves_out c.lend_disk.ensures.shelves

pub returns-in-Some-clause-capacity : goal.returns-in-Some-clause-capacity
returns-in-Some-clause-capacity c = λ m ne. ap (λ (o : Option MemDisk). capacity_in (host_bounds c.ensure.new.self) m o) (c.lend_disk.ensures.elsewhere m ne) ∙ c.ensure.ensures.capacity m
