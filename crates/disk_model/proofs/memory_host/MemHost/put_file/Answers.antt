use Rattle.std.proofs.Common.{ℕ, ◌∙◌, ◌+◌, List, Option, ap, max, sym, subst}
use Rattle.disk_model.proofs.HostSteps.{Changed, capacity_in, each_name, held_from, in_from, in_host, in_trans, named_each, on_same, on_some}
use Rattle.disk_model.proofs.SameDisks.{as_many_trans}
use Rattle.disk_model.specs.HandedOut.{held_under}
use Rattle.disk_model.specs.HostSteps.{IsPlaced}
use Rattle.disk_model.specs.Images.{Only}
use Rattle.disk_model.specs.MemoryDisk.{mem_file_count, mem_images, mem_name, mem_reads}
use Rattle.disk_model.specs.MemoryHost.{disk_of, host_bounds}
use Rattle.disk_model.specs.Slots.{images_in, number_in, reads_in}
use Rattle.disk_model.specs.declared.memory_disk.MemDisk.{MemDisk}
use Rattle.disk_model.proofs.memory_host.MemHost.put_file.Goals.{After-place_held}
use Rattle.disk_model.proofs.memory_host.MemHost.put_file.Goals as goal

-- the disk of the name before and after
placed : (c : After-place_held) → Changed (IsPlaced c.args.file c.args.bytes.now) (disk_of c.ensure.new.self c.args.name.now) (held_under c.place_held.new.handed c.args.name.now)
placed c = on_some (IsPlaced c.args.file c.args.bytes.now) _ _ (c.in_ok-ensure.ensures.there c.requires.disk_in) c.place_held.ensures.placed

pub invariant_of-self : goal.invariant_of-self
invariant_of-self c =
    let mid = c.ensure.new.self in
    let e = c.place_held.ensures in
    record { named = named_each (held_under mid.handed) _ c.args.name.now e.elsewhere mid.named (on_same mem_name (IsPlaced c.args.file c.args.bytes.now) _ _ c.args.name.now e.placed (λ d d' step. step.name) (mid.named c.args.name.now)) }

pub returns-clause-placed : goal.returns-clause-placed
returns-clause-placed c = let p = placed (goal.at.returns-clause-placed c).After-place_held in ap (λ (o : Option MemDisk). reads_in mem_reads o c.args.file) p.now ∙ p.stepped.placed

pub returns-clause-one_image : goal.returns-clause-one_image
returns-clause-one_image c = let p = placed (goal.at.returns-clause-one_image c).After-place_held in subst (λ (o : Option MemDisk). Only c.args.file (reads_in mem_reads o) (images_in mem_images o)) (sym p.now) p.stepped.one_image

pub returns-clause-elsewhere : goal.returns-clause-elsewhere
returns-clause-elsewhere c = λ f ne.
    let p = placed (goal.at.returns-clause-elsewhere c).After-place_held in
    ap (λ (o : Option MemDisk). reads_in mem_reads o f) p.now ∙ p.stepped.elsewhere f ne
    ∙ sym (ap (λ (o : Option MemDisk). reads_in mem_reads o f) p.was)
    ∙ ap (λ (r : ℕ → List ℕ). r f) (c.ensure.ensures.disks c.args.name.now).disk.reads_are

pub returns-clause-file_count : goal.returns-clause-file_count
returns-clause-file_count c =
    let p = placed (goal.at.returns-clause-file_count c).After-place_held in
    ap (λ (o : Option MemDisk). number_in mem_file_count o) p.now ∙ p.stepped.files
    ∙ ap (λ m. max m (c.args.file + 1)) (sym (ap (λ (o : Option MemDisk). number_in mem_file_count o) p.was) ∙ (c.ensure.ensures.disks c.args.name.now).files_are)

pub returns-clause-disks : goal.returns-clause-disks
returns-clause-disks c = λ m ne. held_from c.args.self.now _ m (in_trans _ _ _ (in_host _ c.ensure.new.self m (c.ensure.ensures.disks m)) (in_from _ _ (c.place_held.ensures.elsewhere m ne)))

pub returns-clause-disks_out : goal.returns-clause-disks_out
returns-clause-disks_out c = as_many_trans _ _ _ c.ensure.ensures.disks_out c.place_held.ensures.disks

pub returns-clause-shelves_out : goal.returns-clause-shelves_out
returns-clause-shelves_out c = as_many_trans _ _ _ c.ensure.ensures.shelves_out c.place_held.ensures.shelves

pub returns-clause-capacity : goal.returns-clause-capacity
returns-clause-capacity c =
    let p = placed (goal.at.returns-clause-capacity c).After-place_held in
    let bounds = host_bounds c.ensure.new.self in
    let said = λ (o : Option MemDisk). capacity_in bounds c.args.name.now o in
    λ m. each_name _ _ c.args.name.now (λ m ne. ap (λ (o : Option MemDisk). capacity_in bounds m o) (c.place_held.ensures.elsewhere m ne))
    (ap said p.now ∙ p.stepped.capacity ∙ sym (ap said p.was)) m ∙ c.ensure.ensures.capacity m
