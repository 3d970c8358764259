use Rattle.std.proofs.Common.{ℕ, ◌≡◌, Option, Some, None, ap, refl, subst, sym}
use Rattle.std.specs.Prelude.{IfSome}
use Rattle.disk_model.proofs.HostSteps.{capacity_in, held_from, in_from, named_each, on_none, on_same}
use Rattle.disk_model.specs.Capacities.{Capacity, unused}
use Rattle.disk_model.specs.HandedOut.{held_under}
use Rattle.disk_model.specs.HostSteps.{IsCrashed, OnHeld}
use Rattle.disk_model.specs.Images.{Only}
use Rattle.disk_model.specs.MemoryDisk.{mem_calls, mem_capacity, mem_file_count, mem_images, mem_name, mem_reads, mem_states}
use Rattle.disk_model.specs.MemoryHost.{disk_of, host_bounds, new_capacity}
use Rattle.disk_model.specs.Picks.{IsPicked}
use Rattle.disk_model.specs.Slots.{images_in, number_in, or_else, reads_in}
use Rattle.disk_model.specs.declared.memory_disk.MemDisk.{MemDisk}
use Rattle.disk_model.specs.declared.picks.Pick.{Pick}
use Rattle.disk_model.specs.declared.picks.Pick.TheVariants.{New}
use Rattle.disk_model.proofs.memory_host.MemHost.crash.Goals.{After-crash_held}
use Rattle.disk_model.proofs.memory_host.MemHost.crash.Goals as goal

-- what stands under a name before and after a crash of it
record InCrash (pick : Pick) (o p : Option MemDisk) : Type 0 where
  pub image : images_in mem_images o (reads_in mem_reads p)
  pub one_image : (f : ℕ) → Only f (reads_in mem_reads p) (images_in mem_images p)
  pub picked : IfSome o (λ d. (f : ℕ) → IsPicked pick (mem_states d f) (reads_in mem_reads p f))
  pub newest : pick ≡ New → (f : ℕ) → reads_in mem_reads p f ≡ reads_in mem_reads o f
  pub calls : number_in mem_calls p ≡ 0
  pub files : number_in mem_file_count p ≡ number_in mem_file_count o
  pub capacity : (x : Capacity) → x ≡ unused x → or_else x mem_capacity p ≡ unused (or_else x mem_capacity o)

in_none : (pick : Pick) → InCrash pick None None
in_none pick = record { image = λ f. refl; one_image = λ f c now. now f; picked = tt; newest = λ is f. refl; calls = refl; files = refl; capacity = λ x e. e }

in_some : (pick : Pick) (d e : MemDisk) → IsCrashed pick d e → InCrash pick (Some d) (Some e)
in_some pick d e h = record { image = h.image; one_image = h.one_image; picked = h.picked; newest = h.newest; calls = h.calls; files = h.files; capacity = λ x e. h.capacity }

in_held : (pick : Pick) (o p : Option MemDisk) → OnHeld (IsCrashed pick) o p → InCrash pick o p
in_held pick None p none = subst (λ (x : Option MemDisk). InCrash pick None x) (sym none) (in_none pick)
in_held pick (Some d) None held = absurd held
in_held pick (Some d) (Some e) held = in_some pick d e held

outcome : (c : After-crash_held) → InCrash c.args.pick (disk_of c.args.self.now c.args.name.now) (held_under c.crash_held.new.handed c.args.name.now)
outcome c = in_held c.args.pick _ _ c.crash_held.ensures.crashed

pub invariant_of-self : goal.invariant_of-self
invariant_of-self c =
    let old = c.args.self.now in
    let e = c.crash_held.ensures in
    record { named = named_each (held_under old.handed) _ c.args.name.now e.elsewhere old.named (on_same mem_name (IsCrashed c.args.pick) _ _ c.args.name.now e.crashed (λ d d' step. step.name) (old.named c.args.name.now)) }

pub returns-clause-image : goal.returns-clause-image
returns-clause-image c = (outcome (goal.at.returns-clause-image c).After-crash_held).image

pub returns-clause-one_image : goal.returns-clause-one_image
returns-clause-one_image c = (outcome (goal.at.returns-clause-one_image c).After-crash_held).one_image

pub returns-clause-picked : goal.returns-clause-picked
returns-clause-picked c = (outcome (goal.at.returns-clause-picked c).After-crash_held).picked

pub returns-clause-newest : goal.returns-clause-newest
returns-clause-newest c = (outcome (goal.at.returns-clause-newest c).After-crash_held).newest

pub returns-clause-calls : goal.returns-clause-calls
returns-clause-calls c = (outcome (goal.at.returns-clause-calls c).After-crash_held).calls

pub returns-clause-file_count : goal.returns-clause-file_count
returns-clause-file_count c = (outcome (goal.at.returns-clause-file_count c).After-crash_held).files

pub returns-clause-absent : goal.returns-clause-absent
returns-clause-absent c = λ none. held_from c.args.self.now _ c.args.name.now (in_from _ _ (on_none (IsCrashed c.args.pick) _ _ none c.crash_held.ensures.crashed))

pub returns-clause-disks : goal.returns-clause-disks
returns-clause-disks c = λ m ne. held_from c.args.self.now _ m (in_from _ _ (c.crash_held.ensures.elsewhere m ne))

pub returns-clause-emptied : goal.returns-clause-emptied
returns-clause-emptied c = (outcome (goal.at.returns-clause-emptied c).After-crash_held).capacity (new_capacity (host_bounds c.args.self.now) c.args.name.now) refl

pub returns-clause-capacity : goal.returns-clause-capacity
returns-clause-capacity c = λ m ne. ap (λ (o : Option MemDisk). capacity_in (host_bounds c.args.self.now) m o) (c.crash_held.ensures.elsewhere m ne)
