-- Steps of a host in memory.
use Rattle.std.specs.Prelude.{ℕ, ◌≡◌, ◌+◌, max, List, Option, None, Some}
use Rattle.disk_model.specs.Capacities.{unused}
use Rattle.disk_model.specs.Images.{Only, SameElsewhere}
use Rattle.disk_model.specs.MemoryDisk.{mem_calls, mem_capacity, mem_file_count, mem_images, mem_name, mem_reads, mem_states}
use Rattle.disk_model.specs.Picks.{IsPicked}
use Rattle.disk_model.specs.declared.memory_disk.MemDisk.{MemDisk}
use Rattle.disk_model.specs.declared.picks.Pick.{Pick}
use Rattle.disk_model.specs.declared.picks.Pick.TheVariants.{New}

-- the bytes stand in the place of the file, and the other files read as before
pub record IsPlaced (file : ℕ) (bytes : List ℕ) (old new : MemDisk) : Type 0 where
  pub name : mem_name new ≡ mem_name old
  pub files : mem_file_count new ≡ max (mem_file_count old) (file + 1)
  pub placed : mem_reads new file ≡ bytes
  pub one_image : Only file (mem_reads new) (mem_images new)
  pub elsewhere : SameElsewhere file (mem_reads old) (mem_reads new)
  pub capacity : mem_capacity new ≡ mem_capacity old

-- the disk is as a crash left it
pub record IsCrashed (pick : Pick) (old new : MemDisk) : Type 0 where
  pub name : mem_name new ≡ mem_name old
  pub files : mem_file_count new ≡ mem_file_count old
  pub image : mem_images old (mem_reads new)
  pub one_image : (f : ℕ) → Only f (mem_reads new) (mem_images new)
  pub picked : (f : ℕ) → IsPicked pick (mem_states old f) (mem_reads new f)
  pub newest : pick ≡ New → (f : ℕ) → mem_reads new f ≡ mem_reads old f
  pub calls : mem_calls new ≡ 0
  pub capacity : mem_capacity new ≡ unused (mem_capacity old)

-- what is held of a name was changed by such a step, or nothing was held and nothing is
abbrev pub OnHeld : {T : Type 0} → (T → T → Type 0) → Option T → Option T → Type 0
OnHeld step None new = new ≡ None
OnHeld step (Some d) None = ⊥
OnHeld step (Some d) (Some e) = step d e
