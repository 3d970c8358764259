-- Which disks and shelves of a host are out, and what a host's calls leave as it is.
use Rattle.std.specs.Prelude.{ℕ, ◌≡◌, ◌≢◌, ◌+◌, ◌==◌, ◌↔◌, Bool, false, ◌&&◌}
use Rattle.std.specs.Cmp.Lexicographic.{pointwise}
use Rattle.samza_model.specs.Files.{Image}
use Rattle.disk_model.specs.Folders.{Folder}
use Rattle.disk_model.specs.declared.names.DiskName.{DiskName}
use Rattle.disk_model.specs.declared.names.DiskName.TheVariants.{Task, Stream}

abbrev pub same_name : DiskName → DiskName → Bool
same_name (Task m) (Task n) = m == n
same_name (Task m) (Stream u v) = false
same_name (Stream s t) (Task n) = false
same_name (Stream s t) (Stream u v) = pointwise ◌==◌ s u && pointwise ◌==◌ t v

-- one more of this name, and as many of each other name
pub record OneMore (name : DiskName) (old new : DiskName → ℕ) : Type 0 where
  pub here : new name ≡ old name + 1
  pub elsewhere : (n : DiskName) → n ≢ name → new n ≡ old n

-- as many of each name
abbrev pub AsMany : (DiskName → ℕ) → (DiskName → ℕ) → Type 0
AsMany old new = (n : DiskName) → new n ≡ old n

-- no disk and no shelf is out
abbrev pub NoneOut : (DiskName → ℕ) → (DiskName → ℕ) → Type 0
NoneOut disks shelves = (n : DiskName) → (disks n ≡ 0) × (shelves n ≡ 0)

-- two disks with the same meanings, of which one may be a host's
pub record SameDisk (reads : Image) (images : Image → Type 0) (since : ℕ → Image → Type 0) (number : ℕ)
    (reads' : Image) (images' : Image → Type 0) (since' : ℕ → Image → Type 0) (number' : ℕ) : Type 0 where
  pub reads_are : reads' ≡ reads
  pub images_are : (c : Image) → images c ↔ images' c
  pub since_are : (k : ℕ) (c : Image) → since k c ↔ since' k c
  pub number_is : number' ≡ number

-- one host's disk of a name is as another's
pub record SameAt {H : Type 0} (folder : H → Folder) (images : H → DiskName → Image → Type 0) (since : H → DiskName → ℕ → Image → Type 0)
    (number : H → DiskName → ℕ) (old new : H) (n : DiskName) : Type 0 where
  pub disk : SameDisk ((folder old).disks n) (images old n) (since old n) (number old n) ((folder new).disks n) (images new n) (since new n) (number new n)
  pub files_are : (folder new).files n ≡ (folder old).files n
