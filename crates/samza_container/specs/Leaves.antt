-- What a crash at any moment leaves of a host's disk.
use Rattle.std.specs.Prelude.{ℕ, ◌⊎◌}
use Rattle.samza_model.specs.Files.{Image}
use Rattle.disk_model.specs.declared.names.DiskName.{DiskName}
use Rattle.disk_model.specs.Folders.{Folder}
use Rattle.disk_model.specs.Handles.{SameAt}
use Rattle.disk_model.specs.Images.{LeavesOnly}

-- a crash at any moment since then leaves of a host's disk of a name what this says, and a read gives of it now what this says
pub record MovedAt {H : Type 0} (folder : H → Folder) (images : H → DiskName → Image → Type 0) (since : H → DiskName → ℕ → Image → Type 0) (number : H → DiskName → ℕ)
    (old new : H) (n : DiskName) (step : Image → Image → Type 0) : Type 0 where
  pub moment : LeavesOnly (λ h. number h n) (λ h. images h n) (λ h. since h n) old new step
  pub reads : (d : Image) × images old n d × step d ((folder new).disks n)

-- a host's disk of a name is as it was, or it moved so
abbrev pub LeavesAt : {H : Type 0} → (H → Folder) → (H → DiskName → Image → Type 0) → (H → DiskName → ℕ → Image → Type 0) → (H → DiskName → ℕ)
    → H → H → DiskName → (Image → Image → Type 0) → Type 0
LeavesAt folder images since number old new n step = SameAt folder images since number old new n ⊎ MovedAt folder images since number old new n step
