-- What is read of the folder of a host.
use Rattle.std.specs.Prelude.{ℕ, List, Option}
use Rattle.samza_model.specs.Files.{Image}
use Rattle.disk_model.specs.declared.names.DiskName.{DiskName}

-- what a host's folder holds, as it reads
pub record Folder : Type 0 where
  -- the configuration's bytes, if there is a configuration
  pub text : Option (List ℕ)
  -- of each disk, one more than the greatest number of a file that is there, and 0 where there is none: of a stream, its partitions
  pub files : DiskName → ℕ
  -- the files of each disk; nothing is said of one that is out
  pub disks : DiskName → Image
