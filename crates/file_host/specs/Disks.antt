-- What a call of a disk leaves as it is.
use Rattle.std.specs.Prelude.{◌≡◌}
use Rattle.file_host.specs.declared.disks.FileDisk.{FileDisk}

-- the same disk with the same counts and failures, but for the path that was written last and the entries that are synced
pub record SameButPaths {R D : Type 0} (old new : FileDisk R D) : Type 0 where
  pub name : new.name ≡ old.name
  pub calls : new.calls ≡ old.calls
  pub failures : new.failures ≡ old.failures
