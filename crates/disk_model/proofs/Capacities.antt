-- What disks in memory can take.
use Rattle.std.proofs.Common.{◌≡◌}
use Rattle.disk_model.specs.Capacities.{Capacity}

pub capacity_is : (c d : Capacity) → c.files ≡ d.files → c.room ≡ d.room → c.calls ≡ d.calls → c.used ≡ d.used → c ≡ d
capacity_is c d files room calls used = λ i. record { files = files i; room = room i; calls = calls i; used = used i }
