use Rattle.std.proofs.Common.{◌≡◌, All, length}
use Rattle.kv_store.specs.Tracked.{AreWithinLimits}
use Rattle.restore_trim.specs.Crashes.{RevertsFiles}
use Rattle.restore_trim.specs.Standing.{AllSound}
use Rattle.restore_trim.proofs.SoFar.{Goes, StoresSoFar}
use Rattle.restore_trim.proofs.Tails.{LeftSoFar}
use Rattle.restore_trim.proofs.restoring.open_stores.Given as goal

abbrev pub invariant-loop-i : goal.invariant-loop-i
invariant-loop-i g l =
    StoresSoFar g.D.Disk.tells g.D.Disk.reads g.D.Disk.images l.fn.disk l.disk l.mark l.i l.logs.items l.tables.items
    × (length l.logs.items ≡ l.i) × (length l.tables.items ≡ l.i)
    × AllSound l.logs.items × All AreWithinLimits l.tables.items
    × LeftSoFar g.D.Disk.reads g.D.Disk.call_number g.D.Disk.images g.D.Disk.images_since g.D.Disk.tells l.fn.disk l.disk (RevertsFiles l.mark l.i)
    × Goes g.D.Disk.fault_count g.D.Disk.name l.fn.disk l.disk
