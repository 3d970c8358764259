use Rattle.std.proofs.Common.{◌≡◌, length}
use Rattle.restore_trim.specs.Crashes.{KeepsOutputs}
use Rattle.restore_trim.specs.Standing.{AllSound}
use Rattle.restore_trim.proofs.SoFar.{Goes, OutputsSoFar}
use Rattle.restore_trim.proofs.Tails.{LeftSoFar}
use Rattle.restore_trim.proofs.restoring.open_outputs.Given as goal

abbrev pub invariant-loop-j : goal.invariant-loop-j
invariant-loop-j g l =
    OutputsSoFar g.D.Disk.tells g.D.Disk.reads g.D.Disk.images l.fn.disk l.disk l.j l.logs.items
    × (length l.logs.items ≡ l.j)
    × AllSound l.logs.items
    × LeftSoFar g.D.Disk.reads g.D.Disk.call_number g.D.Disk.images g.D.Disk.images_since g.D.Disk.tells l.fn.disk l.disk (KeepsOutputs l.j)
    × Goes g.D.Disk.fault_count g.D.Disk.name l.fn.disk l.disk
