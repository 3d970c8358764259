use Rattle.std.proofs.Common.{◌-◌}
use Rattle.topic_log.proofs.Settling.{Walking}
use Rattle.topic_log.proofs.opening.walk.Given as goal

abbrev pub invariant-gates : goal.invariant-gates
invariant-gates g l =
    let disk = g.D.Disk in
    Walking disk.tells disk.reads disk.call_number disk.images disk.images_since disk.fault_count disk.name l.fn.disk l.disk l.file l.size l.window l.extent

abbrev pub decreases-gates : goal.decreases-gates
decreases-gates g l = l.size - l.extent.gate
