use Rattle.topic_log.proofs.Extending.{Extending}
use Rattle.topic_log.proofs.extents.Extent.behind.Given as goal

abbrev pub invariant-loop-frame : goal.invariant-loop-frame
invariant-loop-frame l = Extending l.fn.self l.extent l.frames l.frame-index
