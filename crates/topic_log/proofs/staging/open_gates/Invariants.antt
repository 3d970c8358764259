use Rattle.topic_log.proofs.Writing.{Opening}
use Rattle.topic_log.proofs.staging.open_gates.Given as goal

abbrev pub invariant-loop-frame : goal.invariant-loop-frame
invariant-loop-frame g l =
    let disk = g.D.Disk in
    Opening disk.tells disk.reads disk.call_number disk.images disk.images_since disk.fault_count disk.name l.fn.disk l.disk l.file l.at l.end l.frame-index l.frames
