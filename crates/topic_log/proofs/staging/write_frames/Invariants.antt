use Rattle.std.proofs.Common.{take}
use Rattle.topic_log.specs.Steps.{closed_frames}
use Rattle.topic_log.proofs.Writing.{Writing}
use Rattle.topic_log.proofs.staging.write_frames.Given as goal

abbrev pub invariant-loop-frame : goal.invariant-loop-frame
invariant-loop-frame g l =
    let disk = g.D.Disk in
    Writing disk.tells disk.reads disk.call_number disk.images disk.images_since disk.fault_count disk.name l.fn.disk l.disk l.file l.at l.end (closed_frames (take l.frame-index l.frames))
