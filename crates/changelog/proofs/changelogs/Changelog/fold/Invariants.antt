use Rattle.std.proofs.Common.{◌-◌}
use Rattle.topic_log.specs.Batches.{byte_of}
use Rattle.topic_log.specs.Opened.{size_of}
use Rattle.changelog.proofs.Folding.{Folding}
use Rattle.changelog.proofs.changelogs.Changelog.fold.Given as goal

abbrev pub invariant-batches : goal.invariant-batches
invariant-batches g l =
    let disk = g.D.Disk in
    Folding disk.tells disk.reads disk.call_number disk.images disk.images_since disk.fault_count disk.name l.fn.disk l.disk l.fn.self l.self-inside.log l.unread l.count l.fold

abbrev pub decreases-batches : goal.decreases-batches
decreases-batches g l = size_of l.self-inside.log - byte_of l.unread
