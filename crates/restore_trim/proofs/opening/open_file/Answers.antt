use Rattle.restore_trim.proofs.Openings.{file_fault}
use Rattle.restore_trim.proofs.Telling.{opening_tells, no_device}
use Rattle.restore_trim.proofs.opening.open_file.Goals as goal

pub returns-in-Err-clause-why : goal.returns-in-Err-clause-why
returns-in-Err-clause-why g c = λ told. file_fault (g.D.Disk.reads c.args.disk.now) c.args.file c.in-Err.fault c.opening.result c.opening.ensures c.in-Err.ensures.never.0 (λ at is. c.in-Err.ensures.damaged at is told)

pub returns-in-Err-clause-refused : goal.returns-in-Err-clause-refused
returns-in-Err-clause-refused g c = λ other told. (c.in-Err.ensures.untouched (no_device c.args.file c.in-Err.fault c.opening.result c.opening.ensures other) told).0

pub returns-in-Err-clause-told : goal.returns-in-Err-clause-told
returns-in-Err-clause-told g c = opening_tells c.args.file c.in-Err.fault c.opening.result c.opening.ensures c.in-Err.ensures.never.0
