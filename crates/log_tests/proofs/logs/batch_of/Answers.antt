use Rattle.log_tests.proofs.Places.{place_behind}
use Rattle.log_tests.proofs.logs.batch_of.Goals as goal

pub returns-clause-behind : goal.returns-clause-behind
returns-clause-behind g c =
    let disk = g.D.Disk in
    place_behind (disk.reads c.args.disk.now) (disk.reads c.batch.new.disk) (disk.images c.args.disk.now) (disk.images c.batch.new.disk) c.args.log.now c.batch.new.self disk.tells c.batch.result c.args.place
    c.batch.ensures.batch c.requires.place c.batch.ensures.stays
