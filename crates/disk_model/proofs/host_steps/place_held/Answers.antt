use Rattle.std.proofs.Common.{rules}
use Rattle.disk_model.proofs.HostSteps.{out_and_in}
use Rattle.disk_model.proofs.host_steps.place_held.Goals as goal

pub returns-clause-disks : goal.returns-clause-disks
returns-clause-disks c = out_and_in _ _ _ c.args.name.now (c.lend_disk.ensures.lent (search rules)) c.take_disk.ensures.taken
