use Rattle.disk_model.proofs.SameDisks.{same_disk_trans}
use Rattle.disk_model.proofs.host_steps.as_handle.Goals as goal

pub returns-clause-disk : goal.returns-clause-disk
returns-clause-disk c = same_disk_trans _ _ _ _ _ _ _ _ _ _ _ _ c.begin_handle.ensures.disk c.arm.ensures.disk
