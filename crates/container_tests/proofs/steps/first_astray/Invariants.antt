use Rattle.disk_model.specs.Handles.{NoneOut}
use Rattle.disk_model.specs.MemoryHost.{host_disks_out, host_shelves_out}
use Rattle.container_tests.proofs.steps.first_astray.Given as goal

abbrev pub invariant-loop-number : goal.invariant-loop-number
invariant-loop-number l = NoneOut (host_disks_out l.host) (host_shelves_out l.host)
