use Rattle.run_loop.specs.Measures.{turns_left}
use Rattle.run_loop.specs.Runs.{IsGoing, Runs}
use Rattle.run_loop.proofs.turns.run_turns.Given as goal

abbrev pub invariant-loop-stop : goal.invariant-loop-stop
invariant-loop-stop g l =
    let disk = g.D.Disk in
    Runs g.J.Job.meaning disk.tells disk.reads disk.call_number disk.images disk.images_since disk.name disk.fault_count l.initial.unit l.unit × IsGoing l.unit

abbrev pub decreases-loop-stop : goal.decreases-loop-stop
decreases-loop-stop g l = turns_left l.unit.core
