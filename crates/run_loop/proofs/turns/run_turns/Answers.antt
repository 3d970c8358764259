use Rattle.run_loop.proofs.Running.{runs_on, stays}
use Rattle.run_loop.proofs.Standing.{why_from}
use Rattle.run_loop.proofs.turns.run_turns.Goals as goal

pub loop-stop-init : goal.loop-stop-init
loop-stop-init g c =
    let disk = g.D.Disk in
    let law = (g.met.D.Disk g.world.𝓛 g.world.𝓜 g.world.𝓡 ((λ s x. x), (λ x. x), (λ x. x), λ x. x)) in
    (stays g.J.Job.meaning disk.tells disk.reads disk.call_number disk.images disk.images_since disk.name disk.fault_count (λ d i told left. law.only_now d i told left) c.args.unit.now, c.requires.going)

pub turn-requires-clause-going : goal.turn-requires-clause-going
turn-requires-clause-going g c κs within = c.loop-stop.invariant.1

pub returns-in-Err-clause-runs : goal.returns-in-Err-clause-runs
returns-in-Err-clause-runs g c =
    let disk = g.D.Disk in
    let law = (g.met.D.Disk g.world.𝓛 g.world.𝓜 g.world.𝓡 ((λ s x. x), (λ x. x), (λ x. x), λ x. x)) in
    runs_on g.J.Job.meaning disk.tells disk.reads disk.call_number disk.images disk.images_since disk.name disk.fault_count (λ d i told left. law.only_now d i told left) (λ d k i told le now. law.counts_now d k i told le now) c.args.unit.now c.loop-stop.unit c.turn.new.unit c.loop-stop.invariant.0 c.turn.ensures.runs

pub returns-in-Err-clause-stop : goal.returns-in-Err-clause-stop
returns-in-Err-clause-stop g c =
    let disk = g.D.Disk in
    why_from disk.tells disk.reads disk.fault_count c.args.unit.now c.loop-stop.unit c.turn.new.unit c.loop-stop.invariant.0.later c.in-Err.stop c.in-Err.ensures.stop

pub loop-stop-smaller : goal.loop-stop-smaller
loop-stop-smaller g c = c.in-Ok.ensures.left

pub loop-stop-preserved : goal.loop-stop-preserved
loop-stop-preserved g c =
    let disk = g.D.Disk in
    let law = (g.met.D.Disk g.world.𝓛 g.world.𝓜 g.world.𝓡 ((λ s x. x), (λ x. x), (λ x. x), λ x. x)) in
    (runs_on g.J.Job.meaning disk.tells disk.reads disk.call_number disk.images disk.images_since disk.name disk.fault_count (λ d i told left. law.only_now d i told left) (λ d k i told le now. law.counts_now d k i told le now) c.args.unit.now c.loop-stop.unit c.turn.new.unit c.loop-stop.invariant.0 c.turn.ensures.runs, c.in-Ok.ensures.going)
