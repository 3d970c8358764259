use Rattle.std.proofs.Common.{◌≡◌, true, is_some, length, ap, arith, subst}
use Rattle.run_loop.specs.Runs.{Runs}
use Rattle.run_loop.specs.Stops.{WhyStopped}
use Rattle.task_runs.proofs.Units.{first_is, has_failure, only_one}
use Rattle.task_runs.proofs.runs.run_one.Goals as goal

pub swap_remove-unit-requires : goal.swap_remove-unit-requires
swap_remove-unit-requires g c =
    let old = only_one c.args.units.items c.requires.one in
    let r = c.run_inline-units.ensures.ran old.0 old.1 in
    omega (arith, ap length r.1)

pub answer-done-requires-clause-failed : goal.answer-done-requires-clause-failed
answer-done-requires-clause-failed g c κs within = λ place is.
    let disk = g.D.Disk in
    let old = only_one c.args.units.items c.requires.one in
    let r = c.run_inline-units.ensures.ran old.0 old.1 in
    let same = first_is c.run_inline-units.result.units.items r.0 c.swap_remove-unit.result r.1 c.swap_remove-unit.ensures.value in
    subst (λ u. is_some u.core.failed ≡ true) same (has_failure disk.tells disk.reads disk.fault_count old.0 r.0 c.run_inline-units.result.stop place r.3 is)

pub returns-clause-ran : goal.returns-clause-ran
returns-clause-ran g c = λ old is.
    let disk = g.D.Disk in
    let r = c.run_inline-units.ensures.ran old is in
    let same = first_is c.run_inline-units.result.units.items r.0 c.swap_remove-unit.result r.1 c.swap_remove-unit.ensures.value in
    subst (λ u. Runs g.J.Job.meaning disk.tells disk.reads disk.call_number disk.images disk.images_since disk.name disk.fault_count old u) same r.2

pub returns-clause-says : goal.returns-clause-says
returns-clause-says g c = λ old is.
    let disk = g.D.Disk in
    let r = c.run_inline-units.ensures.ran old is in
    let stop = c.run_inline-units.result.stop in
    let same = first_is c.run_inline-units.result.units.items r.0 c.swap_remove-unit.result r.1 c.swap_remove-unit.ensures.value in
    (stop, subst (λ u. WhyStopped disk.tells disk.reads disk.fault_count old u stop) same r.3, c.answer-done.ensures)
