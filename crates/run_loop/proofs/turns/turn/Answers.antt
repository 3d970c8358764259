use Rattle.std.proofs.Common.{◌≡◌, ◌≤◌, ℕ, [], sym, ◌∙◌, ap, subst, slice_index_or, true≢false}
use Rattle.std.proofs.lemmas.Result.{IfErr-weaker}
use Rattle.core_steps.specs.Cores.{next_at}
use Rattle.task_core.specs.declared.telling.Status.{Status}
use Rattle.run_loop.specs.Runs.{IsStanding, Runs}
use Rattle.run_loop.specs.Stops.{WhyStopped}
use Rattle.run_loop.proofs.Ending.{at_end}
use Rattle.run_loop.proofs.Running.{runs_on}
use Rattle.run_loop.proofs.Standing.{nothing, why_from}
use Rattle.run_loop.proofs.turns.turn.Goals as goal
use Rattle.run_loop.proofs.turns.turn.Goals.{else-not-asked-via-then-not-asked+in_ok-deliver+else-branch, else-not-asked-via-else-not-asked}

pub returns-in_err-deliver-clause-runs : goal.returns-in_err-deliver-clause-runs
returns-in_err-deliver-clause-runs g c =
    let disk = g.D.Disk in
    let law = (g.met.D.Disk g.world.𝓛 g.world.𝓜 g.world.𝓡 ((λ s x. x), (λ x. x), (λ x. x), λ x. x)) in
    let mid = c.settle.new.unit in
    runs_on g.J.Job.meaning disk.tells disk.reads disk.call_number disk.images disk.images_since disk.name disk.fault_count (λ d i told left. law.only_now d i told left) (λ d k i told le now. law.counts_now d k i told le now) c.args.unit.now mid c.deliver.new.unit c.settle.ensures.runs c.deliver.ensures.runs

pub returns-then-branch-clause-runs : goal.returns-then-branch-clause-runs
returns-then-branch-clause-runs g c =
    let disk = g.D.Disk in
    let law = (g.met.D.Disk g.world.𝓛 g.world.𝓜 g.world.𝓡 ((λ s x. x), (λ x. x), (λ x. x), λ x. x)) in
    let mid = c.settle.new.unit in
    runs_on g.J.Job.meaning disk.tells disk.reads disk.call_number disk.images disk.images_since disk.name disk.fault_count (λ d i told left. law.only_now d i told left) (λ d k i told le now. law.counts_now d k i told le now) c.args.unit.now mid c.deliver.new.unit c.settle.ensures.runs c.deliver.ensures.runs

pub returns-then-status-gt0-clause-runs : goal.returns-then-status-gt0-clause-runs
returns-then-status-gt0-clause-runs g c =
    let disk = g.D.Disk in
    let law = (g.met.D.Disk g.world.𝓛 g.world.𝓜 g.world.𝓡 ((λ s x. x), (λ x. x), (λ x. x), λ x. x)) in
    let mid = c.settle.new.unit in
    let same : c.else-not-asked.unit ≡ mid = elim c.else-not-asked.branch [
      | else-not-asked-via-then-not-asked+in_ok-deliver+else-branch w ↦ w.unit-is ∙ (w.in_ok-deliver.ensures.refused w.if-branch.false).0
      | else-not-asked-via-else-not-asked w ↦ w.unit-is
    ] in
    runs_on g.J.Job.meaning disk.tells disk.reads disk.call_number disk.images disk.images_since disk.name disk.fault_count (λ d i told left. law.only_now d i told left) (λ d k i told le now. law.counts_now d k i told le now) c.args.unit.now mid c.act.new.unit c.settle.ensures.runs
    (subst (λ u. Runs g.J.Job.meaning disk.tells disk.reads disk.call_number disk.images disk.images_since disk.name disk.fault_count u c.act.new.unit) same c.act.ensures.runs)

pub returns-then-status-gt0-clause-stop : goal.returns-then-status-gt0-clause-stop
returns-then-status-gt0-clause-stop g c =
    let disk = g.D.Disk in
    let mid = c.settle.new.unit in
    let same : c.else-not-asked.unit ≡ mid = elim c.else-not-asked.branch [
      | else-not-asked-via-then-not-asked+in_ok-deliver+else-branch w ↦ w.unit-is ∙ (w.in_ok-deliver.ensures.refused w.if-branch.false).0
      | else-not-asked-via-else-not-asked w ↦ w.unit-is
    ] in
    IfErr-weaker c.act.result _ _
    (λ stop why. why_from disk.tells disk.reads disk.fault_count c.args.unit.now mid c.act.new.unit c.settle.ensures.runs.later stop
    (subst (λ u. WhyStopped disk.tells disk.reads disk.fault_count u c.act.new.unit stop) same why.1))
    c.act.ensures.stop

pub finish-requires-clause-ended : goal.finish-requires-clause-ended
finish-requires-clause-ended g c κs within nobody =
    let disk = g.D.Disk in
    let mid = c.settle.new.unit in
    let same : c.else-not-asked.unit ≡ mid = elim c.else-not-asked.branch [
      | else-not-asked-via-then-not-asked+in_ok-deliver+else-branch w ↦ w.unit-is ∙ (w.in_ok-deliver.ensures.refused w.if-branch.false).0
      | else-not-asked-via-else-not-asked w ↦ w.unit-is
    ] in
    let told = c.status-status.ensures in
    let idle : mid.core.callbacks.flights ≡ [] = nothing mid.core.callbacks.flights (subst (λ (n : ℕ). n ≤ 0) (ap (λ (s : Status). s.in_flight) told.status) c.if-status-gt0.false) in
    let going = c.in_ok-settle.ensures.going in
    let settled = c.in_ok-settle.ensures.settled idle in
    let st : IsStanding g.J.Job.meaning disk.tells disk.reads disk.call_number disk.images disk.images_since mid =
    record { core = told.core; set_up = told.set_up; outside = told.stands.0; history = told.stands.1; stands = told.stands.2 } in
    subst (λ u. next_at u.core 0 ≡ slice_index_or u.core.ends 0 0) (sym same)
    (elim c.else-not-asked.branch [
      | else-not-asked-via-then-not-asked+in_ok-deliver+else-branch w ↦
          at_end g.J.Job.meaning disk.tells disk.reads disk.call_number disk.images disk.images_since mid st going idle settled (w.in_ok-deliver.ensures.refused w.if-branch.false).1
      | else-not-asked-via-else-not-asked w ↦ absurd (true≢false (sym w.if-not-asked.false ∙ nobody))
    ])

pub returns-clause-runs : goal.returns-clause-runs
returns-clause-runs g c =
    let disk = g.D.Disk in
    let law = (g.met.D.Disk g.world.𝓛 g.world.𝓜 g.world.𝓡 ((λ s x. x), (λ x. x), (λ x. x), λ x. x)) in
    let mid = c.settle.new.unit in
    let same : c.else-not-asked.unit ≡ mid = elim c.else-not-asked.branch [
      | else-not-asked-via-then-not-asked+in_ok-deliver+else-branch w ↦ w.unit-is ∙ (w.in_ok-deliver.ensures.refused w.if-branch.false).0
      | else-not-asked-via-else-not-asked w ↦ w.unit-is
    ] in
    runs_on g.J.Job.meaning disk.tells disk.reads disk.call_number disk.images disk.images_since disk.name disk.fault_count (λ d i told left. law.only_now d i told left) (λ d k i told le now. law.counts_now d k i told le now) c.args.unit.now mid c.finish.new.unit c.settle.ensures.runs
    (subst (λ u. Runs g.J.Job.meaning disk.tells disk.reads disk.call_number disk.images disk.images_since disk.name disk.fault_count u c.finish.new.unit) same c.finish.ensures.runs)
