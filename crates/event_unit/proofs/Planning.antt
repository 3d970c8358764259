-- A core's plan is the commit of the logs that have so many records.
use Rattle.std.proofs.Common.{ℕ, ◌≡◌, ◌<◌, ◌+◌, List, length, sym, ◌∙◌, ap, subst, arith}
use Rattle.core_steps.specs.Cores.{CoreValue, IsCore}
use Rattle.core_steps.specs.Lanes.{lane_at}
use Rattle.core_plans.specs.Plans.{PlansStores}
use Rattle.task_core.specs.declared.plans.Plan.{Plan}
use Rattle.task_core.specs.Plans.{IsPlan}
use Rattle.topic_log.specs.Opened.{count_of}
use Rattle.unit_logs.specs.declared.writing.Logs.{Logs}
use Rattle.unit_logs.specs.Planned.{PlansCommit, lens_of}
use Rattle.unit_logs.specs.Standing.{IsSetUp}
use Rattle.unit_steps.proofs.Laws.{one_start}

pub plans_commit : (u : CoreValue) (logs : Logs) (lens : List ℕ) (plan : Plan) → IsCore u → IsSetUp u.setup → lens ≡ lens_of logs.changelogs.items → u.last ≡ count_of logs.marks
    → IsPlan u lens plan → PlansCommit u.setup logs u.held (lane_at u.lanes 0).low plan.frames plan.mark
plans_commit u logs lens plan core set_up lens_are counted is = record {
  stores = subst (λ (ls : List ℕ). PlansStores u.setup ls u.held.stores plan.frames.stores plan.mark.stores) lens_are is.stores;
  sends = is.sends;
  frame = is.frame;
  named = is.named;
  id_is = is.id ∙ ap (λ n. n + 1) counted;
  next_is = is.next 0 (omega (arith, one_start u core set_up));
}
