use Rattle.std.proofs.Common.{◌∙◌, ◌≡◌, ap, subst, sym, is_some, true}
use Rattle.samza_model.specs.Events.{flight_of}
use Rattle.core_steps.specs.Cores.{CoreValue, IsCore, after_failure}
use Rattle.core_steps.proofs.Laws.{some_of, failure_is, failed_core, failure_adds}
use Rattle.task_core.specs.contracts.cores.Core.{the_view}
use Rattle.task_core.proofs.cores.Core.fail.Goals as goal

pub invariant_of-self-2 : goal.invariant_of-self-2
invariant_of-self-2 c =
    let u = the_view c.self.inside in
    let s = some_of (flight_of c.args.number u.callbacks.flights) (subst (λ (v : CoreValue). is_some (flight_of c.args.number v.callbacks.flights) ≡ true) (sym c.self.view_is) c.requires.flies) in
    failed_core u _ c.args.number s.0 c.args.why c.self.invariant s.1
    (failure_is u c.args.number s.0 c.args.why c.failure_at-failure.result c.earlier-self-inside.result c.ended-entry.new.callbacks c.push.new.self s.1 (c.failure_at-failure.ensures s.0 s.1) c.earlier-self-inside.ensures c.ended-entry.ensures.rest c.in_ok-push.ensures.ok)

pub returns-clause-added : goal.returns-clause-added
returns-clause-added c = λ f act flies ends.
    let u = the_view c.self.inside in
    let flies' = ap (λ (v : CoreValue). flight_of c.args.number v.callbacks.flights) c.self.view_is ∙ flies in
    let is = failure_is u c.args.number f c.args.why c.failure_at-failure.result c.earlier-self-inside.result c.ended-entry.new.callbacks c.push.new.self flies' (c.failure_at-failure.ensures f flies') c.earlier-self-inside.ensures c.ended-entry.ensures.rest c.in_ok-push.ensures.ok in
    failure_adds c.args.self.now _ c.args.number f act c.args.why (subst IsCore c.self.view_is c.self.invariant) flies ends (is ∙ ap (λ (v : CoreValue). after_failure v f c.args.why) c.self.view_is)
