use Rattle.std.proofs.Common.{ap, sym, ◌∙◌, subst}
use Rattle.std.specs.List.{AllByRecursion}
use Rattle.std.proofs.lemmas.Result.{IfOk-weaker}
use Rattle.samza_model.specs.Content.{replayed}
use Rattle.samza_model.specs.Limits.{IsWithinLimits}
use Rattle.kv_store.specs.Tracked.{unlogged_records}
use Rattle.kv_store.proofs.Tracking.{unlogged_within, replayed-unlogged}
use Rattle.kv_store.proofs.tracked.TrackedTable.unlogged.Goals as goal

pub returns-clause-replay : goal.returns-clause-replay
returns-clause-replay c = IfOk-weaker c.records.result _ _
    (λ records e logged h. ap (replayed logged) (e ∙ ap unlogged_records c.self.view_is) ∙ replayed-unlogged c.args.self.now logged h) c.records.ensures

pub returns-clause-limits : goal.returns-clause-limits
returns-clause-limits c = IfOk-weaker c.records.result _ _
    (λ records e. subst (AllByRecursion IsWithinLimits) (sym e) (unlogged_within _ _ c.self.invariant)) c.records.ensures
