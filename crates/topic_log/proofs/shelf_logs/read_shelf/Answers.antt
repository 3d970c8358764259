use Rattle.std.proofs.Common.{ℕ, ◌≡◌, List, take, subst, ap, ◌∙◌, arith}
use Rattle.std.proofs.lemmas.List.{take_all}
use Rattle.std.proofs.lemmas.Result.{IfOk-weaker, IfErr-weaker}
use Rattle.samza_model.specs.Logs.{HasLog, HasNoLog}
use Rattle.topic_log.specs.declared.faults.LogFault.TheVariants.{Damaged}
use Rattle.topic_log.specs.Damage.{IsDamagedAt}
use Rattle.topic_log.proofs.Damaging.{damaged_no_log}
use Rattle.topic_log.proofs.shelf_logs.read_shelf.Goals as goal

pub returns-clause-log : goal.returns-clause-log
returns-clause-log g c =
    let shelf = g.S.Shelf in
    IfOk-weaker c.records_in.result (λ v. HasLog c.as_slice.result.now v.items) (λ v. shelf.tells → HasLog (shelf.bytes c.args.shelf.now) v.items)
    (λ v h told.
    let whole = c.as_slice.ensures.value ∙ c.in_default.ensures.bytes told ∙ ap (take c.in-Ok.size) (c.size.ensures.bytes told) ∙ take_all c.in-Ok.size (shelf.bytes c.args.shelf.now) (omega (arith, c.in-Ok.ensures.size told)) in
    subst (λ (b : List ℕ). HasLog b v.items) whole h) c.records_in.ensures.log

pub returns-clause-damaged : goal.returns-clause-damaged
returns-clause-damaged g c =
    let shelf = g.S.Shelf in
    IfErr-weaker c.records_in.result (λ e. (at : ℕ) → e ≡ Damaged at → IsDamagedAt c.as_slice.result.now at) (λ e. (at : ℕ) → e ≡ Damaged at → shelf.tells → IsDamagedAt (shelf.bytes c.args.shelf.now) at × HasNoLog (shelf.bytes c.args.shelf.now))
    (λ e h at is told.
    let whole = c.as_slice.ensures.value ∙ c.in_default.ensures.bytes told ∙ ap (take c.in-Ok.size) (c.size.ensures.bytes told) ∙ take_all c.in-Ok.size (shelf.bytes c.args.shelf.now) (omega (arith, c.in-Ok.ensures.size told)) in
    let d = subst (λ (b : List ℕ). IsDamagedAt b at) whole (h at is) in
    (d, damaged_no_log (shelf.bytes c.args.shelf.now) at d)) c.records_in.ensures.damaged
