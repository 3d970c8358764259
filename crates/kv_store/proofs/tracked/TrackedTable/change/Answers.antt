use Rattle.std.proofs.Common.{ap, ◌∙◌, not}
use Rattle.kv_store.specs.Tracked.{is_in, with_key}
use Rattle.kv_store.proofs.Tracking.{undo_after_change, tracked_after_change, seen, seen-change, seen-undone, dirty-failed, is_in-marked}
use Rattle.kv_store.proofs.tracked.TrackedTable.change.Goals as goal

pub invariant_of-result : goal.invariant_of-result
invariant_of-result c = rw c.in_ok-name.ensures (undo_after_change _ _ c.args.key _ _ c.self.invariant c.in-Ok.ensures.had
    (c.in_ok-fresh.ensures.fresh ∙ ap (λ k. not (is_in c.self.inside.dirty k)) c.in_ok-marked.ensures) c.requires.key_fits)

pub invariant_of-self-in-Ok : goal.invariant_of-self-in-Ok
invariant_of-self-in-Ok c = rw (c.in-Ok.ensures.ok, c.in_ok-fresh.ensures.ok, c.in_ok-marked.ensures)
    (tracked_after_change _ _ c.args.key c.args.value c.self.invariant c.requires.key_fits c.requires.value_fits)

pub invariant_of-self-in-Err-1 : goal.invariant_of-self-in-Err-1
invariant_of-self-in-Err-1 c =
    let d = dirty-failed _ c.self.inside.dirty _ c.self.view_is c.args.key _ _ _ _ (c.in_ok-fresh.ensures.ok ∙ ap (with_key c.self.inside.dirty) c.in_ok-marked.ensures) c.unmark.ensures c.in_ok-name.ensures
    (c.in_ok-fresh.ensures.fresh ∙ ap (λ k. not (is_in c.self.inside.dirty k)) c.in_ok-marked.ensures) in
    rw (c.in-Err.ensures.err, d) c.self.invariant

pub returns-in-Ok-clause-ok : goal.returns-in-Ok-clause-ok
returns-in-Ok-clause-ok c = seen-change _ _ _ c.self.view_is c.args.key _ _ c.args.value c.in-Ok.ensures.ok (c.in_ok-fresh.ensures.ok ∙ ap (with_key c.self.inside.dirty) c.in_ok-marked.ensures)

pub returns-in-Ok-clause-can_undo : goal.returns-in-Ok-clause-can_undo
returns-in-Ok-clause-can_undo c = is_in-marked c.self.inside.dirty _ c.args.key _ _ c.in_ok-fresh.ensures.ok c.in_ok-marked.ensures c.in_ok-name.ensures

pub returns-in-Ok-clause-undoes : goal.returns-in-Ok-clause-undoes
returns-in-Ok-clause-undoes c = seen-undone _ _ _ c.self.view_is c.args.key _ _ c.args.value _ _ _ c.in-Ok.ensures.ok
    (c.in_ok-fresh.ensures.ok ∙ ap (with_key c.self.inside.dirty) c.in_ok-marked.ensures) c.in_ok-name.ensures c.in-Ok.ensures.had
    (c.in_ok-fresh.ensures.fresh ∙ ap (λ k. not (is_in c.self.inside.dirty k)) c.in_ok-marked.ensures)

pub returns-in-Err-clause-err : goal.returns-in-Err-clause-err
returns-in-Err-clause-err c =
    let d = dirty-failed _ c.self.inside.dirty _ c.self.view_is c.args.key _ _ _ _ (c.in_ok-fresh.ensures.ok ∙ ap (with_key c.self.inside.dirty) c.in_ok-marked.ensures) c.unmark.ensures c.in_ok-name.ensures
    (c.in_ok-fresh.ensures.fresh ∙ ap (λ k. not (is_in c.self.inside.dirty k)) c.in_ok-marked.ensures) in
    (λ i. seen (c.in-Err.ensures.err i) (d i)) ∙ c.self.view_is
