use Rattle.std.proofs.Common.{◌≡◌, subst, sym}
use Rattle.std.proofs.lemmas.Result.{err_from_is_err_and}
use Rattle.samza_model.specs.declared.checkpoints.Checkpoint.{Checkpoint}
use Rattle.samza_model.specs.Checkpoint.{IsWellFormed}
use Rattle.checkpoint_log.proofs.Ends.{not_read, read_is, clash, again_is}
use Rattle.checkpoint_log.proofs.decoding.decode_checkpoint.Goals as goal

pub returns-in_err-c-clause-bad : goal.returns-in_err-c-clause-bad
returns-in_err-c-clause-bad c =
    let p = err_from_is_err_and c.from_residual.result c.from_residual.ensures.1 in
    rw (p.1, p.2) (not_read c.args.r.now c.in_err-c.field-0.0 c.in_err-c.ensures)

pub returns-then-not-is_well_formed-clause-bad : goal.returns-then-not-is_well_formed-clause-bad
returns-then-not-is_well_formed-clause-bad c = λ bad k spells.
    let same : c.in_ok-c.c ≡ k = read_is c.args.r.now c.in_ok-c.c k c.in_ok-c.ensures spells in
    clash c.is_well_formed.result c.if-not-is_well_formed.true (c.is_well_formed.ensures.1 (subst (λ (x : Checkpoint). IsWellFormed x) (sym same) spells.formed))

pub returns-then-same-clause-only : goal.returns-then-same-clause-only
returns-then-same-clause-only c = λ k spells. read_is c.args.r.now c.in_ok-c.c k c.in_ok-c.ensures spells

pub returns-else-same-clause-bad : goal.returns-else-same-clause-bad
returns-else-same-clause-bad c = λ bad k spells.
    let same : c.in_ok-c.c ≡ k = read_is c.args.r.now c.in_ok-c.c k c.in_ok-c.ensures spells in
    clash c.same.result c.if-same.false (c.same.ensures.1 (again_is c.in_ok-again.again c.args.r.now c.in_ok-c.c k c.in_ok-again.ensures.spells.is same spells))
