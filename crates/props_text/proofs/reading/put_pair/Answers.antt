use Rattle.std.proofs.Common.{sym, ◌∙◌}
use Rattle.std.proofs.lemmas.Bool.{eqb-true}
use Rattle.std.proofs.lemmas.Result.{err_from_is_err_and}
use Rattle.props_text.proofs.Puts.{puts_none, puts_pair, puts_fails}
use Rattle.props_text.proofs.Takes.{some_line}
use Rattle.props_text.proofs.reading.put_pair.Goals as goal

pub returns-then-is_empty : goal.returns-then-is_empty
returns-then-is_empty c = puts_none c.args.line.now _ (eqb-true _ 0 (sym c.is_empty.ensures ∙ c.if-is_empty.true))

pub returns-in_err-key : goal.returns-in_err-key
returns-in_err-key c =
    let p = err_from_is_err_and c.from_residual.result c.from_residual.ensures.1 in
    rw (p.1, p.2) (λ m e ls. puts_fails _ c.args.line.now (some_line _ _ c.is_empty.ensures c.if-is_empty.false) c.in_err-key.ensures m ls)

pub returns : goal.returns
returns c =
    puts_pair c.args.line.now c.args.tree.now.entries c.insert.new.self.entries c.in_ok-key.key c.in_ok-key.value (some_line _ _ c.is_empty.ensures c.if-is_empty.false)
    c.in_ok-key.ensures c.in_ok-insert.ensures.entries
