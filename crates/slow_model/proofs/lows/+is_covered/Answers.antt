use Rattle.std.proofs.Common.{◌≡◌, IfOk, Bool, true, false, sym, ◌∙◌, subst}
use Rattle.samza_model.specs.Events.{is_covered}
use Rattle.slow_model.proofs.Stepped.{at_none, not_covered, covered_on}
use Rattle.slow_model.proofs.lows.+is_covered.Goals as goal

pub returns-in_default : goal.returns-in_default
returns-in_default t c =
    let word = is_covered c.args.setup.now c.args.input c.args.offset in
    sym (not_covered c.args.setup.now c.args.input c.args.offset) ∙ at_none word c.args.events.now c.in_default.ensures.cases

pub returns-then-branch : goal.returns-then-branch
returns-then-branch t c =
    covered_on c.args.setup.now c.args.input c.args.offset c.args.events.now c.in-Some.older.now c.in-Some.event.now true c.in-Some.ensures.cases.0 (sym c.if-branch.true ∙ c.in_ok-covers.ensures)

pub returns : goal.returns
returns t c =
    let on =
    covered_on c.args.setup.now c.args.input c.args.offset c.args.events.now c.in-Some.older.now c.in-Some.event.now false c.in-Some.ensures.cases.0 (sym c.if-branch.false ∙ c.in_ok-covers.ensures) in
    subst (λ (b : Bool). IfOk c.is_covered.result (λ covered. covered ≡ b)) on c.is_covered.ensures
