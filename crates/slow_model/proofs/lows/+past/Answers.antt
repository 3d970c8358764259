use Rattle.std.proofs.Common.{ℕ, ◌≡◌, IfOk, true, false, sym, ◌∙◌, subst}
use Rattle.samza_model.specs.Events.{is_covered}
use Rattle.slow_model.proofs.Stepped.{past_none, past_on}
use Rattle.slow_model.proofs.lows.+past.Goals as goal

pub returns-then-left-eq0 : goal.returns-then-left-eq0
returns-then-left-eq0 t c = past_none (λ o. is_covered c.args.setup.now c.args.input o c.args.events.now) c.args.at c.args.left c.if-left-eq0.true

pub returns-then-branch : goal.returns-then-branch
returns-then-branch t c =
    let covered = λ (o : ℕ). is_covered c.args.setup.now c.args.input o c.args.events.now in
    let on = past_on covered c.args.at c.args.left c.if-left-eq0.false true (sym c.if-branch.true ∙ c.in_ok-is_covered.ensures) in
    subst (λ (n : ℕ). IfOk c.past.result (λ made. made ≡ n)) on c.past.ensures

pub returns : goal.returns
returns t c =
    let covered = λ (o : ℕ). is_covered c.args.setup.now c.args.input o c.args.events.now in
    past_on covered c.args.at c.args.left c.if-left-eq0.false false (sym c.if-branch.false ∙ c.in_ok-is_covered.ensures)
