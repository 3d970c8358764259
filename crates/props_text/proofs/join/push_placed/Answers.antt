use Rattle.std.proofs.Common.{◌++◌, ◌∷◌, [], get_or, take, append_assoc, sym, ◌∙◌, ap}
use Rattle.std.proofs.lemmas.List.{map-append, take_all, take_more}
use Rattle.props_text.specs.Logical.{placed}
use Rattle.props_text.proofs.join.push_placed.Goals as goal

pub loop-unit-preserved : goal.loop-unit-preserved
loop-unit-preserved c =
    let n = c.args.number in
    let line = c.args.line.now in
    let i = c.loop-unit.unit-index in
    let begun = c.args.begun.items in
    let pushed = placed n (get_or line i 0 ∷ []) in
    c.in_ok-push.ensures.items ∙ ap (λ units. units ++ pushed) c.loop-unit.invariant ∙ append_assoc begun (placed n (take i line)) pushed
    ∙ ap (λ more. begun ++ more) (sym (ap (placed n) (take_more line i 0 c.loop-unit-test.true) ∙ map-append _ (take i line) (get_or line i 0 ∷ [])))

pub returns : goal.returns
returns c = c.loop-unit.invariant ∙ ap (λ line. c.args.begun.items ++ placed c.args.number line) (take_all c.loop-unit.unit-index c.args.line.now c.loop-unit-test.false)
