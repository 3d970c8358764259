use Rattle.std.proofs.Common.{◌++◌, ◌∷◌, [], get_or, sym, ◌∙◌, ap}
use Rattle.std.proofs.lemmas.List.{take_all, take_more}
use Rattle.config_values.proofs.names.bytes_of.Goals as goal

pub loop-unit-preserved : goal.loop-unit-preserved
loop-unit-preserved c =
    c.in_ok-push.ensures.items
    ∙ ap (λ bytes. bytes ++ get_or c.args.text.now c.loop-unit.unit-index 0 ∷ []) c.loop-unit.invariant
    ∙ sym (take_more c.args.text.now c.loop-unit.unit-index 0 c.loop-unit-test.true)

pub returns : goal.returns
returns c = c.from_vec.ensures ∙ c.loop-unit.invariant ∙ take_all c.loop-unit.unit-index c.args.text.now c.loop-unit-test.false
