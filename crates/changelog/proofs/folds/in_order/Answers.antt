use Rattle.std.proofs.Common.{◌≡◌, rules, sym, ◌∙◌}
use Rattle.kv_store.proofs.Laws.{keys-set_of}
use Rattle.changelog.proofs.folds.in_order.Goals as goal

pub returns : goal.returns
returns c =
    let gives = c.into_iter.ensures.into_iter_gives in
    let listed : c.in_ok-collect.field-0.items ≡ c.into_iter.result = search rules in
    listed ∙ gives.0 ∙ sym (keys-set_of c.args.keys.keys gives.4)
