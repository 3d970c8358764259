use Rattle.std.proofs.Common.{◌≡◌, Ok, arith, ap, sym, ◌∙◌}
use Rattle.std.specs.Vec.Iter.{into_iter_items}
use Rattle.job_config.specs.Stores.{store_row}
use Rattle.job_config.proofs.Each.{rows_begin, rows_go_on, rows_fail, rows_end}
use Rattle.job_config.proofs.stores.store_row_of_each.Goals as goal

pub loop-store-init : goal.loop-store-init
loop-store-init c =
    let given : into_iter_items c.into_iter-store-iterator.result ≡ c.into_vec-store-items.result.items = c.into_iter-store-iterator.ensures.into_iter_gives.0 in
    rows_begin _ _ _ (store_row c.args.pairs.now c.args.setting) c.args.asked.now.items c.new-made.ensures.items (given ∙ c.into_vec-store-items.ensures)

pub loop-store-preserved : goal.loop-store-preserved
loop-store-preserved c = rows_go_on _ _ c.in-Some.store _ _ (store_row c.args.pairs.now c.args.setting) c.in-Ok.store c.loop-store.asked.items c.store_row.new.asked.items _ c.in-Some.ensures.steps.0 c.in-Ok.ensures c.in_ok-push-in-Ok.ensures.items c.loop-store.invariant

pub returns-in-Err : goal.returns-in-Err
returns-in-Err c = rows_fail c.loop-store.made.items c.in-Some.store _ _ (store_row c.args.pairs.now c.args.setting) c.in-Err.fault c.loop-store.asked.items _ c.in-Some.ensures.steps.0 c.in-Err.ensures c.loop-store.invariant

pub returns : goal.returns
returns c = rows_end c.loop-store.made.items (into_iter_items c.loop-store.store-iterator) (store_row c.args.pairs.now c.args.setting) c.loop-store.asked.items _ (omega (arith, c.in-None.ensures.steps.0, c.loop-store.store-iterator.rest.ok.0)) c.loop-store.invariant
    ∙ ap (λ stores. Ok (stores, c.loop-store.asked.items)) (sym c.from_vec.ensures)
