use Rattle.std.proofs.Common.{◌≡◌, Ok, arith, ap, sym, ◌∙◌}
use Rattle.std.specs.Vec.Iter.{into_iter_items}
use Rattle.job_config.specs.Streams.{stream_row}
use Rattle.job_config.proofs.Each.{rows_begin, rows_go_on, rows_fail, rows_end}
use Rattle.job_config.proofs.streams.stream_row_of_each.Goals as goal

pub loop-stream-init : goal.loop-stream-init
loop-stream-init c =
    let given : into_iter_items c.into_iter-stream-iterator.result ≡ c.into_vec-stream-items.result.items = c.into_iter-stream-iterator.ensures.into_iter_gives.0 in
    rows_begin _ _ _ (stream_row c.args.pairs.now c.args.setting) c.args.asked.now.items c.new-made.ensures.items (given ∙ c.into_vec-stream-items.ensures)

pub loop-stream-preserved : goal.loop-stream-preserved
loop-stream-preserved c = rows_go_on _ _ c.in-Some.stream _ _ (stream_row c.args.pairs.now c.args.setting) c.in-Ok.stream c.loop-stream.asked.items c.stream_row.new.asked.items _ c.in-Some.ensures.steps.0 c.in-Ok.ensures c.in_ok-push-in-Ok.ensures.items c.loop-stream.invariant

pub returns-in-Err : goal.returns-in-Err
returns-in-Err c = rows_fail c.loop-stream.made.items c.in-Some.stream _ _ (stream_row c.args.pairs.now c.args.setting) c.in-Err.fault c.loop-stream.asked.items _ c.in-Some.ensures.steps.0 c.in-Err.ensures c.loop-stream.invariant

pub returns : goal.returns
returns c = rows_end c.loop-stream.made.items (into_iter_items c.loop-stream.stream-iterator) (stream_row c.args.pairs.now c.args.setting) c.loop-stream.asked.items _ (omega (arith, c.in-None.ensures.steps.0, c.loop-stream.stream-iterator.rest.ok.0)) c.loop-stream.invariant
    ∙ ap (λ streams. Ok (streams, c.loop-stream.asked.items)) (sym c.from_vec.ensures)
