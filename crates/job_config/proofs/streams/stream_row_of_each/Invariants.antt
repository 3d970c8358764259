use Rattle.std.proofs.Common.{◌≡◌}
use Rattle.std.specs.Vec.Iter.{into_iter_items}
use Rattle.job_config.specs.Asking.{each}
use Rattle.job_config.proofs.Each.{with_front}
use Rattle.job_config.specs.Streams.{stream_row}
use Rattle.job_config.proofs.streams.stream_row_of_each.Given as goal

abbrev pub invariant-loop-stream : goal.invariant-loop-stream
invariant-loop-stream l =
    with_front l.made.items (each (into_iter_items l.stream-iterator) (stream_row l.pairs l.setting) l.asked.items) ≡ each l.fn.streams (stream_row l.pairs l.setting) l.fn.asked.items
