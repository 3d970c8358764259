use Rattle.std.proofs.Common.{◌≡◌, ◌-◌}
use Rattle.checkpoint_log.specs.Reading.{list_at, input_at}
use Rattle.checkpoint_log.proofs.Loop.{with_front}
use Rattle.checkpoint_log.proofs.decoding.inputs_of.Given as goal

abbrev pub invariant-loop : goal.invariant-loop
invariant-loop l = with_front l.items.items (list_at input_at (l.count - l.counter) l.rest) ≡ list_at input_at l.count l.bytes
