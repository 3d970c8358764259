use Rattle.std.proofs.Common.{◌≡◌, ◌++◌, drop}
use Rattle.std.specs.Prelude.{map, []}
use Rattle.slow_model.proofs.tasks.nothing_sent.Given as goal

abbrev pub invariant-loop-output : goal.invariant-loop-output
invariant-loop-output l = l.made.items ++ map (λ _. []) (drop l._output-index l.outputs) ≡ map (λ _. []) l.outputs
