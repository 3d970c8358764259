use Rattle.std.proofs.Common.{◌≡◌, ◌++◌, drop}
use Rattle.std.specs.Prelude.{map}
use Rattle.samza_model.specs.Content.{nothing_stored}
use Rattle.slow_model.proofs.tasks.empty_stores.Given as goal

abbrev pub invariant-loop-store : goal.invariant-loop-store
invariant-loop-store l = l.made.items ++ map (λ _. nothing_stored) (drop l._store-index l.stores) ≡ map (λ _. nothing_stored) l.stores
