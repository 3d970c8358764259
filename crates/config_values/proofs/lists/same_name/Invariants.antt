use Rattle.std.proofs.Common.{◌≡◌, drop}
use Rattle.std.specs.List.{find}
use Rattle.config_values.specs.Values.{same}
use Rattle.config_values.proofs.lists.same_name.Given as goal

abbrev pub invariant-loop-name : goal.invariant-loop-name
invariant-loop-name l = find (λ n. same l.text n) (drop l.name-index l.names) ≡ find (λ n. same l.text n) l.names
