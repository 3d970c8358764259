use Rattle.std.proofs.Common.{◌≡◌, drop}
use Rattle.config_values.specs.Values.{same}
use Rattle.config_values.proofs.values.is_same.Given as goal

abbrev pub invariant-loop-i : goal.invariant-loop-i
invariant-loop-i l = same (drop l.i l.text) (drop l.i l.bytes) ≡ same l.text l.bytes
