use Rattle.std.proofs.Common.{◌≡◌, ◌-◌, ◌^◌, min, take}
use Rattle.config_values.specs.Numbers.{decimal}
use Rattle.config_values.proofs.numbers.decimal.Given as goal

abbrev pub invariant-loop-unit : goal.invariant-loop-unit
invariant-loop-unit l = l.number ≡ min (decimal (take l.unit-index l.digits)) (2 ^ 64 - 1)
