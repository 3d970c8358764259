use Rattle.std.proofs.Common.{◌≡◌, ℕ, ◌+◌, ◌-◌, ◌*◌, ◌^◌, ◌<◌, min, take, get_or, length, List, [], refl, arith}
use Rattle.std.proofs.lemmas.List.Sums.{fold_more}
use Rattle.std.proofs.lemmas.Grind.{common_steps}
use Rattle.config_values.specs.Numbers.{decimal}
use Rattle.config_values.proofs.numbers.decimal.Goals as goal

none_yet : 0 ≡ min (decimal []) (2 ^ 64 - 1)
unfolding decimal
none_yet = refl

decimal_more : (ds : List ℕ) (i : ℕ) → i < length ds → decimal (take (i + 1) ds) ≡ 10 * decimal (take i ds) + (get_or ds i 0 - 48)
unfolding decimal
decimal_more ds i h = grind (arith, common_steps, fold_more)

pub loop-unit-init : goal.loop-unit-init
loop-unit-init c = none_yet

pub loop-unit-preserved : goal.loop-unit-preserved
loop-unit-preserved c =
    let more = decimal_more c.args.digits.now c.loop-unit.unit-index (omega arith) in
    omega arith
