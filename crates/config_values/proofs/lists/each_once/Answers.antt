use Rattle.std.proofs.Common.{ap, length, arith}
use Rattle.std.specs.Vec.Iter.{into_iter_items}
use Rattle.config_values.proofs.Once.{once_grows}
use Rattle.config_values.proofs.lists.each_once.Goals as goal

pub returns-then-len-most : goal.returns-then-len-most
returns-then-len-most c =
    let e = ap length c.loop-name.invariant in
    let grows = once_grows c.loop-name.once.items (into_iter_items c.loop-name.name-iterator) in
    (λ h. absurd (omega (arith, c.loop-name.once.ok.0)), λ h. omega (arith, c.loop-name.once.ok.0))
