use Rattle.std.proofs.Common.{arith, sym}
use Rattle.props_text.proofs.View.{nth_some, nth_none}
use Rattle.props_text.proofs.pairs.Pairs.nth.Goals as goal

pub returns-then-place-len : goal.returns-then-place-len
returns-then-place-len c =
    let found = nth_some c.self.inside.pairs.items c.args.self.now c.args.place c.index-pair.result.now c.self.invariant c.self.view_is (omega (arith, c.self.inside.pairs.ok.0, c.len.ensures)) c.index-pair.ensures in
    rw (c.as_slice.ensures.value, c.as_slice-then-place-len.ensures.value) (sym found)

pub returns-else-place-len : goal.returns-else-place-len
returns-else-place-len c = sym (nth_none c.self.inside.pairs.items c.args.self.now c.args.place c.self.invariant c.self.view_is (omega (arith, c.self.inside.pairs.ok.0, c.len.ensures)))
