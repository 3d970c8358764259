use Rattle.std.proofs.Common.{arith, sym, ◌∙◌}
use Rattle.props_text.proofs.Halves.{half_equal, half_less, half_greater}
use Rattle.props_text.proofs.pairs.narrow.Goals as goal

pub returns-in-Equal : goal.returns-in-Equal
returns-in-Equal c =
    half_equal c.args.key.now c.args.pairs.now _ c.index-pairs-middle.result (let some = c.requires.some in omega arith) c.index-pairs-middle.is c.requires.rises
    (rw (← c.as_slice.ensures.value) (sym c.in-Equal.ensures))
    ∙ rw c.as_slice-in-Equal.ensures.value

pub returns-in-Less : goal.returns-in-Less
returns-in-Less c =
    half_less c.args.key.now c.args.pairs.now c.split_at.result.0.now _ c.index-pairs-middle.result (let some = c.requires.some in omega arith) c.index-pairs-middle.is c.requires.rises
    (rw (← c.as_slice.ensures.value) (sym c.in-Less.ensures)) c.split_at.ensures.front

pub returns-in-Greater : goal.returns-in-Greater
returns-in-Greater c =
    half_greater c.args.key.now c.args.pairs.now c.split_at-in-Greater.result.1.now _ c.index-pairs-middle.result (let some = c.requires.some in omega arith) c.index-pairs-middle.is c.requires.rises
    (rw (← c.as_slice.ensures.value) (sym c.in-Greater.ensures)) c.split_at-in-Greater.ensures.back
