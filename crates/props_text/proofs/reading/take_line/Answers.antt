use Rattle.std.proofs.Common.{ap, ◌+◌}
use Rattle.props_text.specs.Steps.{lines_behind}
use Rattle.props_text.proofs.Takes.{takes_passed, takes_on, takes_whole}
use Rattle.props_text.proofs.reading.take_line.Goals as goal

pub returns-in-PassedOver : goal.returns-in-PassedOver
returns-in-PassedOver c = takes_passed c.in_ok-joined.joined _ c.args.number c.args.line.now _ c.in-PassedOver.is c.in_ok-joined.ensures

pub returns-in-GoesOn : goal.returns-in-GoesOn
returns-in-GoesOn c = takes_on c.in_ok-joined.joined _ c.args.number c.args.line.now c.in-GoesOn.line.items _ (λ ls. ap (λ j. lines_behind j (c.args.number + 1) ls) c.in-GoesOn.is) c.in_ok-joined.ensures

pub returns-in_ok-put_pair-in-Whole : goal.returns-in_ok-put_pair-in-Whole
returns-in_ok-put_pair-in-Whole c =
    takes_whole c.in_ok-joined.joined _ c.args.number c.args.line.now c.in-Whole.line.items _ _ _ (λ ls. ap (λ j. lines_behind j (c.args.number + 1) ls) c.in-Whole.is) c.in_ok-joined.ensures
    (rw c.deref.ensures.value at c.in_ok-put_pair-in-Whole.ensures)
