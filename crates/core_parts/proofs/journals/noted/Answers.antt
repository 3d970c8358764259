use Rattle.std.proofs.Common.{◌++◌, ◌∙◌, ap}
use Rattle.core_steps.specs.Lanes.{lane_at}
use Rattle.core_parts.specs.Noting.{listed, noted_in}
use Rattle.core_parts.proofs.Noted.{none_noted, next_noted, noted_same}
use Rattle.core_parts.proofs.journals.noted.Goals as goal

pub loop-i-init : goal.loop-i-init
loop-i-init c = none_noted (λ p. (lane_at c.args.lanes.now p).low) c.new-numbers.result.items c.new-numbers.ensures.items

pub loop-i-preserved : goal.loop-i-preserved
loop-i-preserved c =
    let e = c.delivered.ensures.0 in
    next_noted (λ p. (lane_at c.args.lanes.now p).low) c.args.events.now c.loop-i.i e c.loop-i.numbers.items c.note.new.numbers.items c.delivered.ensures.1
    (c.in_ok-note.ensures ∙ ap (λ o. c.loop-i.numbers.items ++ listed o) (ap (noted_in (λ p. (lane_at c.args.lanes.now p).low)) c.delivered.ensures.2 ∙ noted_same (λ p. (lane_at c.args.lanes.now p).low) e)) c.loop-i.invariant
