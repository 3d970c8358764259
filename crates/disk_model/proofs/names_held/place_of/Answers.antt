use Rattle.std.proofs.Common.{◌≡◌, ◌≢◌, ◌∙◌, ◌<◌, length, true, false, arith, below_more}
use Rattle.std.proofs.lemmas.Bool.{both_ways}
use Rattle.disk_model.proofs.ByName.{first_is, named_read, not_same, not_there, then_same}
use Rattle.disk_model.proofs.ByName.{named_at}
use Rattle.disk_model.proofs.names_held.place_of.Goals as goal

pub returns-then-same : goal.returns-then-same
returns-then-same g c =
    let slots = c.args.slots.now in
    let n = c.args.name.now in
    let x = c.index-slots-i.result in
    let lt : c.loop-i.i < length slots = omega arith in
    let named : named_at slots n c.loop-i.i ≡ true =
    named_read n slots c.loop-i.i x lt c.index-slots-i.is ∙ then_same x.name n (c.same.ensures.0 c.if-same.true) in
    first_is n slots c.loop-i.i lt c.loop-i.invariant named

pub loop-i-preserved : goal.loop-i-preserved
loop-i-preserved g c =
    let slots = c.args.slots.now in
    let n = c.args.name.now in
    let x = c.index-slots-i.result in
    let lt : c.loop-i.i < length slots = omega arith in
    let ne : x.name ≢ n = λ q. both_ways c.same.result c.if-same.false (c.same.ensures.1 q) in
    let named : named_at slots n c.loop-i.i ≡ false =
    named_read n slots c.loop-i.i x lt c.index-slots-i.is ∙ not_same x.name n ne in
    below_more _ _ c.loop-i.invariant named

pub returns : goal.returns
returns g c = not_there c.args.name.now c.args.slots.now (λ k lt. c.loop-i.invariant k (omega arith))
