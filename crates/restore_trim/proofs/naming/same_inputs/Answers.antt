use Rattle.std.proofs.Common.{ap, sym, ◌∙◌, subst, arith, IsTrue}
use Rattle.samza_model.specs.Restored.{marked_place, setup_place}
use Rattle.restore_trim.proofs.Places.{same_part}
use Rattle.restore_trim.proofs.naming.same_inputs.Goals as goal

pub returns-then-not-branch : goal.returns-then-not-branch
returns-then-not-branch c = (
  λ no. cc,
  λ same.
      let part = same_part marked_place setup_place c.args.marks.now c.args.inputs.now c.loop-i.i c.index-marks-i.result c.index-inputs-i.result c.loop-i-test.true (omega arith) same in
      subst (λ b. IsTrue b) c.if-not-branch.true (c.in_ok-is_place_of.ensures.1 (ap marked_place c.index-marks-i.is ∙ part ∙ ap setup_place (sym c.index-inputs-i.is))),
)
