use Rattle.std.proofs.Common.{subst, arith, IsTrue}
use Rattle.samza_model.specs.declared.checkpoints.StoreMark.{StoreMark}
use Rattle.samza_model.specs.declared.setups.StoreSetup.{StoreSetup}
use Rattle.restore_trim.proofs.Places.{same_part}
use Rattle.restore_trim.proofs.naming.same_stores.Goals as goal

pub returns-then-not-same : goal.returns-then-not-same
returns-then-not-same c = (
  λ no. cc,
  λ same. subst (λ b. IsTrue b) c.if-not-same.true (c.same.ensures.1
      (same_part (λ (m : StoreMark). m.name) (λ (t : StoreSetup). t.name) c.args.marks.now c.args.stores.now c.loop-i.i c.index-marks-i.result c.index-stores-i.result c.loop-i-test.true (omega arith) same)),
)
