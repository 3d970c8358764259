use Rattle.std.proofs.Common.{refl, arith, ◌-◌}
use Rattle.std.proofs.lemmas.Result.{IfOk-weaker}
use Rattle.changelog.proofs.Replaying.{read_counted, read_other}
use Rattle.changelog.proofs.folds.Fold.read.Goals as goal

pub returns-then-self-eq0 : goal.returns-then-self-eq0
returns-then-self-eq0 c = λ count before h. read_other count before c.args.next c.args.self.now
    (record { table = c.args.self.now.table; left = c.args.self.now.left; touched = c.insert.new.self }) h c.if-self-eq0.true refl refl c.in_ok-insert.ensures.updates.0

pub returns : goal.returns
returns c = IfOk-weaker c.update.result _ _ (λ _ e count before h. read_counted count before c.args.next c.args.self.now
    (record { table = c.update.new.self; left = c.args.self.now.left - 1; touched = c.args.self.now.touched }) h (omega (arith, c.if-self-eq0.false)) e refl refl) c.update.ensures.ok
