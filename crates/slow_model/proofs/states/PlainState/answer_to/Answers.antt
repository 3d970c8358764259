use Rattle.std.proofs.Common.{◌≡◌, IfOk, sym, subst}
use Rattle.samza_model.specs.declared.acts.Act.{Act}
use Rattle.samza_model.specs.Content.{answer_of}
use Rattle.slow_model.proofs.Acts.{noted}
use Rattle.slow_model.proofs.states.PlainState.answer_to.Goals as goal

pub returns-in-Get : goal.returns-in-Get
unfolding answer_of
returns-in-Get c = subst (λ (act : Act). IfOk c.found_at.result (λ answer. answer ≡ answer_of c.args.self.now act)) (sym c.in-Get.is) c.found_at.ensures

pub returns-in-Next : goal.returns-in-Next
unfolding answer_of
returns-in-Next c = subst (λ (act : Act). IfOk c.next_at.result (λ answer. answer ≡ answer_of c.args.self.now act)) (sym c.in-Next.is) c.next_at.ensures

pub returns-in_default : goal.returns-in_default
returns-in_default c = noted c.args.self.now c.args.act.now c.in_default.not-Get c.in_default.not-Next
