use Rattle.std.proofs.Common.{◌≡◌, OnOk, sym, subst}
use Rattle.samza_model.specs.declared.acts.Act.{Act}
use Rattle.samza_model.specs.Content.{changed}
use Rattle.slow_model.proofs.Acts.{unchanged}
use Rattle.slow_model.proofs.states.PlainState.make.Goals as goal

pub returns-in-Put : goal.returns-in-Put
unfolding changed
returns-in-Put c = subst (λ (act : Act). OnOk c.set.result (c.set.new.self ≡ changed c.args.self.now act)) (sym c.in-Put.is) c.set.ensures

pub returns-in-Delete : goal.returns-in-Delete
unfolding changed
returns-in-Delete c = subst (λ (act : Act). OnOk c.set-in-Delete.result (c.set-in-Delete.new.self ≡ changed c.args.self.now act)) (sym c.in-Delete.is) c.set-in-Delete.ensures

pub returns-in-Send : goal.returns-in-Send
unfolding changed
returns-in-Send c = subst (λ (act : Act). OnOk c.send.result (c.send.new.self ≡ changed c.args.self.now act)) (sym c.in-Send.is) c.send.ensures

pub returns : goal.returns
returns c = unchanged c.args.self.now c.args.act c.in_default.not-Put c.in_default.not-Delete c.in_default.not-Send
