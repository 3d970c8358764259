use Rattle.std.proofs.Common.{◌≡◌, subst, arith}
use Rattle.std.specs.FinMap as map
use Rattle.samza_model.specs.declared.acts.Answer.TheVariants.{Missing}
use Rattle.samza_model.specs.Content.{State, found, store_at}
use Rattle.slow_model.proofs.Acts.{got_past}
use Rattle.slow_model.proofs.states.PlainState.found_at.Goals as goal

pub returns-then-number-len : goal.returns-then-number-len
returns-then-number-len c =
    subst (λ (s : State). Missing ≡ found (map.get (store_at s.stores c.args.store) c.args.key.now)) c.self.view_is
    (got_past c.self.inside.stores.items c.args.store c.args.key.now (omega (arith, c.self.inside.stores.ok.0)))
