use Rattle.std.proofs.Common.{ap, sym, ◌∙◌}
use Rattle.kv_store.specs.Tracked.{without_key, unmarked}
use Rattle.kv_store.proofs.KeySets.{set_of-without_key}
use Rattle.kv_store.proofs.keys.KeySet.unmark.Goals as goal

pub returns-then-unmarks : goal.returns-then-unmarks
returns-then-unmarks c = set_of-without_key _ _ c.args.key.now c.remove.ensures.updates.0 ∙ ap (λ d. without_key d c.args.key.now) c.self.view_is
    ∙ ap (unmarked c.args.self.now c.args.key.now) (sym c.if-unmarks.true)
