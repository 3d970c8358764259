use Rattle.std.proofs.Common.{ap, sym, ◌∙◌, not}
use Rattle.kv_store.specs.Tracked.{is_in, with_key}
use Rattle.kv_store.proofs.KeySets.{set_of-with_key, is_in-set_of}
use Rattle.kv_store.proofs.keys.KeySet.add.Goals as goal

pub returns-clause-ok : goal.returns-clause-ok
returns-clause-ok c = set_of-with_key _ _ c.args.key c.in_ok-insert.ensures.updates.0 ∙ ap (λ d. with_key d c.args.key) c.self.view_is

pub returns-clause-fresh : goal.returns-clause-fresh
returns-clause-fresh c = c.in_ok-insert.ensures.added ∙ ap not (sym (is_in-set_of _ c.args.key) ∙ ap (λ d. is_in d c.args.key) c.self.view_is)
