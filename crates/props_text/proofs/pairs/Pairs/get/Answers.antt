use Rattle.std.proofs.Common.{sym, ◌∙◌}
use Rattle.props_text.proofs.View.{get-view}
use Rattle.props_text.proofs.pairs.Pairs.get.Goals as goal

pub returns : goal.returns
returns c = c.find_value.ensures ∙ rw c.as_slice.ensures.value (sym (get-view c.self.inside.pairs.items c.args.self.now c.args.key.now c.self.invariant c.self.view_is))
