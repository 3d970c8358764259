use Rattle.std.proofs.Common.{T, refl, sym, subst, ◌∙◌}
use Rattle.props_text.specs.Sorted.{rises}
use Rattle.props_text.proofs.View.{entries-view}
use Rattle.props_text.proofs.pairs.Pairs.from_tree.Goals as goal

pub returns : goal.returns
returns c = entries-view c.in_ok-pairs.pairs.items _ (subst (λ l. T (rises l)) (sym c.in_ok-pairs.ensures) c.requires) refl ∙ c.in_ok-pairs.ensures
