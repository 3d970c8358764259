use Rattle.std.proofs.Common.{List, ℕ, arith}
use Rattle.std.proofs.lemmas.List.{length-map}
use Rattle.props_text.specs.declared.pairs.Pair.{Pair}
use Rattle.props_text.proofs.View.{len-view}
use Rattle.props_text.proofs.pairs.Pairs.len.Goals as goal

pub returns : goal.returns
returns c = omega (arith, len-view c.self.inside.pairs.items c.args.self.now c.self.invariant c.self.view_is, length-map {B = List ℕ × List ℕ} c.self.inside.pairs.items (λ (p : Pair). (p.key.items, p.value.items)), c.self.inside.pairs.ok.0, c.len.ensures)
