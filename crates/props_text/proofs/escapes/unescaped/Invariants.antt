use Rattle.std.proofs.Common.{◌≡◌, ◌++◌, length, Ok}
use Rattle.props_text.specs.Pairs.{◌>>=◌, unescaped}
use Rattle.props_text.proofs.escapes.unescaped.Given as goal

abbrev pub invariant-loop-units : goal.invariant-loop-units
invariant-loop-units l = (unescaped 0 l.rest >>= λ us. Ok (l.units.items ++ us)) ≡ unescaped 0 l.text

abbrev pub decreases-loop-units : goal.decreases-loop-units
decreases-loop-units l = length l.rest
