use Rattle.props_text.proofs.Puts.{no_lines}
use Rattle.props_text.proofs.Takes.{puts_last}
use Rattle.props_text.proofs.reading.put_last.Goals as goal

pub returns-in-None : goal.returns-in-None
returns-in-None c = rw c.in-None.is (λ m e. (m, e, no_lines m))

pub returns-in-Some : goal.returns-in-Some
returns-in-Some c = rw c.in-Some.is (puts_last c.in-Some.line.items _ _ c.put_pair.result (rw c.deref.ensures.value at c.put_pair.ensures))
