use Rattle.history_laws.proofs.Placing.{failure_placed}
use Rattle.history_laws.proofs.laws.failures_have_places.Goals as goal

pub returns : goal.returns
returns c = λ k h f one lawful is call. failure_placed k one h f lawful is call
