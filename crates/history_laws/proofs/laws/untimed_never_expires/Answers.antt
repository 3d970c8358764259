use Rattle.history_laws.proofs.Expiring.{never_expires}
use Rattle.history_laws.proofs.laws.untimed_never_expires.Goals as goal

pub returns : goal.returns
returns c = never_expires
