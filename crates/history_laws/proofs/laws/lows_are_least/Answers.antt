use Rattle.history_laws.proofs.Covering.{low_least, low_unique, low_idle}
use Rattle.history_laws.proofs.laws.lows_are_least.Goals as goal

pub returns-clause-least : goal.returns-clause-least
returns-clause-least c = low_least

pub returns-clause-unique : goal.returns-clause-unique
returns-clause-unique c = low_unique

pub returns-clause-idle : goal.returns-clause-idle
returns-clause-idle c = low_idle
