use Rattle.samza_container.proofs.Spelling.{runnable, set_up}
use Rattle.samza_container.proofs.laws.built_configurations_set_up.Goals as goal

pub returns-clause-set_up : goal.returns-clause-set_up
returns-clause-set_up c = set_up

pub returns-clause-runnable : goal.returns-clause-runnable
returns-clause-runnable c = runnable
