use Rattle.samza_container.proofs.Spelling.{if_runnable, if_set_up, if_windowless}
use Rattle.samza_container.proofs.setups.setup_of.Goals as goal

pub returns-clause-set_up : goal.returns-clause-set_up
returns-clause-set_up c = if_set_up c.task_setup.result c.args.config.now c.requires.bounded c.requires.built c.task_setup.ensures

pub returns-clause-runnable : goal.returns-clause-runnable
returns-clause-runnable c = if_runnable c.task_setup.result c.args.config.now c.requires.bounded c.requires.built c.task_setup.ensures

pub returns-clause-windowless : goal.returns-clause-windowless
returns-clause-windowless c = if_windowless c.task_setup.result c.args.config.now c.requires.bounded c.requires.built c.task_setup.ensures
