use Rattle.journal_core.proofs.Stops.{every_stop_law, every_settled_whole, every_run_shows}
use Rattle.journal_core.proofs.law.every_stop.Goals as goal

pub returns-clause-leaves_a_shape : goal.returns-clause-leaves_a_shape
returns-clause-leaves_a_shape c = every_stop_law

pub returns-clause-shows_the_core : goal.returns-clause-shows_the_core
returns-clause-shows_the_core c = every_run_shows

pub returns-clause-leaves_settled_whole : goal.returns-clause-leaves_settled_whole
returns-clause-leaves_settled_whole c = every_settled_whole
