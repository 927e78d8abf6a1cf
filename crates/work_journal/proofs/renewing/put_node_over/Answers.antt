use Rattle.work_journal.proofs.JobErrLaws.{ok_by}
use Rattle.work_journal.proofs.FinishLaws.{came_done, came_stopped, stopped_mild}
use Rattle.work_journal.proofs.renewing.put_node_over.Goals as goal

pub returns-in-Ok-clause-came : goal.returns-in-Ok-clause-came
returns-in-Ok-clause-came g c = came_done _ _ _ _ _ _ _ (ok_by _ _ c.in-Ok.is) c.put_over.ensures.came

pub returns-in-Err-clause-mild : goal.returns-in-Err-clause-mild
returns-in-Err-clause-mild g c = stopped_mild c.in-Err.e _ c.stopped.ensures.value

pub returns-in-Err-clause-came : goal.returns-in-Err-clause-came
returns-in-Err-clause-came g c = came_stopped _ _ _ _ _ _ _ c.in-Err.e _ c.in-Err.is c.stopped.ensures.value c.put_over.ensures.came
