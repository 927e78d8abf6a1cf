use Rattle.std.proofs.Common.{◌∙◌, refl}
use Rattle.work_journal.proofs.GoesLaws.{came_reads}
use Rattle.work_journal.proofs.JobErrLaws.{came_turned, came_no_room, came_fine, came_answered}
use Rattle.work_journal.proofs.BlameLaws.{tree_blames, tree_mild, tree_of_job, memory_blames, memory_mild, memory_of_job}
use Rattle.work_journal.proofs.FileLaws.{file_met, none_stands, stood_file}
use Rattle.work_journal.specs.Blames.{no_file}
use Rattle.work_journal.proofs.taking.read_job.Goals as goal

pub returns-in_err-path-clause-blame : goal.returns-in_err-path-clause-blame
returns-in_err-path-clause-blame g c = memory_blames _ _ _ _ c.from_residual.ensures.1

pub returns-in_err-path-clause-mild : goal.returns-in_err-path-clause-mild
returns-in_err-path-clause-mild g c = λ w given wanted tells k free. memory_mild _ c.from_residual.ensures.1

pub returns-in_err-path-clause-came : goal.returns-in_err-path-clause-came
returns-in_err-path-clause-came g c = came_no_room _ _ _ _ _ c.from_residual.ensures.1

pub returns-in_err-bytes-clause-blame : goal.returns-in_err-bytes-clause-blame
returns-in_err-bytes-clause-blame g c = tree_blames _ _ _ _ _ c.from_residual-in_err-bytes.ensures.1

pub returns-in_err-bytes-clause-mild : goal.returns-in_err-bytes-clause-mild
returns-in_err-bytes-clause-mild g c = λ w given wanted tells k free. tree_mild _ _ c.from_residual-in_err-bytes.ensures.1

pub returns-in_err-bytes-clause-came : goal.returns-in_err-bytes-clause-came
returns-in_err-bytes-clause-came g c = came_turned _ _ _ _ _ _ _ _ _ _ (c.in_err-bytes.was) c.from_residual-in_err-bytes.ensures.1
    (came_reads _ _ _ _ _ _ _ _ c.read.ensures.core c.read.ensures.done c.read.ensures.failed c.read.ensures.cause c.read.ensures.tells)

pub returns-in-File-clause-came : goal.returns-in-File-clause-came
returns-in-File-clause-came g c = came_fine _ _ _ _ _ _ _ _ _ (c.in_ok-bytes.was)
    (came_reads _ _ _ _ _ _ _ _ c.read.ensures.core c.read.ensures.done c.read.ensures.failed c.read.ensures.cause c.read.ensures.tells)

pub returns : goal.returns
returns g c = record {
  same_tree = c.read.ensures.same_tree;
  core = c.read.ensures.core;
  few = tt;
  found = tt;
  stood = tt;
  blame = (c.requires.there, no_file c.planned.ensures.digest (none_stands (g.T.Tree.seen c.args.desk.now.tree.now) (g.T.Tree.seen c.read.new.self.tree.now) _ _ _ (c.as_str.ensures.value ∙ c.in_ok-path.ensures.path) c.in_ok-bytes.ensures.told c.read.ensures.now c.in_default.not-File));
  stands = (c.requires.there, no_file c.planned.ensures.digest (none_stands (g.T.Tree.seen c.args.desk.now.tree.now) (g.T.Tree.seen c.args.desk.now.tree.now) _ _ _ (c.as_str.ensures.value ∙ c.in_ok-path.ensures.path) c.in_ok-bytes.ensures.told refl c.in_default.not-File));
  of_job = refl;
  mild = λ w given wanted tells k free. absurd (file_met w _ _ _ (g.T.Tree.seen c.args.desk.now.tree.now) _ _ _ wanted c.requires.there tells k free (c.as_str.ensures.value ∙ c.in_ok-path.ensures.path) c.in_ok-bytes.ensures.told c.in_default.not-File);
  came = came_answered _ _ _ _ _ _ _ _ _ _ (c.in_ok-bytes.was) (λ e. cc)
      (came_reads _ _ _ _ _ _ _ _ c.read.ensures.core c.read.ensures.done c.read.ensures.failed c.read.ensures.cause c.read.ensures.tells);
}

pub returns-in-File-clause-stood : goal.returns-in-File-clause-stood
returns-in-File-clause-stood g c = stood_file (g.T.Tree.seen c.args.desk.now.tree.now) _ _ _ _ _ (c.as_str.ensures.value ∙ c.in_ok-path.ensures.path) c.in-File.is c.in_ok-bytes.ensures.told

pub returns-in_err-path-clause-stands : goal.returns-in_err-path-clause-stands
returns-in_err-path-clause-stands g c = memory_blames _ _ _ _ c.from_residual.ensures.1

pub returns-in_err-path-clause-of_job : goal.returns-in_err-path-clause-of_job
returns-in_err-path-clause-of_job g c = memory_of_job _ _ c.from_residual.ensures.1

pub returns-in_err-bytes-clause-stands : goal.returns-in_err-bytes-clause-stands
returns-in_err-bytes-clause-stands g c = tree_blames _ _ _ _ _ c.from_residual-in_err-bytes.ensures.1

pub returns-in_err-bytes-clause-of_job : goal.returns-in_err-bytes-clause-of_job
returns-in_err-bytes-clause-of_job g c = tree_of_job _ _ _ c.from_residual-in_err-bytes.ensures.1
