use Rattle.std.proofs.Common.{rules, ◌∙◌, sym, subst, IsTrue}
use Rattle.file_tree.specs.declared.node.TreeErr.TheVariants.{Failed}
use Rattle.journal_core.specs.Cores.{core_of}
use Rattle.journal_core.specs.Table.{CoreState, state_of}
use Rattle.journal_core.specs.Calls.{is_uncommitted}
use Rattle.work_journal.specs.declared.job_err.JobErr.TheVariants as job
use Rattle.work_journal.proofs.GoesLaws.{came_then, came_given}
use Rattle.work_journal.proofs.JobErrLaws.{came_turned, came_fine, ok_by, keeps_then}
use Rattle.work_journal.proofs.FileLaws.{made_wanted, made_blames, made_of_job, made_mild, new_uncommitted}
use Rattle.work_journal.specs.Blames.{IsOfJob, is_mild}
use Rattle.work_journal.proofs.BlameLaws.{err_passed, tree_blames, tree_mild, tree_of_job, tree_stood, job_stood}
use Rattle.work_journal.specs.Views.{IsMaker}
use Rattle.work_journal.proofs.taking.take_job.Goals as goal

pub returns-in_err-bytes-clause-blame : goal.returns-in_err-bytes-clause-blame
returns-in_err-bytes-clause-blame g c = err_passed _ _ _ _ (c.in_err-bytes.was) c.from_residual.ensures.1 c.read_job.ensures.blame

pub returns-in_err-bytes-clause-mild : goal.returns-in_err-bytes-clause-mild
returns-in_err-bytes-clause-mild g c = λ w given wanted tells k. err_passed _ _ _ (λ e. IsTrue (is_mild e)) (c.in_err-bytes.was) c.from_residual.ensures.1
    (c.read_job.ensures.mild w given wanted tells k (new_uncommitted _ _ _ c.requires.may))

pub returns-in_err-nodes-clause-blame : goal.returns-in_err-nodes-clause-blame
returns-in_err-nodes-clause-blame g c = err_passed _ _ _ _ (c.in_err-nodes.was) c.from_residual-in_err-nodes.ensures.1
    (made_blames _ _ _ _ _ _ _ _ c.in_ok-bytes.ensures.found c.make_nodes.ensures.blame)

pub returns-in_err-nodes-clause-mild : goal.returns-in_err-nodes-clause-mild
returns-in_err-nodes-clause-mild g c = λ w given wanted tells k. err_passed _ _ _ (λ e. IsTrue (is_mild e)) (c.in_err-nodes.was) c.from_residual-in_err-nodes.ensures.1
    (made_mild w _ _ _ _ _ _ _ _ _ wanted c.requires.there (c.read_job.ensures.came.tells ∙ tells)
    (keeps_then job.Tree _ _ _ _ _ _ _ _ w (c.in_ok-bytes.was) given tells tt k c.read_job.ensures.came)
    (subst (λ (x : CoreState). IsTrue (is_uncommitted (state_of x c.args.job))) (sym c.read_job.ensures.core) (new_uncommitted _ _ _ c.requires.may))
    c.in_ok-bytes.ensures.found c.make_nodes.ensures.blame)

pub returns-in_err-stage_job-clause-blame : goal.returns-in_err-stage_job-clause-blame
returns-in_err-stage_job-clause-blame g c = tree_blames _ _ _ _ _ c.from_residual-in_err-stage_job.ensures.1

pub returns-in_err-stage_job-clause-mild : goal.returns-in_err-stage_job-clause-mild
returns-in_err-stage_job-clause-mild g c = λ w given wanted tells k. tree_mild _ _ c.from_residual-in_err-stage_job.ensures.1

pub returns-in_err-stage_job-clause-came : goal.returns-in_err-stage_job-clause-came
returns-in_err-stage_job-clause-came g c =
    let fits : IsMaker (g.M.Maker.view c.args.maker.now) (g.M.Maker.makes c.args.maker.now) = search rules in
    came_then job.Tree job.Tree _ _ _ _ _ _ _ _ _ _ (ok_by _ _ (c.in_ok-bytes.was))
    (came_given job.Tree _ _ _ _ _ _ _ _ (λ w given tells wanted k. tt) c.read_job.ensures.came)
    (came_turned _ _ _ _ _ _ _ _ _ _ (c.in_err-stage_job.was) c.from_residual-in_err-stage_job.ensures.1
    (came_given Failed _ _ _ _ _ _ _ _
    (λ w given tells wanted k. made_wanted w _ _ _ _ c.args.job _ _ _ fits wanted c.requires.there tells k
    (subst (λ (x : CoreState). IsTrue (is_uncommitted (state_of x c.args.job))) (sym c.read_job.ensures.core) (new_uncommitted _ _ _ c.requires.may))
    c.in_ok-bytes.ensures.found
    c.in_ok-nodes.ensures.made)
    c.stage_job.ensures.came))

pub returns-clause-came : goal.returns-clause-came
returns-clause-came g c =
    let fits : IsMaker (g.M.Maker.view c.args.maker.now) (g.M.Maker.makes c.args.maker.now) = search rules in
    came_then job.Tree job.Tree _ _ _ _ _ _ _ _ _ _ (ok_by _ _ (c.in_ok-bytes.was))
    (came_given job.Tree _ _ _ _ _ _ _ _ (λ w given tells wanted k. tt) c.read_job.ensures.came)
    (came_fine _ _ _ _ _ _ _ _ _ (c.in_ok-stage_job.was)
    (came_given Failed _ _ _ _ _ _ _ _
    (λ w given tells wanted k. made_wanted w _ _ _ _ c.args.job _ _ _ fits wanted c.requires.there tells k
    (subst (λ (x : CoreState). IsTrue (is_uncommitted (state_of x c.args.job))) (sym c.read_job.ensures.core) (new_uncommitted _ _ _ c.requires.may))
    c.in_ok-bytes.ensures.found
    c.in_ok-nodes.ensures.made)
    c.stage_job.ensures.came))

pub returns-clause-met : goal.returns-clause-met
returns-clause-met g c =
    let fits : IsMaker (g.M.Maker.view c.args.maker.now) (g.M.Maker.makes c.args.maker.now) = search rules in
    record {
      bytes = _;
      mode = c.in_ok-bytes.mode;
      stands = c.in_ok-bytes.ensures.stood;
      planned = fits.of_planned c.args.job _ c.in_ok-bytes.mode _ c.in_ok-nodes.ensures.made;
    }

pub returns-in_err-bytes-clause-of_job : goal.returns-in_err-bytes-clause-of_job
returns-in_err-bytes-clause-of_job g c = err_passed _ _ _ (IsOfJob c.args.job) (c.in_err-bytes.was) c.from_residual.ensures.1 c.read_job.ensures.of_job

pub returns-in_err-bytes-clause-stands : goal.returns-in_err-bytes-clause-stands
returns-in_err-bytes-clause-stands g c = err_passed _ _ _ _ (c.in_err-bytes.was) c.from_residual.ensures.1
    (job_stood _ _ (core_of c.args.desk.now.core) _ c.args.job _ (new_uncommitted _ _ _ c.requires.may) c.read_job.ensures.of_job c.read_job.ensures.stands)

pub returns-in_err-nodes-clause-of_job : goal.returns-in_err-nodes-clause-of_job
returns-in_err-nodes-clause-of_job g c = err_passed _ _ _ (IsOfJob c.args.job) (c.in_err-nodes.was) c.from_residual-in_err-nodes.ensures.1
    (made_of_job _ _ _ _ _ _ _ c.make_nodes.ensures.blame)

pub returns-in_err-nodes-clause-stands : goal.returns-in_err-nodes-clause-stands
returns-in_err-nodes-clause-stands g c = err_passed _ _ _ _ (c.in_err-nodes.was) c.from_residual-in_err-nodes.ensures.1
    (job_stood _ _ (core_of c.args.desk.now.core) _ c.args.job _ (new_uncommitted _ _ _ c.requires.may)
    (made_of_job _ _ _ _ _ _ _ c.make_nodes.ensures.blame)
    (made_blames _ _ _ _ _ _ _ _ c.in_ok-bytes.ensures.stood c.make_nodes.ensures.blame))

pub returns-in_err-stage_job-clause-of_job : goal.returns-in_err-stage_job-clause-of_job
returns-in_err-stage_job-clause-of_job g c = tree_of_job _ _ _ c.from_residual-in_err-stage_job.ensures.1

pub returns-in_err-stage_job-clause-stands : goal.returns-in_err-stage_job-clause-stands
returns-in_err-stage_job-clause-stands g c = tree_stood _ _ (core_of c.args.desk.now.core) _ _ _ c.from_residual-in_err-stage_job.ensures.1
