use Rattle.std.proofs.Common.{sym, subst}
use Rattle.journal_core.specs.Cores.{core_of}
use Rattle.work_journal.specs.Views.{MakerView}
use Rattle.work_journal.specs.Blames.{OfJob}
use Rattle.work_journal.proofs.BlameLaws.{of_job, stood_blames, named_since, named_blames, named_mild, came_done, came_named}
use Rattle.work_journal.proofs.running.run_jobs.Goals as goal

pub returns-in-Ok-clause-came : goal.returns-in-Ok-clause-came
returns-in-Ok-clause-came g c = came_done _ _ _ _ _ _ _ _ c.in-Ok.is c.run_all.ensures.came

pub named-requires : goal.named-requires
named-requires g c = record { job = subst (λ (v : MakerView). OfJob v c.in-Err.e) (sym c.run_all.ensures.same_view) (of_job (g.M.Maker.view c.args.maker.now) (g.M.Maker.refuses c.args.maker.now) (g.T.Tree.seen c.run_all.new.desk.tree.now) c.run_all.result c.in-Err.e c.in-Err.is c.run_all.ensures.blame) }

pub returns-in-Err-clause-blame : goal.returns-in-Err-clause-blame
returns-in-Err-clause-blame g c = named_blames (g.M.Maker.view c.args.maker.now) (g.M.Maker.refuses c.args.maker.now) (g.T.Tree.seen c.run_all.new.desk.tree.now) c.run_all.result c.in-Err.e c.named.result c.in-Err.is
    (named_since (g.M.Maker.view c.run_all.new.maker) (g.M.Maker.view c.args.maker.now) c.in-Err.e c.named.result c.run_all.ensures.same_view c.named.ensures.value) c.run_all.ensures.blame

pub returns-in-Err-clause-mild : goal.returns-in-Err-clause-mild
returns-in-Err-clause-mild g c = λ w given wanted tells k. named_mild (g.M.Maker.view c.args.maker.now) c.run_all.result c.in-Err.e c.named.result c.in-Err.is
    (named_since (g.M.Maker.view c.run_all.new.maker) (g.M.Maker.view c.args.maker.now) c.in-Err.e c.named.result c.run_all.ensures.same_view c.named.ensures.value) (c.run_all.ensures.mild w given wanted tells k)

pub returns-in-Err-clause-came : goal.returns-in-Err-clause-came
returns-in-Err-clause-came g c = came_named (g.M.Maker.view c.args.maker.now) _ _ _ _ _ _ c.run_all.result c.in-Err.e c.named.result c.in-Err.is
    (named_since (g.M.Maker.view c.run_all.new.maker) (g.M.Maker.view c.args.maker.now) c.in-Err.e c.named.result c.run_all.ensures.same_view c.named.ensures.value) c.run_all.ensures.came

pub returns-in-Err-clause-stays : goal.returns-in-Err-clause-stays
returns-in-Err-clause-stays g c = λ apart. named_blames (g.M.Maker.view c.args.maker.now) (g.M.Maker.refuses c.args.maker.now) (g.T.Tree.seen c.args.desk.now.tree.now) c.run_all.result c.in-Err.e c.named.result c.in-Err.is
    (named_since (g.M.Maker.view c.run_all.new.maker) (g.M.Maker.view c.args.maker.now) c.in-Err.e c.named.result c.run_all.ensures.same_view c.named.ensures.value)
    (stood_blames _ _ (core_of c.args.desk.now.core) _ _ (c.run_all.ensures.stands apart))
