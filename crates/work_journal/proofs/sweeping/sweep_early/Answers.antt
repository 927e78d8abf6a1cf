use Rattle.std.proofs.Common.{◌∙◌, sym}
use Rattle.file_tree.specs.declared.node.TreeErr.TheVariants.{Failed}
use Rattle.work_journal.specs.Keeps.{early}
use Rattle.work_journal.proofs.GoesLaws.{came_still, came_sweeps}
use Rattle.file_tree.specs.Trees.{is_below}
use Rattle.work_journal.proofs.SweepLaws.{early_sweeps}
use Rattle.work_journal.proofs.ClearLaws.{gone_kept, gone_swept}
use Rattle.work_journal.proofs.sweeping.sweep_early.Goals as goal

pub returns-then-not-lies_below-clause-came : goal.returns-then-not-lies_below-clause-came
returns-then-not-lies_below-clause-came g c = came_still Failed _ _ _ _ _ (λ h. cc)

pub sweep-requires : goal.sweep-requires
sweep-requires g c = record { phase = early_sweeps _ c.requires.phase }

pub returns-clause-came : goal.returns-clause-came
returns-clause-came g c = came_sweeps _ _ _ _ _ _ _ _ (early c.requires.phase (sym (c.lies_below.ensures _ c.requires.below) ∙ c.if-not-lies_below.false)) c.sweep.ensures.core c.sweep.ensures.done c.sweep.ensures.failed c.sweep.ensures.cause c.sweep.ensures.tells

pub returns-then-not-lies_below-clause-gone : goal.returns-then-not-lies_below-clause-gone
returns-then-not-lies_below-clause-gone g c = gone_kept (is_below c.args.work.now) c.args.path.now _ (sym (c.lies_below.ensures _ c.requires.below) ∙ c.if-not-lies_below.true)

pub returns-clause-gone : goal.returns-clause-gone
returns-clause-gone g c = gone_swept (is_below c.args.work.now) c.args.path.now (g.T.Tree.seen c.args.desk.now.tree.now) _ _ c.sweep.ensures.tells c.sweep.ensures.now
