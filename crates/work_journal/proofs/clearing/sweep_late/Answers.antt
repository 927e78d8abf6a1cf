use Rattle.std.proofs.Common.{◌∙◌, ℕ, List, sym, ap}
use Rattle.file_tree.specs.declared.node.TreeErr.TheVariants.{Failed}
use Rattle.journal_core.specs.Cores.{core_of}
use Rattle.work_journal.specs.Work.{has_path}
use Rattle.work_journal.specs.Clearing.{is_other}
use Rattle.work_journal.specs.Keeps.{late}
use Rattle.work_journal.proofs.GoesLaws.{came_still, came_sweeps}
use Rattle.work_journal.proofs.SweepLaws.{sweeps_in}
use Rattle.work_journal.proofs.FinishLaws.{end_apart}
use Rattle.work_journal.proofs.ClearLaws.{gone_kept, not_below, is_end, gone_swept}
use Rattle.work_journal.proofs.clearing.sweep_late.Goals as goal

pub returns-then-not-lies_below-clause-came : goal.returns-then-not-lies_below-clause-came
returns-then-not-lies_below-clause-came g c = came_still Failed _ _ _ _ _ (λ h. cc)

pub returns-then-is_among-clause-came : goal.returns-then-is_among-clause-came
returns-then-is_among-clause-came g c = came_still Failed _ _ _ _ _ (λ h. cc)

pub sweep-requires : goal.sweep-requires
sweep-requires g c = record {
  phase = sweeps_in c.args.work.now (core_of c.args.desk.now.core) c.args.path.now (late c.requires.phase (sym (c.lies_below.ensures _ c.requires.below) ∙ c.if-not-lies_below.false)
      (end_apart c.args.work.now c.args.path.now (ap (λ (ps : List (List ℕ)). has_path ps c.args.path.now) (sym c.requires.ends) ∙ sym c.is_among.ensures.value ∙ c.if-is_among.false)));
}

pub returns-clause-came : goal.returns-clause-came
returns-clause-came g c = came_sweeps _ _ _ _ _ _ _ _ (late c.requires.phase (sym (c.lies_below.ensures _ c.requires.below) ∙ c.if-not-lies_below.false)
    (end_apart c.args.work.now c.args.path.now (ap (λ (ps : List (List ℕ)). has_path ps c.args.path.now) (sym c.requires.ends) ∙ sym c.is_among.ensures.value ∙ c.if-is_among.false))) c.sweep.ensures.core c.sweep.ensures.done c.sweep.ensures.failed c.sweep.ensures.cause c.sweep.ensures.tells

pub returns-then-not-lies_below-clause-gone : goal.returns-then-not-lies_below-clause-gone
returns-then-not-lies_below-clause-gone g c = gone_kept (is_other c.args.work.now) c.args.path.now _ (not_below c.args.work.now c.args.path.now (sym (c.lies_below.ensures _ c.requires.below) ∙ c.if-not-lies_below.true))

pub returns-then-is_among-clause-gone : goal.returns-then-is_among-clause-gone
returns-then-is_among-clause-gone g c = gone_kept (is_other c.args.work.now) c.args.path.now _ (is_end c.args.work.now c.args.path.now (ap (λ (ps : List (List ℕ)). has_path ps c.args.path.now) (sym c.requires.ends) ∙ sym c.is_among.ensures.value ∙ c.if-is_among.true))

pub returns-clause-gone : goal.returns-clause-gone
returns-clause-gone g c = gone_swept (is_other c.args.work.now) c.args.path.now (g.T.Tree.seen c.args.desk.now.tree.now) _ _ c.sweep.ensures.tells c.sweep.ensures.now
