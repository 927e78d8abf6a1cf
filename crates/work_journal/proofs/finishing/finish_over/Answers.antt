use Rattle.std.specs.Prelude.{IfErr}
use Rattle.work_journal.specs.Blames.{RunBlames}
use Rattle.std.proofs.Common.{rules, subst, ◌∙◌, ap}
use Rattle.file_tree.specs.Seen.{Seen}
use Rattle.journal_core.specs.Table.{CoreState}
use Rattle.work_journal.proofs.FinishLaws.{finish_whole}
use Rattle.work_journal.proofs.ClearLaws.{cleared_whole, alone_whole}
use Rattle.work_journal.proofs.finishing.finish_over.Goals as goal

pub returns-clause-ran : goal.returns-clause-ran
returns-clause-ran g c = finish_whole _ _ _ _ _ _ _ _ _ _ c.new-desk.ensures.core c.new-desk.ensures.seen (search rules) c.finish_at-ended.ensures.closed c.finish_at-ended.ensures.came

pub returns-clause-cleared : goal.returns-clause-cleared
returns-clause-cleared g c = cleared_whole _ _ _ _ (search rules) c.finish_at-ended.ensures.cleared

pub returns-clause-alone : goal.returns-clause-alone
returns-clause-alone g c = λ phase tells. alone_whole _ _ _ _ _ _ _ _ c.new-desk.ensures.seen (search rules)
    (c.finish_at-ended.ensures.alone (ap (λ (x : CoreState). x.phase) c.new-desk.ensures.core ∙ phase) (ap (λ (s : Seen). s.tells) c.new-desk.ensures.seen ∙ tells))

pub returns-clause-stays : goal.returns-clause-stays
returns-clause-stays g c = λ apart. subst (λ (s : Seen). IfErr c.finish_at-ended.result (RunBlames (g.M.Maker.view c.args.maker.now) (g.M.Maker.refuses c.args.maker.now) s)) c.new-desk.ensures.seen (c.finish_at-ended.ensures.stays apart)
