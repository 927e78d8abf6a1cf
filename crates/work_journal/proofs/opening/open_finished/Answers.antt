use Rattle.std.proofs.Common.{◌∙◌, ℕ, List, subst}
use Rattle.std.specs.Prelude.{IfErr}
use Rattle.journal_core.specs.Names.{final}
use Rattle.work_texts.specs.declared.journal_err.WorkFile.TheVariants as file
use Rattle.work_texts.specs.BadFields.{FinishedBlames}
use Rattle.work_texts.specs.Keys.{KeyBlames}
use Rattle.work_texts.specs.Rules.{IsFinishedText}
use Rattle.work_journal.specs.Work.{work_path}
use Rattle.work_journal.specs.Opening.{TextStands, TextBlames, text_memory, FinishedKept, finished_read, finished_not_there, finished_bad, finished_other}
use Rattle.work_journal.proofs.OpeningLaws.{row_of, memory_row, looked_memory, looked_passed, fault_passed, looked_more, looked_ok, finished_fault, key_fault}
use Rattle.work_journal.proofs.opening.open_finished.Goals as goal

pub returns-in_err-path-clause-kept : goal.returns-in_err-path-clause-kept
returns-in_err-path-clause-kept g c = memory_row (FinishedKept (g.T.Tree.seen c.args.tree.now) (work_path c.args.work.now (final 3)) c.args.key.now) _ c.from_residual.ensures.1 (finished_not_there text_memory)

pub returns-in_err-path-clause-looked : goal.returns-in_err-path-clause-looked
returns-in_err-path-clause-looked g c = looked_memory _ _ c.from_residual.ensures.1

pub returns-in_err-text-clause-kept : goal.returns-in_err-text-clause-kept
returns-in_err-text-clause-kept g c = row_of (FinishedKept (g.T.Tree.seen c.args.tree.now) (work_path c.args.work.now (final 3)) c.args.key.now) c.work_text.result _ _ (TextBlames (g.T.Tree.seen c.args.tree.now) (work_path c.args.work.now (final 3)) file.Finished) (c.in_err-text.was) c.from_residual-in_err-text.ensures.1
    (subst (λ (q : List ℕ). IfErr c.work_text.result (TextBlames (g.T.Tree.seen c.args.tree.now) q file.Finished)) (c.as_str.ensures.value ∙ c.in_ok-path.ensures.path) c.work_text.ensures.blame) (λ y h. finished_not_there h)

pub returns-in_err-text-clause-looked : goal.returns-in_err-text-clause-looked
returns-in_err-text-clause-looked g c = looked_passed _ _ c.work_text.result _ (fault_passed c.work_text.result _ _ (c.in_err-text.was) c.from_residual-in_err-text.ensures.1) c.work_text.ensures.looked

pub returns-in_err-done-clause-kept : goal.returns-in_err-done-clause-kept
returns-in_err-done-clause-kept g c = row_of (FinishedKept (g.T.Tree.seen c.args.tree.now) (work_path c.args.work.now (final 3)) c.args.key.now) c.read_finished.result _ _ (FinishedBlames c.in_ok-text.text) (c.in_err-done.was) c.from_residual-in_err-done.ensures.1
    (subst (λ (b : List ℕ). IfErr c.read_finished.result (FinishedBlames b)) c.as_slice.ensures.value c.read_finished.ensures.blame) (λ y h. finished_bad c.in_ok-text.text (subst (λ (q : List ℕ). TextStands (g.T.Tree.seen c.args.tree.now) q c.in_ok-text.text) (c.as_str.ensures.value ∙ c.in_ok-path.ensures.path) c.in_ok-text.ensures.stands) h)

pub returns-in_err-done-clause-looked : goal.returns-in_err-done-clause-looked
returns-in_err-done-clause-looked g c = looked_more _ _ c.work_text.result c.read_finished.result _ _ (FinishedBlames c.as_slice.result.now) (finished_fault _) (c.in_err-done.was) c.from_residual-in_err-done.ensures.1 c.read_finished.ensures.blame c.work_text.ensures.looked

pub returns-in_err-check_key-clause-kept : goal.returns-in_err-check_key-clause-kept
returns-in_err-check_key-clause-kept g c = row_of (FinishedKept (g.T.Tree.seen c.args.tree.now) (work_path c.args.work.now (final 3)) c.args.key.now) c.check_key.result _ _ (KeyBlames c.in_ok-done.done.key c.args.key.now) (c.in_err-check_key.was) c.from_residual-in_err-check_key.ensures.1
    c.check_key.ensures.blame (λ y h. finished_other c.in_ok-text.text c.in_ok-done.done (subst (λ (q : List ℕ). TextStands (g.T.Tree.seen c.args.tree.now) q c.in_ok-text.text) (c.as_str.ensures.value ∙ c.in_ok-path.ensures.path) c.in_ok-text.ensures.stands) (subst (λ (b : List ℕ). IsFinishedText b c.in_ok-done.done) c.as_slice.ensures.value c.in_ok-done.ensures.found) h)

pub returns-in_err-check_key-clause-looked : goal.returns-in_err-check_key-clause-looked
returns-in_err-check_key-clause-looked g c = looked_more _ _ c.work_text.result c.check_key.result _ _ (KeyBlames c.in_ok-done.done.key c.args.key.now) (key_fault _ _) (c.in_err-check_key.was) c.from_residual-in_err-check_key.ensures.1 c.check_key.ensures.blame c.work_text.ensures.looked

pub returns-clause-kept : goal.returns-clause-kept
returns-clause-kept g c = finished_read c.in_ok-text.text c.in_ok-done.done (subst (λ (q : List ℕ). TextStands (g.T.Tree.seen c.args.tree.now) q c.in_ok-text.text) (c.as_str.ensures.value ∙ c.in_ok-path.ensures.path) c.in_ok-text.ensures.stands) (subst (λ (b : List ℕ). IsFinishedText b c.in_ok-done.done) c.as_slice.ensures.value c.in_ok-done.ensures.found) c.in_ok-check_key.ensures.same

pub returns-clause-looked : goal.returns-clause-looked
returns-clause-looked g c = looked_ok _ _ c.work_text.result _ c.work_text.ensures.looked
