use Rattle.std.proofs.Common.{◌∙◌, ℕ, List, subst}
use Rattle.std.specs.Prelude.{IfErr}
use Rattle.journal_core.specs.Names.{plan}
use Rattle.work_texts.specs.declared.journal_err.WorkFile.TheVariants as file
use Rattle.work_texts.specs.BadFields.{PlanBlames}
use Rattle.work_texts.specs.Keys.{KeyBlames}
use Rattle.work_texts.specs.Rules.{IsPlanText}
use Rattle.work_journal.specs.Work.{work_path}
use Rattle.work_journal.specs.Opening.{TextStands, TextBlames, text_memory, PlanKept, plan_read, plan_not_there, plan_bad, plan_other}
use Rattle.work_journal.proofs.OpeningLaws.{row_of, memory_row, looked_memory, looked_passed, fault_passed, looked_more, looked_ok, plan_fault, key_fault}
use Rattle.work_journal.proofs.opening.open_plan.Goals as goal

pub returns-in_err-path-clause-kept : goal.returns-in_err-path-clause-kept
returns-in_err-path-clause-kept g c = memory_row (PlanKept (g.T.Tree.seen c.args.tree.now) (work_path c.args.work.now plan) c.args.key.now) _ c.from_residual.ensures.1 (plan_not_there text_memory)

pub returns-in_err-path-clause-looked : goal.returns-in_err-path-clause-looked
returns-in_err-path-clause-looked g c = looked_memory _ _ c.from_residual.ensures.1

pub returns-in_err-text-clause-kept : goal.returns-in_err-text-clause-kept
returns-in_err-text-clause-kept g c = row_of (PlanKept (g.T.Tree.seen c.args.tree.now) (work_path c.args.work.now plan) c.args.key.now) c.work_text.result _ _ (TextBlames (g.T.Tree.seen c.args.tree.now) (work_path c.args.work.now plan) file.Plan) (c.in_err-text.was) c.from_residual-in_err-text.ensures.1
    (subst (λ (q : List ℕ). IfErr c.work_text.result (TextBlames (g.T.Tree.seen c.args.tree.now) q file.Plan)) (c.as_str.ensures.value ∙ c.in_ok-path.ensures.path) c.work_text.ensures.blame) (λ y h. plan_not_there h)

pub returns-in_err-text-clause-looked : goal.returns-in_err-text-clause-looked
returns-in_err-text-clause-looked g c = looked_passed _ _ c.work_text.result _ (fault_passed c.work_text.result _ _ (c.in_err-text.was) c.from_residual-in_err-text.ensures.1) c.work_text.ensures.looked

pub returns-in_err-plan-clause-kept : goal.returns-in_err-plan-clause-kept
returns-in_err-plan-clause-kept g c = row_of (PlanKept (g.T.Tree.seen c.args.tree.now) (work_path c.args.work.now plan) c.args.key.now) c.read_plan.result _ _ (PlanBlames c.in_ok-text.text) (c.in_err-plan.was) c.from_residual-in_err-plan.ensures.1
    (subst (λ (b : List ℕ). IfErr c.read_plan.result (PlanBlames b)) c.as_slice.ensures.value c.read_plan.ensures.blame) (λ y h. plan_bad c.in_ok-text.text (subst (λ (q : List ℕ). TextStands (g.T.Tree.seen c.args.tree.now) q c.in_ok-text.text) (c.as_str.ensures.value ∙ c.in_ok-path.ensures.path) c.in_ok-text.ensures.stands) h)

pub returns-in_err-plan-clause-looked : goal.returns-in_err-plan-clause-looked
returns-in_err-plan-clause-looked g c = looked_more _ _ c.work_text.result c.read_plan.result _ _ (PlanBlames c.as_slice.result.now) (plan_fault _) (c.in_err-plan.was) c.from_residual-in_err-plan.ensures.1 c.read_plan.ensures.blame c.work_text.ensures.looked

pub returns-in_err-check_key-clause-kept : goal.returns-in_err-check_key-clause-kept
returns-in_err-check_key-clause-kept g c = row_of (PlanKept (g.T.Tree.seen c.args.tree.now) (work_path c.args.work.now plan) c.args.key.now) c.check_key.result _ _ (KeyBlames c.in_ok-plan.plan.key c.args.key.now) (c.in_err-check_key.was) c.from_residual-in_err-check_key.ensures.1
    c.check_key.ensures.blame (λ y h. plan_other c.in_ok-text.text c.in_ok-plan.plan (subst (λ (q : List ℕ). TextStands (g.T.Tree.seen c.args.tree.now) q c.in_ok-text.text) (c.as_str.ensures.value ∙ c.in_ok-path.ensures.path) c.in_ok-text.ensures.stands) (subst (λ (b : List ℕ). IsPlanText b c.in_ok-plan.plan) c.as_slice.ensures.value c.in_ok-plan.ensures.found) h)

pub returns-in_err-check_key-clause-looked : goal.returns-in_err-check_key-clause-looked
returns-in_err-check_key-clause-looked g c = looked_more _ _ c.work_text.result c.check_key.result _ _ (KeyBlames c.in_ok-plan.plan.key c.args.key.now) (key_fault _ _) (c.in_err-check_key.was) c.from_residual-in_err-check_key.ensures.1 c.check_key.ensures.blame c.work_text.ensures.looked

pub returns-clause-kept : goal.returns-clause-kept
returns-clause-kept g c = plan_read c.in_ok-text.text c.in_ok-plan.plan (subst (λ (q : List ℕ). TextStands (g.T.Tree.seen c.args.tree.now) q c.in_ok-text.text) (c.as_str.ensures.value ∙ c.in_ok-path.ensures.path) c.in_ok-text.ensures.stands) (subst (λ (b : List ℕ). IsPlanText b c.in_ok-plan.plan) c.as_slice.ensures.value c.in_ok-plan.ensures.found) c.in_ok-check_key.ensures.same

pub returns-clause-looked : goal.returns-clause-looked
returns-clause-looked g c = looked_ok _ _ c.work_text.result _ c.work_text.ensures.looked
