use Rattle.std.proofs.Common.{◌∙◌, ℕ, List, map, ap, sym}
use Rattle.std.specs.String.{string_bytes}
use Rattle.work_journal.specs.Work.{has_path}
use Rattle.work_journal.specs.Opening.{Opens, opens_memory, opens_empty, opens_plan, opens_finished}
use Rattle.work_journal.proofs.OpeningLaws.{memory_row, looked_memory, looked_none}
use Rattle.work_journal.proofs.opening.open_work.Goals as goal

pub returns-in_err-finished-clause-opens : goal.returns-in_err-finished-clause-opens
returns-in_err-finished-clause-opens g c = memory_row (Opens c.args.work.now (map string_bytes c.args.present.now) c.args.key.now (g.T.Tree.seen c.args.tree.now)) _ c.from_residual.ensures.1 opens_memory

pub returns-in_err-finished-clause-looked : goal.returns-in_err-finished-clause-looked
returns-in_err-finished-clause-looked g c = looked_memory _ _ c.from_residual.ensures.1

pub returns-then-is_among-clause-opens : goal.returns-then-is_among-clause-opens
returns-then-is_among-clause-opens g c = opens_finished
    (ap (λ (q : List ℕ). has_path (map string_bytes c.args.present.now) q) (sym (c.as_str.ensures.value ∙ c.in_ok-finished.ensures.path)) ∙ sym c.is_among.ensures.value ∙ c.if-is_among.true)
    c.open_finished.ensures.kept

pub returns-in_err-plan-clause-opens : goal.returns-in_err-plan-clause-opens
returns-in_err-plan-clause-opens g c = memory_row (Opens c.args.work.now (map string_bytes c.args.present.now) c.args.key.now (g.T.Tree.seen c.args.tree.now)) _ c.from_residual-in_err-plan.ensures.1 opens_memory

pub returns-in_err-plan-clause-looked : goal.returns-in_err-plan-clause-looked
returns-in_err-plan-clause-looked g c = looked_memory _ _ c.from_residual-in_err-plan.ensures.1

pub returns-then-is_among-2-clause-opens : goal.returns-then-is_among-2-clause-opens
returns-then-is_among-2-clause-opens g c = opens_plan
    (ap (λ (q : List ℕ). has_path (map string_bytes c.args.present.now) q) (sym (c.as_str.ensures.value ∙ c.in_ok-finished.ensures.path)) ∙ sym c.is_among.ensures.value ∙ c.if-is_among.false)
    (ap (λ (q : List ℕ). has_path (map string_bytes c.args.present.now) q) (sym (c.as_str-2.ensures.value ∙ c.in_ok-plan.ensures.path)) ∙ sym c.is_among-2.ensures.value ∙ c.if-is_among-2.true)
    c.open_plan.ensures.kept

pub returns-clause-opens : goal.returns-clause-opens
returns-clause-opens g c = opens_empty
    (ap (λ (q : List ℕ). has_path (map string_bytes c.args.present.now) q) (sym (c.as_str.ensures.value ∙ c.in_ok-finished.ensures.path)) ∙ sym c.is_among.ensures.value ∙ c.if-is_among.false)
    (ap (λ (q : List ℕ). has_path (map string_bytes c.args.present.now) q) (sym (c.as_str-2.ensures.value ∙ c.in_ok-plan.ensures.path)) ∙ sym c.is_among-2.ensures.value ∙ c.if-is_among-2.false)

pub returns-clause-looked : goal.returns-clause-looked
returns-clause-looked g c = looked_none _ _ (λ h. cc)
