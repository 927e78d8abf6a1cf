use Rattle.work_texts.proofs.WholeLaws.{read_only, never_bad}
use Rattle.work_texts.proofs.read.read_plan.Goals as goal

pub returns-in-Ok-clause-only : goal.returns-in-Ok-clause-only
returns-in-Ok-clause-only c = λ plan t. read_only c.in-Ok.plan plan (c.in-Ok.ensures.only plan t)

pub returns-in-Err-Field-clause-only : goal.returns-in-Err-Field-clause-only
returns-in-Err-Field-clause-only c = λ plan t. absurd (never_bad c.in-Err-Field.left plan (rw c.in-Err-Field.field-0-is at (c.in-Err-Field.ensures.only plan t)))
