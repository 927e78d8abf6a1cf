-- The slice that is rewritten has the vector's bytes.
use Rattle.std.proofs.Common.{ℕ, List, subst, sym}
use Rattle.dbg_job.specs.EditedFiles.{EditedFails, IsEdited}
use Rattle.dbg_run.proofs.edit.edited_bytes.Goals as goal

pub returns-in-Ok-clause-none : goal.returns-in-Ok-clause-none
returns-in-Ok-clause-none c = λ r fails. let P : List ℕ → Type 0 = λ b. EditedFails c.args.options.now b r in c.in-Ok.ensures.none r (subst P (sym c.as_slice.ensures.value) fails)

pub returns-in-Ok-clause-only : goal.returns-in-Ok-clause-only
returns-in-Ok-clause-only c = λ o is. let P : List ℕ → Type 0 = λ b. IsEdited c.args.options.now b o in c.in-Ok.ensures.only o (subst P (sym c.as_slice.ensures.value) is)
