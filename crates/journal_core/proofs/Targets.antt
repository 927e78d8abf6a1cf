-- In every shape each target is as it was at first, or whole.
use Rattle.std.proofs.Common.{◌≡◌, ◌⊎◌, ℕ, ◌<◌, inl, inr}
use Rattle.std.proofs.lemmas.Bool.{cases_lt}
use Rattle.journal_core.specs.Marks.{Mark, first, whole}
use Rattle.journal_core.specs.Shapes.{JobShape, untouched, committed, TargetsOldOrWhole, HasShape}

target_of_job : (n : ℕ) (c : Mark) (t g : ℕ → Mark) → JobShape n c t g → (k : ℕ) → k < n → (g k ≡ first) ⊎ (g k ≡ whole)
target_of_job n c t g (untouched e each) k l = inl (each k l).target_first
target_of_job n c t g (committed is_there moved small gone left) k l = elim (cases_lt k moved) [
  | inl b ↦ inr (gone k b).target_whole
  | inr b ↦ inl (left k b l).target_first
]

pub targets_law : TargetsOldOrWhole
targets_law steps m (HasShape.unplanned h) j k st = inl (h.rest.target j k st)
targets_law steps m (HasShape.underway h) j k st = target_of_job _ _ _ _ (h.jobs j st.job_in) k st.step_in
targets_law steps m (HasShape.finished h) j k st = inr (h.target j k st)
targets_law steps m (HasShape.old h) j k st = inr (h.target j k st)
