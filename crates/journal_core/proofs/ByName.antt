-- Reading a marking by name: a name that is marked, and the others.
use Rattle.std.proofs.Common.{◌≡◌, ◌≢◌, ℕ, refl, sym, ◌∙◌, ap, inl, inr}
use Rattle.std.proofs.lemmas.Bool.{cases_eq}
use Rattle.journal_core.specs.Names.{Name, plan_new, plan, temp, commit, fresh, final, target}
use Rattle.journal_core.specs.Marks.{Mark, Marking, mark, marked, with_step}
use Rattle.journal_core.proofs.Rows.{with_one_here, with_one_other, with_step_here, with_step_other}

-- ### Rows of two numbers

step_here : (f : ℕ → ℕ → Mark) (j k : ℕ) (x : Mark) → with_step f j k x j k ≡ x
step_here f j k x = ap (λ (r : ℕ → Mark). r k) (with_step_here f j k x) ∙ with_one_here (f j) k x

step_other : (f : ℕ → ℕ → Mark) (j k i l : ℕ) (x : Mark) → (i ≡ j → l ≢ k) → with_step f j k x i l ≡ f i l
step_other f j k i l x ne = elim (cases_eq i j) [
  | inl e ↦ ap (λ (y : ℕ). with_step f j k x y l) e ∙ ap (λ (r : ℕ → Mark). r l) (with_step_here f j k x)
      ∙ with_one_other (f j) k l x (ne e) ∙ ap (λ (y : ℕ). f y l) (sym e)
  | inr o ↦ ap (λ (r : ℕ → Mark). r l) (with_step_other f j k i x o)
]

-- ### By name

-- the name that is marked
pub mark_here : (m : Marking) (n : Name) (x : Mark) → mark (marked m n x) n ≡ x
mark_here m plan_new x = refl
mark_here m plan x = refl
mark_here m (temp j k) x = step_here m.temp j k x
mark_here m (commit j) x = with_one_here m.commit j x
mark_here m (fresh j) x = with_one_here m.fresh j x
mark_here m (final j) x = with_one_here m.final j x
mark_here m (target j k) x = step_here m.target j k x

-- any other name
pub mark_other : (m : Marking) (n o : Name) (x : Mark) → o ≢ n → mark (marked m n x) o ≡ mark m o
mark_other m plan_new plan_new x ne = absurd (ne refl)
mark_other m plan_new plan x ne = refl
mark_other m plan_new (temp i l) x ne = refl
mark_other m plan_new (commit i) x ne = refl
mark_other m plan_new (fresh i) x ne = refl
mark_other m plan_new (final i) x ne = refl
mark_other m plan_new (target i l) x ne = refl
mark_other m plan plan_new x ne = refl
mark_other m plan plan x ne = absurd (ne refl)
mark_other m plan (temp i l) x ne = refl
mark_other m plan (commit i) x ne = refl
mark_other m plan (fresh i) x ne = refl
mark_other m plan (final i) x ne = refl
mark_other m plan (target i l) x ne = refl
mark_other m (temp j k) plan_new x ne = refl
mark_other m (temp j k) plan x ne = refl
mark_other m (temp j k) (temp i l) x ne = step_other m.temp j k i l x (λ e d. ne (cc))
mark_other m (temp j k) (commit i) x ne = refl
mark_other m (temp j k) (fresh i) x ne = refl
mark_other m (temp j k) (final i) x ne = refl
mark_other m (temp j k) (target i l) x ne = refl
mark_other m (commit j) plan_new x ne = refl
mark_other m (commit j) plan x ne = refl
mark_other m (commit j) (temp i l) x ne = refl
mark_other m (commit j) (commit i) x ne = with_one_other m.commit j i x (λ e. ne (ap commit e))
mark_other m (commit j) (fresh i) x ne = refl
mark_other m (commit j) (final i) x ne = refl
mark_other m (commit j) (target i l) x ne = refl
mark_other m (fresh j) plan_new x ne = refl
mark_other m (fresh j) plan x ne = refl
mark_other m (fresh j) (temp i l) x ne = refl
mark_other m (fresh j) (commit i) x ne = refl
mark_other m (fresh j) (fresh i) x ne = with_one_other m.fresh j i x (λ e. ne (ap fresh e))
mark_other m (fresh j) (final i) x ne = refl
mark_other m (fresh j) (target i l) x ne = refl
mark_other m (final j) plan_new x ne = refl
mark_other m (final j) plan x ne = refl
mark_other m (final j) (temp i l) x ne = refl
mark_other m (final j) (commit i) x ne = refl
mark_other m (final j) (fresh i) x ne = refl
mark_other m (final j) (final i) x ne = with_one_other m.final j i x (λ e. ne (ap final e))
mark_other m (final j) (target i l) x ne = refl
mark_other m (target j k) plan_new x ne = refl
mark_other m (target j k) plan x ne = refl
mark_other m (target j k) (temp i l) x ne = refl
mark_other m (target j k) (commit i) x ne = refl
mark_other m (target j k) (fresh i) x ne = refl
mark_other m (target j k) (final i) x ne = refl
mark_other m (target j k) (target i l) x ne = step_other m.target j k i l x (λ e d. ne (cc))
