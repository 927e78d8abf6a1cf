-- The core that a marking shows hangs on which names are there, and in a shape each name of the work
-- folder is there or not.
use Rattle.std.proofs.Common.{◌≡◌, ℕ, suc, zero, ◌<◌, false, List, length, get_or, refl, sym, ◌∙◌, ap, arith, inl, inr, IsTrue, subst}
use Rattle.std.proofs.lemmas.Bool.{cases_lt}
use Rattle.std.proofs.lemmas.List.{ext_get_or}
use Rattle.journal_core.specs.declared.event.JobState.TheVariants.{Done}
use Rattle.journal_core.specs.Names.{Name, IsWorkName, plan_new, plan, temp, commit, fresh, final, target}
use Rattle.journal_core.specs.Marks.{Mark, Marking, mark, absent, first, whole, any, is_absent, is_any, is_loose, is_kept, earlier, is_own}
use Rattle.journal_core.specs.Shapes.{JobShape, untouched, committed, none_there, HasShape}
use Rattle.journal_core.specs.Starts.{least_there, shown_state, shown_states, AreAlike, both_gone, both_there, EverySameShown, EveryWorkOwn}
use Rattle.journal_core.proofs.Starts.{shown_at, length_shown}

-- ### Marks that are alike

any_there : (x : Mark) → IsTrue (is_any x) → is_absent x ≡ false
any_there absent h = cc
any_there first h = cc
any_there whole h = refl
any_there any h = refl
any_there earlier h = refl

alike_any : (x y : Mark) → AreAlike x y → is_any x ≡ is_any y
alike_any x y (both_gone g h) = rw (g, h) refl
alike_any x y (both_there g h) = g ∙ sym h

alike_gone : (x y : Mark) → AreAlike x y → is_absent x ≡ is_absent y
alike_gone x y (both_gone g h) = rw (g, h) refl
alike_gone x y (both_there g h) = any_there x g ∙ sym (any_there y h)

-- ### Names of one job

pub none_same : (t u : ℕ → Mark) (n : ℕ) → ((k : ℕ) → k < n → is_absent (t k) ≡ is_absent (u k)) → none_there t n ≡ none_there u n
none_same t u zero same = refl
none_same t u (suc n) same = rw (same n (omega arith), none_same t u n (λ k l. same k (omega arith))) refl

least_same : (t u : ℕ → Mark) (n : ℕ) → ((k : ℕ) → k < n → is_absent (t k) ≡ is_absent (u k)) → least_there t n ≡ least_there u n
least_same t u zero same = refl
least_same t u (suc n) same = rw (none_same t u n (λ k l. same k (omega arith)), least_same t u n (λ k l. same k (omega arith))) refl

state_same : (n : ℕ) (b c : Mark) (t u : ℕ → Mark) → is_any b ≡ is_any c → ((k : ℕ) → k < n → is_absent (t k) ≡ is_absent (u k))
    → shown_state n b t ≡ shown_state n c u
state_same n b c t u e same = rw (e, none_same t u n same, least_same t u n same) refl

-- ### The core

states_same : (steps : List ℕ) (m n : Marking) → ((x : Name) → IsWorkName steps x → AreAlike (mark m x) (mark n x)) → shown_states steps m ≡ shown_states steps n
states_same steps m n alike = ext_get_or Done (shown_states steps m) (shown_states steps n) (length_shown steps m ∙ sym (length_shown steps n))
    (λ j l. let inside : j < length steps = omega (arith, length_shown steps m) in
    shown_at steps m j inside
    ∙ state_same (get_or steps j 0) (m.commit j) (n.commit j) (m.temp j) (n.temp j) (alike_any _ _ (alike (commit j) inside))
    (λ k s. alike_gone _ _ (alike (temp j k) (record { job_in = inside; step_in = s })))
    ∙ sym (shown_at steps n j inside))

pub same_shown : EverySameShown
same_shown steps m n alike version =
    let ended : is_any (m.final 3) ≡ is_any (n.final 3) = alike_any _ _ (alike (final 3) (omega arith)) in
    let planned : is_any m.plan ≡ is_any n.plan = alike_any _ _ (alike plan tt) in
    rw (ended, version, planned, states_same steps m n alike) refl

-- ### Shapes

gone_loose : (x : Mark) → x ≡ absent → IsTrue (is_loose x)
gone_loose x e = rw e refl

whole_loose : (x : Mark) → x ≡ whole → IsTrue (is_loose x)
whole_loose x e = rw e refl

any_loose : (x : Mark) → IsTrue (is_any x) → IsTrue (is_loose x)
any_loose absent h = cc
any_loose first h = cc
any_loose whole h = refl
any_loose any h = refl
any_loose earlier h = refl

kept_loose : (x : Mark) → IsTrue (is_kept x) → IsTrue (is_loose x)
kept_loose absent h = refl
kept_loose first h = cc
kept_loose whole h = refl
kept_loose any h = cc
kept_loose earlier h = refl

own_loose : (x : Mark) → IsTrue (is_own x) → IsTrue (is_loose x)
own_loose absent h = cc
own_loose first h = cc
own_loose whole h = refl
own_loose any h = cc
own_loose earlier h = refl

commit_own : (n : ℕ) (c : Mark) (t g : ℕ → Mark) → JobShape n c t g → IsTrue (is_loose c)
commit_own n c t g (untouched e each) = gone_loose c e
commit_own n c t g (committed there moved small gone left) = any_loose c there

temp_own : (n : ℕ) (c : Mark) (t g : ℕ → Mark) (k : ℕ) → k < n → JobShape n c t g → IsTrue (is_loose (t k))
temp_own n c t g k l (untouched e each) = (each k l).temp_loose
temp_own n c t g k l (committed there moved small gone left) = elim (cases_lt k moved) [
  | inl b ↦ gone_loose (t k) (gone k b).temp_gone
  | inr b ↦ whole_loose (t k) (left k b l).temp_whole
]

-- a list is kept, and the finished text isn't there
final_own : (m : Marking) (i : ℕ) → m.final 3 ≡ absent → ((j : ℕ) → j < 3 → IsTrue (is_kept (m.final j))) → i < 4 → IsTrue (is_loose (m.final i))
final_own m i none kept l = elim (cases_lt i 3) [
  | inl b ↦ kept_loose (m.final i) (kept i b)
  | inr b ↦ let e : i ≡ 3 = omega arith in gone_loose (m.final i) (ap m.final e ∙ none)
]

pub work_own : EveryWorkOwn
work_own steps m plan_new (HasShape.unplanned h) is = h.plan_new
work_own steps m plan (HasShape.unplanned h) is = gone_loose _ h.rest.plan
work_own steps m (temp j k) (HasShape.unplanned h) is = gone_loose _ (h.rest.temp j k is)
work_own steps m (commit j) (HasShape.unplanned h) is = gone_loose _ (h.rest.commit j is)
work_own steps m (fresh i) (HasShape.unplanned h) is = gone_loose _ (h.rest.fresh i is)
work_own steps m (final i) (HasShape.unplanned h) is = gone_loose _ (h.rest.final i is)
work_own steps m (target j k) (HasShape.unplanned h) is = absurd is
work_own steps m plan_new (HasShape.underway h) is = gone_loose _ h.plan_new
work_own steps m plan (HasShape.underway h) is = own_loose _ h.plan
work_own steps m (temp j k) (HasShape.underway h) is = temp_own _ _ _ _ k is.step_in (h.jobs j is.job_in)
work_own steps m (commit j) (HasShape.underway h) is = commit_own _ _ _ _ (h.jobs j is)
work_own steps m (fresh i) (HasShape.underway h) is = h.fresh i is
work_own steps m (final i) (HasShape.underway h) is = final_own m i h.finished h.lists is
work_own steps m (target j k) (HasShape.underway h) is = absurd is
work_own steps m plan_new (HasShape.finished h) is = gone_loose _ h.plan_new
work_own steps m plan (HasShape.finished h) is = kept_loose _ h.plan
work_own steps m (temp j k) (HasShape.finished h) is = gone_loose _ (h.temp j k is)
work_own steps m (commit j) (HasShape.finished h) is = h.commit j is
work_own steps m (fresh i) (HasShape.finished h) is = gone_loose _ (h.fresh i is)
work_own steps m (final i) (HasShape.finished h) is = whole_loose _ (h.final i is)
work_own steps m (target j k) (HasShape.finished h) is = absurd is
work_own steps m plan_new (HasShape.old h) is = gone_loose _ h.plan_new
work_own steps m plan (HasShape.old h) is = kept_loose _ h.plan
work_own steps m (temp j k) (HasShape.old h) is = gone_loose _ (h.temp j k is)
work_own steps m (commit j) (HasShape.old h) is = h.commit j is
work_own steps m (fresh i) (HasShape.old h) is = elim (cases_lt i 3) [
  | inl b ↦ gone_loose _ (h.fresh i b)
  | inr b ↦ let e : i ≡ 3 = omega arith in subst (λ (j : ℕ). IsTrue (is_loose (m.fresh j))) (sym e) h.last
]
work_own steps m (final i) (HasShape.old h) is = elim (cases_lt i 3) [
  | inl b ↦ whole_loose _ (h.final i b)
  | inr b ↦ let e : i ≡ 3 = omega arith in subst (λ (j : ℕ). IsTrue (is_loose (m.final j))) (sym e) (rw h.finished refl)
]
work_own steps m (target j k) (HasShape.old h) is = absurd is
