-- The three events of a job keep the relation, in either reading.
use Rattle.std.proofs.Common.{◌≡◌, ◌≢◌, ℕ, ◌<◌, ◌≤◌, Bool, List, length, get_or, set, refl, sym, ◌∙◌, ap, subst, inl, inr, arith, IsTrue, ltb-true, eqb-true, lt-ltb, le-ltb}
use Rattle.std.proofs.lemmas.Bool.{cases_eq}
use Rattle.journal_core.specs.declared.event.JobState.{JobState}
use Rattle.journal_core.specs.declared.event.JobState.TheVariants.{Fresh, Staged, Ready, Going, Done}
use Rattle.journal_core.specs.Names.{temp, commit, target, EachHasStep}
use Rattle.journal_core.specs.Table.{is_fresh, is_ready, is_going, staged_next, moved_next}
use Rattle.journal_core.specs.Marks.{Mark, Marking, absent, whole, is_any, marked, with_one, with_step}
use Rattle.journal_core.specs.Shapes.{IsUntouched, IsLeft, IsMoved}
use Rattle.journal_core.specs.Relation.{ahead, Slot, free, staged, safe, moved, slot, SlotShows, IsPut, JobShows, IsLive}
use Rattle.journal_core.proofs.Rows.{is_inside, with_one_here, with_one_at, with_one_other, with_step_here, with_step_other}
use Rattle.journal_core.proofs.Jobs.{job_changed, row_same, staged_here, staged_other, free_here, moved_here, moved_other, safe_here, staged_fits, moved_fits, staged_commit, moved_commit}

-- ### What a test says of the state

pub fresh_is : (s : JobState) (k : ℕ) → IsTrue (is_fresh s k) → s ≡ Fresh k
fresh_is (Fresh n) k h = ap Fresh (eqb-true n k h)
fresh_is Staged k h = cc
fresh_is Ready k h = cc
fresh_is (Going n) k h = cc
fresh_is Done k h = cc

pub ready_is : (s : JobState) → IsTrue (is_ready s) → s ≡ Ready
ready_is (Fresh n) h = cc
ready_is Staged h = cc
ready_is Ready h = refl
ready_is (Going n) h = cc
ready_is Done h = cc

pub going_is : (s : JobState) (k : ℕ) → IsTrue (is_going s k) → s ≡ Going k
going_is (Fresh n) k h = cc
going_is Staged k h = cc
going_is Ready k h = cc
going_is (Going n) k h = ap Going (eqb-true n k h)
going_is Done k h = cc

-- a job with such an event isn't done, so it is one of the run's
pub fresh_not_done : (s : JobState) (k : ℕ) → s ≡ Fresh k → s ≢ Done
fresh_not_done s k e d = cc

pub ready_not_done : (s : JobState) → s ≡ Ready → s ≢ Done
ready_not_done s e d = cc

pub going_not_done : (s : JobState) (k : ℕ) → s ≡ Going k → s ≢ Done
going_not_done s k e d = cc

-- ### The rows

pub slot_same : (p : Mark → Bool) (a b : Slot) (t t' g g' : Mark) → a ≡ b → t ≡ t' → g ≡ g' → SlotShows p b t' g' → SlotShows p a t g
slot_same p a b t t' g g' ea et eg h =
    let one : SlotShows p a t' g' = subst (λ (x : Slot). SlotShows p x t' g') (sym ea) h in
    let two : SlotShows p a t g' = subst (λ (x : Mark). SlotShows p a x g') (sym et) one in
    subst (λ (x : Mark). SlotShows p a t x) (sym eg) two

-- a step is put
pub row_staged : (p : Mark → Bool) (x : Mark) (n k : ℕ) (c : Mark) (t g : ℕ → Mark)
    → IsTrue (p x) → JobShows p n (Fresh k) c t g → JobShows p n (staged_next k n) c (with_one t k x) g
row_staged p x n k c t g px h =
    let kn : k < n = ltb-true k n h.fit in
    let was : IsUntouched (t k) (g k) = slot_same p free (slot (Fresh k) k) (t k) (t k) (g k) (g k) (sym (free_here k)) refl refl (h.slots k kn) in
    let put_now : IsPut p x (g k) = record { temp_put = px; target_first = was.target_first } in
    record {
      fit = staged_fits k n kn;
      commit_shows = staged_commit k n c h.commit_shows;
      slots = λ i l. elim (cases_eq i k) [
        | inl e ↦ slot_same p _ staged _ x _ (g k) (ap (λ (y : ℕ). slot (staged_next k n) y) e ∙ staged_here k n) (with_one_at t k i x e) (ap g e) put_now
        | inr ne ↦ slot_same p _ _ _ _ _ _ (staged_other k n i kn l ne) (with_one_other t k i x ne) refl (h.slots i l)
      ];
    }

-- the commit mark is put
pub row_committed : (p : Mark → Bool) (x : Mark) (n : ℕ) (c : Mark) (t g : ℕ → Mark)
    → IsTrue (is_any x) → 0 < n → JobShows p n Ready c t g → JobShows p n (Going 0) x t g
row_committed p x n c t g ax some h = record {
  fit = lt-ltb 0 n some;
  commit_shows = ax;
  slots = λ i l. let none : 0 ≤ i = omega arith in
      let e : slot (Going 0) i ≡ safe = rw (le-ltb i 0 none) refl in
      slot_same p _ safe _ _ _ _ e refl refl (h.slots i l);
}

-- a step is moved
pub row_moved : (p : Mark → Bool) (n k : ℕ) (c : Mark) (t g : ℕ → Mark)
    → JobShows p n (Going k) c t g → JobShows p n (moved_next k n) c (with_one t k absent) (with_one g k (t k))
row_moved p n k c t g h =
    let kn : k < n = ltb-true k n h.fit in
    let was : IsLeft (t k) (g k) = slot_same p safe (slot (Going k) k) (t k) (t k) (g k) (g k) (sym (safe_here k)) refl refl (h.slots k kn) in
    let moved_now : IsMoved absent (t k) = record { temp_gone = refl; target_whole = was.temp_whole } in
    record {
      fit = moved_fits k n kn;
      commit_shows = moved_commit k n c h.commit_shows;
      slots = λ i l. elim (cases_eq i k) [
        | inl e ↦ slot_same p _ moved _ absent _ (t k) (ap (λ (y : ℕ). slot (moved_next k n) y) e ∙ moved_here k n) (with_one_at t k i absent e) (with_one_at g k i (t k) e) moved_now
        | inr ne ↦ slot_same p _ _ _ _ _ _ (moved_other k n i kn l ne) (with_one_other t k i absent ne) (with_one_other g k i (t k) ne) (h.slots i l)
      ];
    }

-- what is moved is whole
pub source_is_whole : (p : Mark → Bool) (n k : ℕ) (c : Mark) (t g : ℕ → Mark) → JobShows p n (Going k) c t g → t k ≡ whole
source_is_whole p n k c t g h =
    let kn : k < n = ltb-true k n h.fit in
    let was : IsLeft (t k) (g k) = slot_same p safe (slot (Going k) k) (t k) (t k) (g k) (g k) (sym (safe_here k)) refl refl (h.slots k kn) in
    was.temp_whole

-- ### The run

-- a job's row, at the state that an event asks for
pub row_at : (p : Mark → Bool) (steps : List ℕ) (ss : List JobState) (m : Marking) (j : ℕ) (s : JobState)
    → IsLive p steps ss m → get_or ss j Done ≡ s → get_or ss j Done ≢ Done
    → (j < length steps) × JobShows p (get_or steps j 0) s (m.commit j) (m.temp j) (m.target j)
row_at p steps ss m j s live e ne =
    let l : j < length ss = is_inside ss j ne in
    let inside : j < length steps = subst (λ (x : ℕ). j < x) live.same_length l in
    (inside, subst (λ (x : JobState). JobShows p (get_or steps j 0) x (m.commit j) (m.temp j) (m.target j)) e (live.jobs j inside))

pub stage_shows : (p : Mark → Bool) (x : Mark) (steps : List ℕ) (ss : List JobState) (m : Marking) (j k : ℕ)
    → IsTrue (p x) → IsLive p steps ss m → IsTrue (is_fresh (get_or ss j Done) k) → ahead ss j < 64
    → IsLive p steps (set ss j (staged_next k (get_or steps j 0))) (marked m (temp j k) x)
stage_shows p x steps ss m j k px live h near =
    let e = fresh_is (get_or ss j Done) k h in
    let ne = fresh_not_done (get_or ss j Done) k e in
    let row = row_at p steps ss m j (Fresh k) live e ne in
    job_changed p steps ss m (marked m (temp j k) x) j _ live
    (record {
      plan_new = refl;
      plan = refl;
      commit = λ i o. refl;
      temp = λ i o. with_step_other m.temp j k i x o;
      target = λ i o. refl;
      fresh = λ i. refl;
      final = λ i. refl;
    })
    ne
    (row_same p _ _ _ _ _ _ _ _ _ refl refl (with_step_here m.temp j k x) refl (row_staged p x _ k _ _ _ px row.1))
    (λ i there. inr near)

pub commit_shows : (p : Mark → Bool) (x : Mark) (steps : List ℕ) (ss : List JobState) (m : Marking) (j : ℕ)
    → IsTrue (is_any x) → EachHasStep steps → IsLive p steps ss m → IsTrue (is_ready (get_or ss j Done))
    → IsLive p steps (set ss j (Going 0)) (marked m (commit j) x)
commit_shows p x steps ss m j ax some live h =
    let e = ready_is (get_or ss j Done) h in
    let ne = ready_not_done (get_or ss j Done) e in
    let row = row_at p steps ss m j Ready live e ne in
    job_changed p steps ss m (marked m (commit j) x) j _ live
    (record {
      plan_new = refl;
      plan = refl;
      commit = λ i o. with_one_other m.commit j i x o;
      temp = λ i o. refl;
      target = λ i o. refl;
      fresh = λ i. refl;
      final = λ i. refl;
    })
    ne
    (row_same p _ _ _ _ _ _ _ _ _ refl (with_one_here m.commit j x) refl refl (row_committed p x _ _ _ _ ax (some j row.0) row.1))
    (λ i there. inl there)

-- a temporary name that is still there after another is moved away was there before
still_gone : (f : ℕ → ℕ → Mark) (j k i : ℕ) → f j i ≡ absent → with_one (f j) k absent i ≡ absent
still_gone f j k i gone = elim (cases_eq i k) [
  | inl e ↦ with_one_at (f j) k i absent e
  | inr o ↦ with_one_other (f j) k i absent o ∙ gone
]

pub still_there : (f : ℕ → ℕ → Mark) (j k i : ℕ) → with_step f j k absent j i ≢ absent → f j i ≢ absent
still_there f j k i there gone = there (ap (λ (r : ℕ → Mark). r i) (with_step_here f j k absent) ∙ still_gone f j k i gone)

pub move_shows : (p : Mark → Bool) (steps : List ℕ) (ss : List JobState) (m : Marking) (j k : ℕ)
    → IsLive p steps ss m → IsTrue (is_going (get_or ss j Done) k)
    → IsLive p steps (set ss j (moved_next k (get_or steps j 0))) (marked (marked m (target j k) (m.temp j k)) (temp j k) absent)
move_shows p steps ss m j k live h =
    let e = going_is (get_or ss j Done) k h in
    let ne = going_not_done (get_or ss j Done) k e in
    let row = row_at p steps ss m j (Going k) live e ne in
    job_changed p steps ss m (marked (marked m (target j k) (m.temp j k)) (temp j k) absent) j _ live
    (record {
      plan_new = refl;
      plan = refl;
      commit = λ i o. refl;
      temp = λ i o. with_step_other m.temp j k i absent o;
      target = λ i o. with_step_other m.target j k i (m.temp j k) o;
      fresh = λ i. refl;
      final = λ i. refl;
    })
    ne
    (row_same p _ _ _ _ _ _ _ _ _ refl refl (with_step_here m.temp j k absent) (with_step_here m.target j k (m.temp j k)) (row_moved p _ k _ _ _ row.1))
    (λ i there. inl (still_there m.temp j k i there))
