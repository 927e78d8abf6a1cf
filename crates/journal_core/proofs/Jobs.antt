-- One job changes, and all the others stay as they are.
use Rattle.std.proofs.Common.{◌≡◌, ◌≢◌, ◌⊎◌, ℕ, suc, ◌<◌, ◌≤◌, Bool, List, get_or, set, refl, sym, ◌∙◌, subst, inl, inr, arith, IsTrue, eq-eqb, ne_eqb, lt-ltb, le-ltb, get_or-set_other, get_or-set_same, length-set}
use Rattle.std.proofs.lemmas.Bool.{cases_eq, cases_lt}
use Rattle.journal_core.specs.declared.event.JobState.{JobState}
use Rattle.journal_core.specs.declared.event.JobState.TheVariants.{Fresh, Going, Done}
use Rattle.journal_core.specs.Fit.{fits}
use Rattle.journal_core.specs.Table.{staged_next, moved_next}
use Rattle.journal_core.specs.Marks.{Mark, Marking, absent, is_any}
use Rattle.journal_core.specs.Shapes.{HasNoEnd}
use Rattle.journal_core.specs.Relation.{ahead, free, staged, safe, moved, slot, CommitShows, JobShows, IsLive}
use Rattle.journal_core.proofs.Rows.{is_inside, ahead-set}

-- ### The run, where one job changes

-- all marks but those of job j are the same
pub record Beside (j : ℕ) (m m' : Marking) : Type 0 where
  pub plan_new : m'.plan_new ≡ m.plan_new
  pub plan : m'.plan ≡ m.plan
  pub commit : (i : ℕ) → i ≢ j → m'.commit i ≡ m.commit i
  pub temp : (i : ℕ) → i ≢ j → m'.temp i ≡ m.temp i
  pub target : (i : ℕ) → i ≢ j → m'.target i ≡ m.target i
  pub fresh : (i : ℕ) → m'.fresh i ≡ m.fresh i
  pub final : (i : ℕ) → m'.final i ≡ m.final i

-- the state of a job in a list where job j took another
pub state-set : (ss : List JobState) (j i : ℕ) (s : JobState) → get_or ss j Done ≢ Done
    → ((i ≡ j) × (get_or (set ss j s) i Done ≡ s)) ⊎ ((i ≢ j) × (get_or (set ss j s) i Done ≡ get_or ss i Done))
state-set ss j i s ne = elim (cases_eq i j) [
  | inl e ↦ inl (e, subst (λ (l : ℕ). get_or (set ss j s) l Done ≡ s) (sym e) (get_or-set_same ss j s Done (is_inside ss j ne)))
  | inr other ↦ inr (other, get_or-set_other ss j i s Done other)
]

-- one row of the relation, at equal states and marks
pub row_same : (p : Mark → Bool) (n : ℕ) (s s' : JobState) (c c' : Mark) (t t' g g' : ℕ → Mark)
    → s' ≡ s → c' ≡ c → t' ≡ t → g' ≡ g → JobShows p n s c t g → JobShows p n s' c' t' g'
row_same p n s s' c c' t t' g g' es ec et eg h =
    let a : JobShows p n s' c t g = subst (λ (x : JobState). JobShows p n x c t g) (sym es) h in
    let b : JobShows p n s' c' t g = subst (λ (x : Mark). JobShows p n s' x t g) (sym ec) a in
    let d : JobShows p n s' c' t' g = subst (λ (x : ℕ → Mark). JobShows p n s' c' x g) (sym et) b in
    subst (λ (x : ℕ → Mark). JobShows p n s' c' t' x) (sym eg) d

pub no_end_same : (m m' : Marking) → ((i : ℕ) → m'.fresh i ≡ m.fresh i) → ((i : ℕ) → m'.final i ≡ m.final i) → HasNoEnd m → HasNoEnd m'
no_end_same m m' ef el h = record {
  fresh = λ i l. ef i ∙ h.fresh i l;
  final = λ i l. el i ∙ h.final i l;
}

-- a job that isn't done takes another state and other marks
pub job_changed : (p : Mark → Bool) (steps : List ℕ) (ss : List JobState) (m m' : Marking) (j : ℕ) (s : JobState)
    → IsLive p steps ss m → Beside j m m' → get_or ss j Done ≢ Done
    → JobShows p (get_or steps j 0) s (m'.commit j) (m'.temp j) (m'.target j)
    → ((k : ℕ) → m'.temp j k ≢ absent → (m.temp j k ≢ absent) ⊎ (ahead ss j < 64))
    → IsLive p steps (set ss j s) m'
job_changed p steps ss m m' j s live b ne row near = record {
  same_length = length-set ss j s ∙ live.same_length;
  plan_new = b.plan_new ∙ live.plan_new;
  plan = rw b.plan live.plan;
  finished = b.final 3 ∙ live.finished;
  jobs = λ i l. elim (state-set ss j i s ne) [
    | inl e ↦ subst (λ (x : ℕ). JobShows p (get_or steps x 0) (get_or (set ss j s) x Done) (m'.commit x) (m'.temp x) (m'.target x)) (sym e.0)
        (row_same p _ _ _ _ _ _ _ _ _ (get_or-set_same ss j s Done (is_inside ss j ne)) refl refl refl row)
    | inr o ↦ row_same p _ _ _ _ _ _ _ _ _ o.1 (b.commit i o.0) (b.temp i o.0) (b.target i o.0) (live.jobs i l)
  ];
  window = λ i k st there.
      let fewer : ahead (set ss j s) i ≤ ahead ss i = ahead-set ss j s ne i in
      elim (cases_eq i j) [
        | inl e ↦ elim (near k (subst (λ (x : ℕ). m'.temp x k ≢ absent) e there)) [
          | inl was ↦ let w = live.window i k st (subst (λ (x : ℕ). m.temp x k ≢ absent) (sym e) was) in omega arith
          | inr few ↦ let w : ahead ss i < 64 = subst (λ (x : ℕ). ahead ss x < 64) (sym e) few in omega arith
        ]
        | inr other ↦ let w = live.window i k st (subst (λ (x : ℕ → Mark). x k ≢ absent) (b.temp i other) there) in omega arith
      ];
  fresh = λ i l. rw (b.fresh i) (live.fresh i l);
  lists = λ i l. rw (b.final i) (live.lists i l);
  end_last = elim live.end_last [
    | inl done ↦ absurd (ne (done j))
    | inr none ↦ inr (no_end_same m m' b.fresh b.final none)
  ];
}

-- ### The slots of a job, where one step is staged or moved

pub staged_here : (k n : ℕ) → slot (staged_next k n) k ≡ staged
staged_here k n = elim (cases_eq (suc k) n) [
  | inl e ↦ rw (eq-eqb (suc k) n e) refl
  | inr other ↦ rw (ne_eqb (suc k) n other) (let l : k < suc k = omega arith in rw (lt-ltb k (suc k) l) refl)
]

pub staged_other : (k n i : ℕ) → k < n → i < n → i ≢ k → slot (staged_next k n) i ≡ slot (Fresh k) i
staged_other k n i kn lt ne = elim (cases_eq (suc k) n) [
  | inl e ↦ rw (eq-eqb (suc k) n e) (let l : i < k = omega arith in rw (lt-ltb i k l) refl)
  | inr other ↦ rw (ne_eqb (suc k) n other) (elim (cases_lt i k) [
    | inl l ↦ let m : i < suc k = omega arith in rw (lt-ltb i (suc k) m, lt-ltb i k l) refl
    | inr l ↦ let m : suc k ≤ i = omega arith in rw (le-ltb i (suc k) m, le-ltb i k l) refl
  ])
]

pub free_here : (k : ℕ) → slot (Fresh k) k ≡ free
free_here k = let l : k ≤ k = omega arith in rw (le-ltb k k l) refl

pub moved_here : (k n : ℕ) → slot (moved_next k n) k ≡ moved
moved_here k n = elim (cases_eq (suc k) n) [
  | inl e ↦ rw (eq-eqb (suc k) n e) refl
  | inr other ↦ rw (ne_eqb (suc k) n other) (let l : k < suc k = omega arith in rw (lt-ltb k (suc k) l) refl)
]

pub moved_other : (k n i : ℕ) → k < n → i < n → i ≢ k → slot (moved_next k n) i ≡ slot (Going k) i
moved_other k n i kn lt ne = elim (cases_eq (suc k) n) [
  | inl e ↦ rw (eq-eqb (suc k) n e) (let l : i < k = omega arith in rw (lt-ltb i k l) refl)
  | inr other ↦ rw (ne_eqb (suc k) n other) (elim (cases_lt i k) [
    | inl l ↦ let m : i < suc k = omega arith in rw (lt-ltb i (suc k) m, lt-ltb i k l) refl
    | inr l ↦ let m : suc k ≤ i = omega arith in rw (le-ltb i (suc k) m, le-ltb i k l) refl
  ])
]

pub safe_here : (k : ℕ) → slot (Going k) k ≡ safe
safe_here k = let l : k ≤ k = omega arith in rw (le-ltb k k l) refl

pub staged_fits : (k n : ℕ) → k < n → IsTrue (fits n (staged_next k n))
staged_fits k n l = elim (cases_eq (suc k) n) [
  | inl e ↦ rw (eq-eqb (suc k) n e) refl
  | inr other ↦ rw (ne_eqb (suc k) n other) (let m : suc k < n = omega arith in lt-ltb (suc k) n m)
]

pub moved_fits : (k n : ℕ) → k < n → IsTrue (fits n (moved_next k n))
moved_fits k n l = elim (cases_eq (suc k) n) [
  | inl e ↦ rw (eq-eqb (suc k) n e) refl
  | inr other ↦ rw (ne_eqb (suc k) n other) (let m : suc k < n = omega arith in lt-ltb (suc k) n m)
]

pub staged_commit : (k n : ℕ) (c : Mark) → c ≡ absent → CommitShows (staged_next k n) c
staged_commit k n c e = elim (cases_eq (suc k) n) [
  | inl h ↦ rw (eq-eqb (suc k) n h) e
  | inr other ↦ rw (ne_eqb (suc k) n other) e
]

pub moved_commit : (k n : ℕ) (c : Mark) → IsTrue (is_any c) → CommitShows (moved_next k n) c
moved_commit k n c e = elim (cases_eq (suc k) n) [
  | inl h ↦ rw (eq-eqb (suc k) n h) e
  | inr other ↦ rw (ne_eqb (suc k) n other) e
]
