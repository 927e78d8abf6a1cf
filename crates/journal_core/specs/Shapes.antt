-- The three shapes of a tree partway through a run, over marks.
use Rattle.std.specs.Prelude.{◌≡◌, ◌≢◌, ◌⊎◌, ℕ, suc, zero, ◌+◌, ◌<◌, ◌≤◌, Bool, true, ◌&&◌, if◌then◌else◌, List, length, get_or, IsTrue}
use Rattle.journal_core.specs.Names.{IsStep}
use Rattle.journal_core.specs.Marks.{Mark, Marking, absent, first, whole, is_absent, is_any, is_loose, is_kept, is_own, earlier}

-- ### One step of a job: its temporary name, and its target

-- the job isn't committed: the temporary name is free to hold anything
pub record IsUntouched (temp target : Mark) : Type 0 where
  pub temp_loose : IsTrue (is_loose temp)
  pub target_first : target ≡ first

-- the job is committed, and the step isn't moved yet
pub record IsLeft (temp target : Mark) : Type 0 where
  pub temp_whole : temp ≡ whole
  pub target_first : target ≡ first

-- the step is moved
pub record IsMoved (temp target : Mark) : Type 0 where
  pub temp_gone : temp ≡ absent
  pub target_whole : target ≡ whole

-- ### One job

-- a job of n steps, by its commit mark, its temporary names and its targets: it is as at first, or
-- it is committed, and the steps below some number are moved and the others are not
pub data JobShape (n : ℕ) (commit : Mark) (temp target : ℕ → Mark) : Type 0 where
  untouched : commit ≡ absent
      → ((k : ℕ) → k < n → IsUntouched (temp k) (target k))
      → JobShape n commit temp target
  committed : IsTrue (is_any commit)
      → (moved : ℕ) → moved ≤ n
      → ((k : ℕ) → k < moved → IsMoved (temp k) (target k))
      → ((k : ℕ) → moved ≤ k → k < n → IsLeft (temp k) (target k))
      → JobShape n commit temp target

-- none of the first n is there
abbrev pub none_there : (ℕ → Mark) → ℕ → Bool
none_there temp zero = true
none_there temp (suc n) = is_absent (temp n) && none_there temp n

-- the job is committed and has no temporary name left
abbrev pub is_job_done : List ℕ → Marking → ℕ → Bool
is_job_done steps m j = is_any (m.commit j) && none_there (m.temp j) (get_or steps j 0)

-- as many jobs may have temporary names at once
abbrev pub most_in_flight : ℕ
most_in_flight = 64

-- how many jobs before this one aren't done
abbrev pub waiting : List ℕ → Marking → ℕ → ℕ
waiting steps m zero = 0
waiting steps m (suc j) = waiting steps m j + (if is_job_done steps m j then 0 else 1)

-- ### The shapes

-- nothing of the run is there, the proposed plan aside
pub record HasNothing (steps : List ℕ) (m : Marking) : Type 0 where
  pub plan : m.plan ≡ absent
  pub temp : (j k : ℕ) → IsStep steps j k → m.temp j k ≡ absent
  pub commit : (j : ℕ) → j < length steps → m.commit j ≡ absent
  pub fresh : (i : ℕ) → i < 4 → m.fresh i ≡ absent
  pub final : (i : ℕ) → i < 4 → m.final i ≡ absent
  pub target : (j k : ℕ) → IsStep steps j k → m.target j k ≡ first

-- there is no plan; a proposed one may be there, and hold anything
pub record IsUnplanned (steps : List ℕ) (m : Marking) : Type 0 where
  pub plan_new : IsTrue (is_loose m.plan_new)
  pub rest : HasNothing steps m

-- nothing of the end is there
pub record HasNoEnd (m : Marking) : Type 0 where
  pub fresh : (i : ℕ) → i < 4 → m.fresh i ≡ absent
  pub final : (i : ℕ) → i < 4 → m.final i ≡ absent

-- there is a whole plan and no finished text: each job is as at first, or is being moved
pub record IsUnderway (steps : List ℕ) (m : Marking) : Type 0 where
  pub plan_new : m.plan_new ≡ absent
  pub plan : IsTrue (is_own m.plan)
  pub finished : m.final 3 ≡ absent
  pub jobs : (j : ℕ) → j < length steps → JobShape (get_or steps j 0) (m.commit j) (m.temp j) (m.target j)
  -- a job with a temporary name is one of the first 64 that aren't done
  pub window : (j k : ℕ) → IsStep steps j k → m.temp j k ≢ absent → waiting steps m j < most_in_flight
  -- only where all jobs are done, what is put of the end may be there, and the lists, whole
  pub fresh : (i : ℕ) → i < 4 → IsTrue (is_loose (m.fresh i))
  pub lists : (i : ℕ) → i < 3 → IsTrue (is_kept (m.final i))
  pub end_last : ((j : ℕ) → j < length steps → IsTrue (is_job_done steps m j)) ⊎ HasNoEnd m

-- the finished text, the lists and all targets are whole; what is left of the work may be there
pub record IsFinished (steps : List ℕ) (m : Marking) : Type 0 where
  pub plan_new : m.plan_new ≡ absent
  pub plan : IsTrue (is_kept m.plan)
  pub temp : (j k : ℕ) → IsStep steps j k → m.temp j k ≡ absent
  pub commit : (j : ℕ) → j < length steps → IsTrue (is_loose (m.commit j))
  pub fresh : (i : ℕ) → i < 4 → m.fresh i ≡ absent
  pub final : (i : ℕ) → i < 4 → m.final i ≡ whole
  pub target : (j k : ℕ) → IsStep steps j k → m.target j k ≡ whole

-- the same where an earlier program wrote the finished text: a new one may be put beside it, or a part of one
pub record IsOld (steps : List ℕ) (m : Marking) : Type 0 where
  pub plan_new : m.plan_new ≡ absent
  pub plan : IsTrue (is_kept m.plan)
  pub temp : (j k : ℕ) → IsStep steps j k → m.temp j k ≡ absent
  pub commit : (j : ℕ) → j < length steps → IsTrue (is_loose (m.commit j))
  pub fresh : (i : ℕ) → i < 3 → m.fresh i ≡ absent
  pub last : IsTrue (is_loose (m.fresh 3))
  pub final : (i : ℕ) → i < 3 → m.final i ≡ whole
  pub finished : m.final 3 ≡ earlier
  pub target : (j k : ℕ) → IsStep steps j k → m.target j k ≡ whole

-- a tree partway through a run, whose jobs have so many steps
pub data HasShape (steps : List ℕ) (m : Marking) : Type 0 where
  unplanned : IsUnplanned steps m → HasShape steps m
  underway : IsUnderway steps m → HasShape steps m
  finished : IsFinished steps m → HasShape steps m
  old : IsOld steps m → HasShape steps m

-- in every shape each target is as it was at first, or whole
abbrev pub TargetsOldOrWhole : Type 0
TargetsOldOrWhole = (steps : List ℕ) (m : Marking) → HasShape steps m
    → (j k : ℕ) → IsStep steps j k → (m.target j k ≡ first) ⊎ (m.target j k ≡ whole)
