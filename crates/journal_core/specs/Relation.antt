-- What the marks are while a core has its state: the relation that each event keeps.
--
-- It is read twice. With `is_whole` for what a name may hold that was put and not settled since, it
-- says what is there now; with `is_any` it says what all changes since the last settle leave where a
-- stop has torn each put. What is whole in both readings was put before the last settle.
use Rattle.std.specs.Prelude.{◌≡◌, ◌≢◌, ◌⊎◌, ℕ, suc, zero, ◌+◌, ◌<◌, ◌≤◌, nat_lt, Bool, true, false, if◌then◌else◌, List, length, get_or, IsTrue}
use Rattle.journal_core.specs.declared.event.Event.{Event}
use Rattle.journal_core.specs.declared.event.Event.TheVariants.{Propose, Adopt, Stage, Settle, Commit, Move, Finish, Close, Clear, Renew, Replace}
use Rattle.journal_core.specs.declared.event.JobState.{JobState}
use Rattle.journal_core.specs.declared.event.JobState.TheVariants.{Fresh, Staged, Ready, Going, Done}
use Rattle.journal_core.specs.declared.event.Phase.TheVariants.{Empty, Proposed, Running, Finishing, Closing, Closed, Renewing}
use Rattle.journal_core.specs.Fit.{fits}
use Rattle.journal_core.specs.Names.{IsStep, Name, IsClearable}
use Rattle.journal_core.specs.Table.{CoreState, is_done}
use Rattle.journal_core.specs.Marks.{Mark, Marking, absent, first, whole, is_any, is_loose, is_kept, is_own}
use Rattle.journal_core.specs.Shapes.{most_in_flight, IsUntouched, IsLeft, IsMoved, HasNothing, HasNoEnd, IsFinished, IsOld}

-- ### Jobs in flight

-- how many jobs before this one aren't done
abbrev pub ahead : List JobState → ℕ → ℕ
ahead states zero = 0
ahead states (suc j) = ahead states j + (if is_done (get_or states j Done) then 0 else 1)

-- a staging is of one of the first 64 jobs that aren't done
abbrev pub IsNear : CoreState → Event → Type 0
IsNear c Propose = Unit {0}
IsNear c Adopt = Unit {0}
IsNear c (Stage job step) = ahead c.states job < most_in_flight
IsNear c Settle = Unit {0}
IsNear c (Commit job) = Unit {0}
IsNear c (Move job step) = Unit {0}
IsNear c (Finish part) = Unit {0}
IsNear c (Close part) = Unit {0}
IsNear c Clear = Unit {0}
IsNear c Renew = Unit {0}
IsNear c Replace = Unit {0}

-- a clearing removes a name that may be cleared
abbrev pub IsFor : Event → Name → Type 0
IsFor Propose n = Unit {0}
IsFor Adopt n = Unit {0}
IsFor (Stage job step) n = Unit {0}
IsFor Settle n = Unit {0}
IsFor (Commit job) n = Unit {0}
IsFor (Move job step) n = Unit {0}
IsFor (Finish part) n = Unit {0}
IsFor (Close part) n = Unit {0}
IsFor Clear n = IsClearable n
IsFor Renew n = Unit {0}
IsFor Replace n = Unit {0}

-- ### One job

-- what a step's names hold: not put yet, put, put and settled, or moved
pub data Slot : Type 0 where
  free : Slot
  staged : Slot
  safe : Slot
  moved : Slot

abbrev pub slot : JobState → ℕ → Slot
slot (Fresh staged_steps) k = if nat_lt k staged_steps then staged else free
slot Staged k = staged
slot Ready k = safe
slot (Going moved_steps) k = if nat_lt k moved_steps then moved else safe
slot Done k = moved

-- the step is put, and not settled yet
pub record IsPut (p : Mark → Bool) (temp target : Mark) : Type 0 where
  pub temp_put : IsTrue (p temp)
  pub target_first : target ≡ first

abbrev pub SlotShows : (Mark → Bool) → Slot → Mark → Mark → Type 0
SlotShows p free temp target = IsUntouched temp target
SlotShows p staged temp target = IsPut p temp target
SlotShows p safe temp target = IsLeft temp target
SlotShows p moved temp target = IsMoved temp target

-- the commit mark is there from the commit on
abbrev pub CommitShows : JobState → Mark → Type 0
CommitShows (Fresh n) commit = commit ≡ absent
CommitShows Staged commit = commit ≡ absent
CommitShows Ready commit = commit ≡ absent
CommitShows (Going n) commit = IsTrue (is_any commit)
CommitShows Done commit = IsTrue (is_any commit)

-- a job of n steps in a state, by its commit mark, its temporary names and its targets
pub record JobShows (p : Mark → Bool) (n : ℕ) (state : JobState) (commit : Mark) (temp target : ℕ → Mark) : Type 0 where
  pub fit : IsTrue (fits n state)
  pub commit_shows : CommitShows state commit
  pub slots : (k : ℕ) → k < n → SlotShows p (slot state k) (temp k) (target k)

-- ### The run

abbrev pub EachDone : List JobState → Type 0
EachDone states = (j : ℕ) → get_or states j Done ≡ Done

-- before the plan is adopted no job has begun, and nothing but a proposed plan is there
pub record IsEarly (steps : List ℕ) (states : List JobState) (m : Marking) : Type 0 where
  pub same_length : length states ≡ length steps
  pub none_begun : (j : ℕ) → j < length steps → get_or states j Done ≡ Fresh 0
  pub rest : HasNothing steps m

-- from the plan's adoption until the finished text is at its name
pub record IsLive (p : Mark → Bool) (steps : List ℕ) (states : List JobState) (m : Marking) : Type 0 where
  pub same_length : length states ≡ length steps
  pub plan_new : m.plan_new ≡ absent
  pub plan : IsTrue (is_own m.plan)
  pub finished : m.final 3 ≡ absent
  pub jobs : (j : ℕ) → j < length steps
      → JobShows p (get_or steps j 0) (get_or states j Done) (m.commit j) (m.temp j) (m.target j)
  pub window : (j k : ℕ) → IsStep steps j k → m.temp j k ≢ absent → ahead states j < most_in_flight
  pub fresh : (i : ℕ) → i < 4 → IsTrue (is_loose (m.fresh i))
  pub lists : (i : ℕ) → i < 3 → IsTrue (is_kept (m.final i))
  pub end_last : EachDone states ⊎ HasNoEnd m

-- while the four texts of the end are put: those that are settled are whole
pub record IsFinishing (p : Mark → Bool) (steps : List ℕ) (states : List JobState) (m : Marking) (put_parts : ℕ) (settled : Bool) : Type 0 where
  pub live : IsLive p steps states m
  pub all_done : EachDone states
  pub some_put : 0 < put_parts
  pub at_most : put_parts ≤ 4
  pub are_put : (i : ℕ) → i < put_parts → IsTrue (p (m.fresh i))
  pub all_put : IsTrue settled → put_parts ≡ 4
  pub are_settled : IsTrue settled → (i : ℕ) → i < 4 → m.fresh i ≡ whole

-- while they are renamed: those that aren't yet are whole and settled
pub record IsClosing (p : Mark → Bool) (steps : List ℕ) (states : List JobState) (m : Marking) (moved_parts : ℕ) : Type 0 where
  pub live : IsLive p steps states m
  pub all_done : EachDone states
  pub some_moved : 0 < moved_parts
  pub at_most : moved_parts < 4
  pub gone : (i : ℕ) → i < moved_parts → m.fresh i ≡ absent
  pub there : (i : ℕ) → i < moved_parts → m.final i ≡ whole
  pub left : (i : ℕ) → moved_parts ≤ i → i < 4 → m.fresh i ≡ whole

-- the marks while a core has this state; p is what a name may hold that was put and not settled since
pub data Shows (p : Mark → Bool) (steps : List ℕ) : CoreState → Marking → Type 0 where
  empty : {ss : List JobState} {m : Marking}
      → IsEarly steps ss m → IsTrue (is_loose m.plan_new)
      → Shows p steps (record { phase = Empty; steps = steps; states = ss }) m
  proposed : {ss : List JobState} {m : Marking}
      → IsEarly steps ss m → IsTrue (p m.plan_new)
      → Shows p steps (record { phase = Proposed false; steps = steps; states = ss }) m
  settled : {ss : List JobState} {m : Marking}
      → IsEarly steps ss m → m.plan_new ≡ whole
      → Shows p steps (record { phase = Proposed true; steps = steps; states = ss }) m
  running : {ss : List JobState} {m : Marking}
      → IsLive p steps ss m
      → Shows p steps (record { phase = Running; steps = steps; states = ss }) m
  finishing : {ss : List JobState} {m : Marking} {put_parts : ℕ} {settled_parts : Bool}
      → IsFinishing p steps ss m put_parts settled_parts
      → Shows p steps (record { phase = Finishing put_parts settled_parts; steps = steps; states = ss }) m
  closing : {ss : List JobState} {m : Marking} {moved_parts : ℕ}
      → IsClosing p steps ss m moved_parts
      → Shows p steps (record { phase = Closing moved_parts; steps = steps; states = ss }) m
  -- a core that was made closed has no jobs, so the steps are those of the marking
  closed : {st : List ℕ} {ss : List JobState} {m : Marking}
      → EachDone ss → IsFinished steps m
      → Shows p steps (record { phase = Closed; steps = st; states = ss }) m
  -- an earlier program finished the run: what is put of the new text may hold this, and is whole once it is settled; the steps are
  -- those of the marking here, too
  renewing : {st : List ℕ} {ss : List JobState} {m : Marking} {put_text settled_text : Bool}
      → EachDone ss → IsOld steps m → (IsTrue put_text → IsTrue (p (m.fresh 3))) → (IsTrue put_text → IsTrue settled_text → m.fresh 3 ≡ whole)
      → Shows p steps (record { phase = Renewing put_text settled_text; steps = st; states = ss }) m
