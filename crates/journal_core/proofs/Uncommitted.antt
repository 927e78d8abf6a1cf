-- A job that isn't committed has its targets as they were at first.
use Rattle.std.proofs.Common.{◌≡◌, ℕ, ◌<◌, Bool, true, false, cond, ltb, List, get_or, subst, IsTrue}
use Rattle.journal_core.specs.declared.event.JobState.{JobState}
use Rattle.journal_core.specs.declared.event.JobState.TheVariants.{Fresh, Staged, Ready, Going, Done}
use Rattle.journal_core.specs.Names.{IsStep}
use Rattle.journal_core.specs.Marks.{Mark, Marking, first}
use Rattle.journal_core.specs.Relation.{free, staged, SlotShows, JobShows, IsLive, empty, proposed, settled, running, finishing, closing, closed, renewing}
use Rattle.journal_core.specs.Calls.{is_uncommitted, EveryUncommittedOld}
use Rattle.journal_core.proofs.Events.{never}

fresh_target : (p : Mark → Bool) (b : Bool) (t g : Mark) → SlotShows p (cond b staged free) t g → g ≡ first
fresh_target p true t g h = h.target_first
fresh_target p false t g h = h.target_first

row_target : (p : Mark → Bool) (n : ℕ) (s : JobState) (c : Mark) (t g : ℕ → Mark) (k : ℕ)
    → JobShows p n s c t g → k < n → IsTrue (is_uncommitted s) → g k ≡ first
row_target p n (Fresh v) c t g k h l u = fresh_target p (ltb k v) (t k) (g k) (h.slots k l)
row_target p n Staged c t g k h l u = (h.slots k l).target_first
row_target p n Ready c t g k h l u = (h.slots k l).target_first
row_target p n (Going v) c t g k h l u = never u
row_target p n Done c t g k h l u = never u

live_target : (p : Mark → Bool) (steps : List ℕ) (ss : List JobState) (m : Marking) (j k : ℕ)
    → IsLive p steps ss m → IsStep steps j k → IsTrue (is_uncommitted (get_or ss j Done)) → m.target j k ≡ first
live_target p steps ss m j k live st u = row_target p _ _ _ _ _ k (live.jobs j st.job_in) st.step_in u

pub uncommitted_old : EveryUncommittedOld
uncommitted_old p steps c m j k (empty h l) st u = h.rest.target j k st
uncommitted_old p steps c m j k (proposed h l) st u = h.rest.target j k st
uncommitted_old p steps c m j k (settled h l) st u = h.rest.target j k st
uncommitted_old p steps c m j k (running h) st u = live_target p _ _ m j k h st u
uncommitted_old p steps c m j k (finishing h) st u = live_target p _ _ m j k h.live st u
uncommitted_old p steps c m j k (closing h) st u = live_target p _ _ m j k h.live st u
uncommitted_old p steps c m j k (closed d h) st u = never (subst (λ (s : JobState). is_uncommitted s ≡ true) (d j) u)
uncommitted_old p steps c m j k (renewing d h l q) st u = never (subst (λ (s : JobState). is_uncommitted s ≡ true) (d j) u)
