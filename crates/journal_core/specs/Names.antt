-- The names that a run writes: those of its work folder, and the targets of its jobs.
use Rattle.std.specs.Prelude.{ℕ, ◌<◌, List, length, get_or}

-- the four texts of the end are the three lists (0 to 2) and the finished text (3)
pub data Name : Type 0 where
  plan_new : Name
  plan : Name
  temp : ℕ → ℕ → Name
  commit : ℕ → Name
  fresh : ℕ → Name
  final : ℕ → Name
  target : ℕ → ℕ → Name

-- each job has a step
abbrev pub EachHasStep : List ℕ → Type 0
EachHasStep steps = (j : ℕ) → j < length steps → 0 < get_or steps j 0

-- a step of a job, where each job has so many steps
pub record IsStep (steps : List ℕ) (job step : ℕ) : Type 0 where
  pub job_in : job < length steps
  pub step_in : step < get_or steps job 0

-- a name of a run whose jobs have so many steps
abbrev pub IsName : List ℕ → Name → Type 0
IsName steps plan_new = Unit {0}
IsName steps plan = Unit {0}
IsName steps (temp job step) = IsStep steps job step
IsName steps (commit job) = job < length steps
IsName steps (fresh part) = part < 4
IsName steps (final part) = part < 4
IsName steps (target job step) = IsStep steps job step

-- a name of such a run in its work folder
abbrev pub IsWorkName : List ℕ → Name → Type 0
IsWorkName steps plan_new = Unit {0}
IsWorkName steps plan = Unit {0}
IsWorkName steps (temp job step) = IsStep steps job step
IsWorkName steps (commit job) = job < length steps
IsWorkName steps (fresh part) = part < 4
IsWorkName steps (final part) = part < 4
IsWorkName steps (target job step) = ⊥

-- a name of the work folder that a clearing start may remove
abbrev pub IsClearable : Name → Type 0
IsClearable plan_new = Unit {0}
IsClearable plan = Unit {0}
IsClearable (temp job step) = Unit {0}
IsClearable (commit job) = Unit {0}
IsClearable (fresh part) = Unit {0}
IsClearable (final part) = ⊥
IsClearable (target job step) = ⊥
