-- The table of events: when each is allowed, and what it changes.
use Rattle.std.specs.Prelude.{ℕ, suc, Bool, true, false, ◌&&◌, ◌==◌, nat_lt, if◌then◌else◌, List, [], map, length, replicate, get_or, set}
use Rattle.std.specs.List.{list_all}
use Rattle.journal_core.specs.declared.event.Event.{Event}
use Rattle.journal_core.specs.declared.event.Event.TheVariants.{Propose, Adopt, Stage, Settle, Commit, Move, Finish, Close, Clear, Renew, Replace}
use Rattle.journal_core.specs.declared.event.JobState.{JobState}
use Rattle.journal_core.specs.declared.event.JobState.TheVariants.{Fresh, Staged, Ready, Going, Done}
use Rattle.journal_core.specs.declared.event.Phase.{Phase}
use Rattle.journal_core.specs.declared.event.Phase.TheVariants.{Empty, Proposed, Running, Finishing, Closing, Closed, Renewing}

-- what a core holds: its phase, and of each job the number of its steps and its state
pub record CoreState : Type 0 where
  pub phase : Phase
  pub steps : List ℕ
  pub states : List JobState

-- the state of a job. One that isn't there counts as done, so no event of it is allowed
abbrev pub state_of : CoreState → ℕ → JobState
state_of c j = get_or c.states j Done

-- the number of a job's steps
abbrev pub steps_of : CoreState → ℕ → ℕ
steps_of c j = get_or c.steps j 0

-- ### Tests of states and phases

abbrev pub is_fresh : JobState → ℕ → Bool
is_fresh (Fresh staged) k = staged == k
is_fresh Staged k = false
is_fresh Ready k = false
is_fresh (Going moved) k = false
is_fresh Done k = false

abbrev pub is_ready : JobState → Bool
is_ready (Fresh staged) = false
is_ready Staged = false
is_ready Ready = true
is_ready (Going moved) = false
is_ready Done = false

abbrev pub is_going : JobState → ℕ → Bool
is_going (Fresh staged) k = false
is_going Staged k = false
is_going Ready k = false
is_going (Going moved) k = moved == k
is_going Done k = false

abbrev pub is_done : JobState → Bool
is_done (Fresh staged) = false
is_done Staged = false
is_done Ready = false
is_done (Going moved) = false
is_done Done = true

abbrev pub all_done : List JobState → Bool
all_done states = list_all is_done states

abbrev pub is_empty : Phase → Bool
is_empty Empty = true
is_empty (Proposed settled) = false
is_empty Running = false
is_empty (Finishing put settled) = false
is_empty (Closing moved) = false
is_empty Closed = false
is_empty (Renewing put settled) = false

-- the plan is proposed and settled
abbrev pub may_adopt : Phase → Bool
may_adopt Empty = false
may_adopt (Proposed settled) = settled
may_adopt Running = false
may_adopt (Finishing put settled) = false
may_adopt (Closing moved) = false
may_adopt Closed = false
may_adopt (Renewing put settled) = false

abbrev pub is_running : Phase → Bool
is_running Empty = false
is_running (Proposed settled) = false
is_running Running = true
is_running (Finishing put settled) = false
is_running (Closing moved) = false
is_running Closed = false
is_running (Renewing put settled) = false

-- part 0 once all jobs are done, parts 1 to 3 each after the part before it
abbrev pub may_finish : Phase → Bool → ℕ → Bool
may_finish Empty done part = false
may_finish (Proposed settled) done part = false
may_finish Running done part = part == 0 && done
may_finish (Finishing put settled) done part = nat_lt 0 part && nat_lt part 4 && put == part
may_finish (Closing moved) done part = false
may_finish Closed done part = false
may_finish (Renewing put settled) done part = false

-- part 0 once all four are put and settled, parts 1 to 3 each after the part before it
abbrev pub may_close : Phase → ℕ → Bool
may_close Empty part = false
may_close (Proposed settled) part = false
may_close Running part = false
may_close (Finishing put settled) part = part == 0 && settled
may_close (Closing moved) part = nat_lt 0 part && nat_lt part 4 && moved == part
may_close Closed part = false
may_close (Renewing put settled) part = false

abbrev pub is_closed : Phase → Bool
is_closed Empty = false
is_closed (Proposed settled) = false
is_closed Running = false
is_closed (Finishing put settled) = false
is_closed (Closing moved) = false
is_closed Closed = true
is_closed (Renewing put settled) = false

-- an earlier program's finished text may be put anew, also again
abbrev pub may_renew : Phase → Bool
may_renew Empty = false
may_renew (Proposed settled) = false
may_renew Running = false
may_renew (Finishing put settled) = false
may_renew (Closing moved) = false
may_renew Closed = false
may_renew (Renewing put settled) = true

-- and replaced by the new one, which is put and settled
abbrev pub may_replace : Phase → Bool
may_replace Empty = false
may_replace (Proposed settled) = false
may_replace Running = false
may_replace (Finishing put settled) = false
may_replace (Closing moved) = false
may_replace Closed = false
may_replace (Renewing put settled) = put && settled

-- ### The table

-- when an event is allowed
abbrev pub allows : CoreState → Event → Bool
allows c Propose = is_empty c.phase
allows c Adopt = may_adopt c.phase
allows c (Stage job step) = is_running c.phase && is_fresh (state_of c job) step
allows c Settle = true
allows c (Commit job) = is_ready (state_of c job)
allows c (Move job step) = is_going (state_of c job) step
allows c (Finish part) = may_finish c.phase (all_done c.states) part
allows c (Close part) = may_close c.phase part
allows c Clear = is_closed c.phase
allows c Renew = may_renew c.phase
allows c Replace = may_replace c.phase

-- a job of n steps after one more is staged
abbrev pub staged_next : ℕ → ℕ → JobState
staged_next step n = if suc step == n then Staged else Fresh (suc step)

-- a job of n steps after one more is moved
abbrev pub moved_next : ℕ → ℕ → JobState
moved_next step n = if suc step == n then Done else Going (suc step)

-- a settle makes staged jobs ready
abbrev pub settled_job : JobState → JobState
settled_job (Fresh staged) = Fresh staged
settled_job Staged = Ready
settled_job Ready = Ready
settled_job (Going moved) = Going moved
settled_job Done = Done

-- and settles a proposed plan, and the four texts of the end once all are put
abbrev pub settled_phase : Phase → Phase
settled_phase Empty = Empty
settled_phase (Proposed settled) = Proposed true
settled_phase Running = Running
settled_phase (Finishing put settled) = Finishing put (if put == 4 then true else settled)
settled_phase (Closing moved) = Closing moved
settled_phase Closed = Closed
settled_phase (Renewing put settled) = Renewing put (if put then true else settled)

-- the phase after a part of the end is at its name
abbrev pub closed_next : ℕ → Phase
closed_next part = if part == 3 then Closed else Closing (suc part)

abbrev pub in_phase : CoreState → Phase → CoreState
in_phase c p = record { phase = p; steps = c.steps; states = c.states }

abbrev pub with_state : CoreState → ℕ → JobState → CoreState
with_state c j s = record { phase = c.phase; steps = c.steps; states = set c.states j s }

-- what an event changes, where it is allowed
abbrev pub after : CoreState → Event → CoreState
after c Propose = in_phase c (Proposed false)
after c Adopt = in_phase c Running
after c (Stage job step) = with_state c job (staged_next step (steps_of c job))
after c Settle = record { phase = settled_phase c.phase; steps = c.steps; states = map settled_job c.states }
after c (Commit job) = with_state c job (Going 0)
after c (Move job step) = with_state c job (moved_next step (steps_of c job))
after c (Finish part) = in_phase c (Finishing (suc part) false)
after c (Close part) = in_phase c (closed_next part)
after c Clear = c
after c Renew = in_phase c (Renewing true false)
after c Replace = in_phase c Closed

-- the core after an event is tried: the next one where it is allowed, and else the same
abbrev pub next_of : CoreState → Event → CoreState
next_of c e = if allows c e then after c e else c

-- ### Where a core starts

-- before the plan is put
abbrev pub new_core : List ℕ → CoreState
new_core steps = record { phase = Empty; steps = steps; states = replicate (length steps) (Fresh 0) }

-- under a plan of an earlier start
abbrev pub resumed_core : List ℕ → List JobState → CoreState
resumed_core steps states = record { phase = Running; steps = steps; states = states }

-- of a run that is finished; it has no jobs
abbrev pub closed_core : CoreState
closed_core = record { phase = Closed; steps = []; states = [] }

-- of a run that an earlier program finished; it has no jobs, either
abbrev pub old_core : CoreState
old_core = record { phase = Renewing false false; steps = []; states = [] }
