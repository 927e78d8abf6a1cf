-- Which name an event puts or renames, one for one, and what the relation says of these and of targets.
use Rattle.std.specs.Prelude.{◌≡◌, ℕ, Bool, true, false, IsTrue, List}
use Rattle.journal_core.specs.declared.event.Event.{Event}
use Rattle.journal_core.specs.declared.event.Event.TheVariants.{Propose, Adopt, Stage, Commit, Move, Finish, Close, Renew, Replace}
use Rattle.journal_core.specs.declared.event.Phase.TheVariants.{Renewing}
use Rattle.journal_core.specs.declared.event.JobState.{JobState}
use Rattle.journal_core.specs.declared.event.JobState.TheVariants.{Fresh, Staged, Ready, Going, Done}
use Rattle.journal_core.specs.Names.{Name, IsStep, plan_new, plan, temp, commit, fresh, final, target, IsName}
use Rattle.journal_core.specs.Table.{CoreState, allows, in_phase, state_of}
use Rattle.journal_core.specs.Marks.{Mark, Marking, mark, marked, absent, first, whole}
use Rattle.journal_core.specs.Relation.{Shows}

-- the event puts the name
pub data Puts : Event → Name → Type 0 where
  puts_plan : Puts Propose plan_new
  puts_step : {job step : ℕ} → Puts (Stage job step) (temp job step)
  puts_mark : {job : ℕ} → Puts (Commit job) (commit job)
  puts_text : {part : ℕ} → Puts (Finish part) (fresh part)
  puts_again : Puts Renew (fresh 3)

-- the event renames the first name to the second
pub data Moves : Event → Name → Name → Type 0 where
  moves_plan : Moves Adopt plan_new plan
  moves_step : {job step : ℕ} → Moves (Move job step) (temp job step) (target job step)
  moves_text : {part : ℕ} → Moves (Close part) (fresh part) (final part)
  moves_again : Moves Replace (fresh 3) (final 3)

-- what an allowed event puts is a name of the run
abbrev pub EveryPutNamed : Type 0
EveryPutNamed = (p : Mark → Bool) (steps : List ℕ) (c : CoreState) (m : Marking) (e : Event) (n : Name)
    → Shows p steps c m → Puts e n → IsTrue (allows c e) → IsName steps n

-- both names of an allowed rename
pub record AreNames (steps : List ℕ) (from to : Name) : Type 0 where
  pub from_name : IsName steps from
  pub to_name : IsName steps to

abbrev pub EveryMoveNamed : Type 0
EveryMoveNamed = (p : Mark → Bool) (steps : List ℕ) (c : CoreState) (m : Marking) (e : Event) (from to : Name)
    → Shows p steps c m → Moves e from to → IsTrue (allows c e) → AreNames steps from to

-- what an allowed event renames is whole, in every reading
abbrev pub EverySourceWhole : Type 0
EverySourceWhole = (p : Mark → Bool) (steps : List ℕ) (c : CoreState) (m : Marking) (e : Event) (from to : Name)
    → Shows p steps c m → Moves e from to → IsTrue (allows c e) → mark m from ≡ whole

-- the core before a put; that of a text that is put anew is the one in which it isn't put
abbrev pub before_put : CoreState → Event → CoreState
before_put c Renew = in_phase c (Renewing false false)
before_put c e = c

-- where the name of an allowed put is left with nothing, the core before it is shown
abbrev pub EveryPutUndone : Type 0
EveryPutUndone = (p : Mark → Bool) (steps : List ℕ) (c : CoreState) (m : Marking) (e : Event) (n : Name)
    → Shows p steps c m → Puts e n → IsTrue (allows c e) → Shows p steps (before_put c e) (marked m n absent)

-- a job that isn't committed
abbrev pub is_uncommitted : JobState → Bool
is_uncommitted (Fresh staged) = true
is_uncommitted Staged = true
is_uncommitted Ready = true
is_uncommitted (Going moved) = false
is_uncommitted Done = false

-- has its targets as they were at first
abbrev pub EveryUncommittedOld : Type 0
EveryUncommittedOld = (p : Mark → Bool) (steps : List ℕ) (c : CoreState) (m : Marking) (j k : ℕ)
    → Shows p steps c m → IsStep steps j k → IsTrue (is_uncommitted (state_of c j)) → m.target j k ≡ first
