-- The core that a start begins with: the one that the marks of a shape show.
use Rattle.std.specs.Prelude.{◌≡◌, ◌≢◌, ℕ, zero, suc, ◌<◌, if◌then◌else◌, List, map, length, get_or, IsTrue}
use Rattle.std.specs.List.{range_with_len}
use Rattle.journal_core.specs.declared.event.JobState.{JobState}
use Rattle.journal_core.specs.declared.event.JobState.TheVariants.{Fresh, Going, Done}
use Rattle.journal_core.specs.declared.event.Event.TheVariants.{Settle}
use Rattle.journal_core.specs.Names.{Name, EachHasStep, IsWorkName}
use Rattle.journal_core.specs.Fit.{AreFit}
use Rattle.journal_core.specs.Table.{CoreState, new_core, resumed_core, closed_core, old_core, after}
use Rattle.journal_core.specs.Marks.{Mark, Marking, mark, absent, is_any, is_loose, is_earlier}
use Rattle.journal_core.specs.Shapes.{none_there, IsUnplanned, IsUnderway, IsFinished, IsOld, HasShape}

-- a job of n steps: not committed, so nothing of it counts as staged; committed, with a least
-- temporary name; or committed with none left
pub data JobShown (n : ℕ) (commit : Mark) (temp : ℕ → Mark) : JobState → Type 0 where
  anew : commit ≡ absent → JobShown n commit temp (Fresh 0)
  going : IsTrue (is_any commit) → (least : ℕ) → least < n
      → temp least ≢ absent → ((k : ℕ) → k < least → temp k ≡ absent)
      → JobShown n commit temp (Going least)
  done : IsTrue (is_any commit) → ((k : ℕ) → k < n → temp k ≡ absent) → JobShown n commit temp Done

abbrev pub EachShown : List ℕ → List JobState → Marking → Type 0
EachShown steps states m = (j : ℕ) → j < length steps
    → JobShown (get_or steps j 0) (m.commit j) (m.temp j) (get_or states j Done)

-- a marking of one of the shapes, and the core that it shows
pub data Shown (steps : List ℕ) (m : Marking) : CoreState → Type 0 where
  unplanned : IsUnplanned steps m
      → Shown steps m (new_core steps)
  underway : {ss : List JobState} → IsUnderway steps m → length ss ≡ length steps → EachShown steps ss m
      → Shown steps m (resumed_core steps ss)
  finished : IsFinished steps m
      → Shown steps m closed_core
  old : IsOld steps m
      → Shown steps m old_core

-- ### Every shape shows one core

-- the least of the first n that is there, asked only where one is
abbrev pub least_there : (ℕ → Mark) → ℕ → ℕ
least_there temp zero = 0
least_there temp (suc n) = if none_there temp n then n else least_there temp n

-- the state that a job of n steps shows
abbrev pub shown_state : ℕ → Mark → (ℕ → Mark) → JobState
shown_state n commit temp =
    if is_any commit
    then (if none_there temp n then Done else Going (least_there temp n))
    else Fresh 0

-- the states that the jobs show
abbrev pub shown_states : List ℕ → Marking → List JobState
shown_states steps m = map (λ j. shown_state (get_or steps j 0) (m.commit j) (m.temp j)) (range_with_len 0 (length steps))

-- the one core that a marking of a shape shows
abbrev pub shown_core : List ℕ → Marking → CoreState
shown_core steps m =
    if is_any (m.final 3)
    then (if is_earlier (m.final 3) then old_core else closed_core)
    else (if is_any m.plan then resumed_core steps (shown_states steps m) else new_core steps)

pub record ShowsOne (steps : List ℕ) (m : Marking) : Type 0 where
  pub shown : Shown steps m (shown_core steps m)
  pub only : (other : CoreState) → Shown steps m other → other ≡ shown_core steps m

abbrev pub EveryShapeShown : Type 0
EveryShapeShown = (steps : List ℕ) (m : Marking) → HasShape steps m → ShowsOne steps m

-- a settle changes nothing of such a core
abbrev pub EveryShownSettled : Type 0
EveryShownSettled = (steps : List ℕ) (m : Marking) (c : CoreState) → Shown steps m c → after c Settle ≡ c

-- and the states that a plan's names show fit its jobs
abbrev pub EveryShownFit : Type 0
EveryShownFit = (steps : List ℕ) (m : Marking) → EachHasStep steps → IsUnderway steps m → AreFit steps (shown_states steps m)

-- ### What is shown hangs on which names are there

-- two marks of a name that is there in both, or in neither
pub data AreAlike (x y : Mark) : Type 0 where
  both_gone : x ≡ absent → y ≡ absent → AreAlike x y
  both_there : IsTrue (is_any x) → IsTrue (is_any y) → AreAlike x y

-- the same names of the work folder show the same core
abbrev pub EverySameShown : Type 0
EverySameShown = (steps : List ℕ) (m n : Marking)
    → ((x : Name) → IsWorkName steps x → AreAlike (mark m x) (mark n x))
    → is_earlier (m.final 3) ≡ is_earlier (n.final 3)
    → shown_core steps m ≡ shown_core steps n

-- in a shape each of them is there or not, and holds nothing from before the run
abbrev pub EveryWorkOwn : Type 0
EveryWorkOwn = (steps : List ℕ) (m : Marking) (x : Name) → HasShape steps m → IsWorkName steps x → IsTrue (is_loose (mark m x))
