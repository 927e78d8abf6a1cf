-- The law of every stop: from any shape, after any events that the table allows, a stop leaves a shape.
use Rattle.std.specs.Prelude.{◌≡◌, ℕ, ◌<◌, ◌≤◌, Bool, true, false, if◌then◌else◌, List, [], ◌∷◌, ◌++◌, length, take, IsTrue}
use Rattle.journal_core.specs.declared.event.Event.{Event}
use Rattle.journal_core.specs.declared.event.Event.TheVariants.{Propose, Adopt, Stage, Settle, Commit, Move, Finish, Close, Clear, Renew, Replace}
use Rattle.journal_core.specs.declared.event.Phase.TheVariants.{Proposed, Finishing, Closing, Renewing}
use Rattle.journal_core.specs.Names.{Name, IsStep, EachHasStep}
use Rattle.journal_core.specs.Table.{CoreState, allows, after, state_of}
use Rattle.journal_core.specs.Marks.{Mark, Marking, MarkChange, whole, any, is_any, is_whole, changes_of, all_changed}
use Rattle.journal_core.specs.Shapes.{HasShape}
use Rattle.journal_core.specs.Starts.{Shown}
use Rattle.journal_core.specs.Relation.{IsNear, IsFor, safe, slot, Shows}

-- ### A run from there

-- an event, and the name that it removes if it is a clearing
pub record NamedEvent : Type 0 where
  pub event : Event
  pub name : Name

-- the core; the marks at the last settle; the changes since; and the marks now
pub record World : Type 0 where
  pub core : CoreState
  pub settled : Marking
  pub changes : List MarkChange
  pub now : Marking

abbrev pub begun : CoreState → Marking → World
begun c m = record { core = c; settled = m; changes = []; now = m }

-- an event that isn't a settle
abbrev pub with_changes : World → NamedEvent → World
with_changes v e = record {
  core = after v.core e.event;
  settled = v.settled;
  changes = v.changes ++ changes_of e.event e.name;
  now = all_changed whole v.now (changes_of e.event e.name);
}

abbrev pub with_settle : World → World
with_settle v = record { core = after v.core Settle; settled = v.now; changes = []; now = v.now }

abbrev pub is_settle : Event → Bool
is_settle Propose = false
is_settle Adopt = false
is_settle (Stage job step) = false
is_settle Settle = true
is_settle (Commit job) = false
is_settle (Move job step) = false
is_settle (Finish part) = false
is_settle (Close part) = false
is_settle Clear = false
is_settle Renew = false
is_settle Replace = false

abbrev pub stepped : World → NamedEvent → World
stepped v e = if is_settle e.event then with_settle v else with_changes v e

abbrev pub run : World → List NamedEvent → World
run v [] = v
run v (e ∷ es) = run (stepped v e) es

-- the table allows the event; a staging is near, and a clearing of a name that may be cleared
pub record MayCome (c : CoreState) (e : NamedEvent) : Type 0 where
  pub allowed : IsTrue (allows c e.event)
  pub near : IsNear c e.event
  pub named : IsFor e.event e.name

-- each event may come when it comes
abbrev pub MayRun : World → List NamedEvent → Type 0
MayRun v [] = Unit {0}
MayRun v (e ∷ es) = MayCome v.core e × MayRun (stepped v e) es

-- what a stop leaves that keeps this many of the changes since the last settle: what was put since
-- then may hold anything, also after a rename
abbrev pub stopped : World → ℕ → Marking
stopped v kept = all_changed any v.settled (take kept v.changes)

-- The law. Over any number of jobs, each of at least one step: from any shape, with the core that it
-- shows, after any events that may come, in any interleaving, every stop leaves a shape.
abbrev pub EveryStop : Type 0
EveryStop = (steps : List ℕ) → EachHasStep steps
    → (m : Marking) (c : CoreState) → Shown steps m c
    → (es : List NamedEvent) → MayRun (begun c m) es
    → (kept : ℕ) → kept ≤ length (run (begun c m) es).changes
    → HasShape steps (stopped (run (begun c m) es) kept)

-- What the core counts as settled: the temporary names of a ready job and those that a committed job
-- hasn't moved, a settled plan, the four texts of the end once they are settled, and of these the
-- ones that aren't renamed yet. They are whole.
pub record SettledWhole (steps : List ℕ) (c : CoreState) (m : Marking) : Type 0 where
  pub steps_whole : (j k : ℕ) → IsStep steps j k → slot (state_of c j) k ≡ safe → m.temp j k ≡ whole
  pub plan_whole : c.phase ≡ Proposed true → m.plan_new ≡ whole
  pub texts_whole : (put_parts : ℕ) → c.phase ≡ Finishing put_parts true → (i : ℕ) → i < 4 → m.fresh i ≡ whole
  pub rest_whole : (moved_parts : ℕ) → c.phase ≡ Closing moved_parts → (i : ℕ) → moved_parts ≤ i → i < 4 → m.fresh i ≡ whole
  pub text_whole : c.phase ≡ Renewing true true → m.fresh 3 ≡ whole

-- each stop after such a run leaves them whole: they were put before the last settle
abbrev pub EverySettledWhole : Type 0
EverySettledWhole = (steps : List ℕ) → EachHasStep steps
    → (m : Marking) (c : CoreState) → Shown steps m c
    → (es : List NamedEvent) → MayRun (begun c m) es
    → (kept : ℕ) → kept ≤ length (run (begun c m) es).changes
    → SettledWhole steps (run (begun c m) es).core (stopped (run (begun c m) es) kept)

-- both readings of the relation
pub record ShowsBoth (steps : List ℕ) (v : World) : Type 0 where
  pub now_shown : Shows is_whole steps v.core v.now
  pub torn_shown : Shows is_any steps v.core (all_changed any v.settled v.changes)

-- after such a run the relation holds in both readings
abbrev pub EveryRunShows : Type 0
EveryRunShows = (steps : List ℕ) → EachHasStep steps
    → (m : Marking) (c : CoreState) → Shown steps m c
    → (es : List NamedEvent) → MayRun (begun c m) es
    → ShowsBoth steps (run (begun c m) es)

-- ### What the layer above steps

-- each event but a settle keeps the relation, whatever a name may hold that was put and not settled
abbrev pub EveryEventKept : Type 0
EveryEventKept = (p : Mark → Bool) (x : Mark) → IsTrue (p x) → IsTrue (is_any x)
    → (steps : List ℕ) → EachHasStep steps → (c : CoreState) (m : Marking) (e : Event) (n : Name)
    → Shows p steps c m → IsTrue (allows c e) → IsNear c e → IsFor e n → is_settle e ≡ false
    → Shows p steps (after c e) (all_changed x m (changes_of e n))

-- a settle keeps its exact reading, and that implies every wider one
abbrev pub EverySettleKept : Type 0
EverySettleKept = (steps : List ℕ) (c : CoreState) (m : Marking)
    → Shows is_whole steps c m → Shows is_whole steps (after c Settle) m

abbrev pub WiderShown : Type 0
WiderShown = (p q : Mark → Bool) → ((x : Mark) → IsTrue (p x) → IsTrue (q x))
    → (steps : List ℕ) (c : CoreState) (m : Marking) → Shows p steps c m → Shows q steps c m

-- a shape shows its core in every reading, and what the torn reading shows has a shape
abbrev pub EveryStartShown : Type 0
EveryStartShown = (p : Mark → Bool) (steps : List ℕ) (m : Marking) (c : CoreState)
    → EachHasStep steps → Shown steps m c → Shows p steps c m

abbrev pub EveryTornHasShape : Type 0
EveryTornHasShape = (steps : List ℕ) (c : CoreState) (m : Marking) → Shows is_any steps c m → HasShape steps m
