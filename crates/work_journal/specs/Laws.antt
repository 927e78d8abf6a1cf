-- The laws that tie the core to a tree: each call keeps the relation, and a call that failed leaves the run partway.
use Rattle.std.specs.Prelude.{◌≡◌, ◌≢◌, ℕ, Bool, ◌<◌, ◌≤◌, ◌^◌, List, length, Some, None, Result, Ok, is_some}
use Rattle.std.specs.FinMap as fin
use Rattle.file_tree.specs.declared.call.Call.{Call}
use Rattle.file_tree.specs.Trees.{TreeMap}
use Rattle.file_tree.specs.Seen.{Past, Happened, Seen, adds}
use Rattle.file_tree.specs.Images.{State, Images, state_after, state_of, settled_state, LeavesOnly}
use Rattle.file_tree.specs.Moments.{LooksOnly}
use Rattle.journal_core.specs.declared.event.Phase.TheVariants.{Closed}
use Rattle.journal_core.specs.Names.{Name, IsStep, IsName, IsWorkName, temp, final, target}
use Rattle.journal_core.specs.Table.{CoreState}
use Rattle.journal_core.specs.Marks.{is_earlier}
use Rattle.journal_core.specs.Starts.{shown_core}
use Rattle.work_journal.specs.Work.{work_path, has_path, presence}
use Rattle.work_texts.specs.declared.key.RunKey.{RunKey}
use Rattle.work_journal.specs.declared.opening.Opened.{Opened}
use Rattle.work_journal.specs.Opening.{Opens}
use Rattle.work_journal.specs.Beginning.{core_by, is_old}
use Rattle.work_journal.specs.Wanted.{Wanted, path_of, IsApart, IsWork, IsPartway}
use Rattle.work_journal.specs.Keeps.{Does, Broke, Keeps, Kept}
use Rattle.work_journal.specs.Runs.{Runs, Ran}

abbrev pub EveryCallKept : Type 0
EveryCallKept = (w : Wanted) → IsApart w → IsWork w → (c d : CoreState) (s : State) (x : Happened)
    → Does w c x d → Keeps w c s → Keeps w d (state_after s x.effect)

abbrev pub EveryStepKept : Type 0
EveryStepKept = (w : Wanted) → IsApart w → IsWork w → (c d : CoreState) (p : Past) (x : Happened)
    → Does w c x d → Keeps w c (state_of p) → Kept w p d (adds p x.call x.effect)

abbrev pub EveryFailurePartway : Type 0
EveryFailurePartway = (w : Wanted) → IsApart w → IsWork w → (c : CoreState) (old new : Past)
    → Keeps w c (state_of old) → Broke w c old new → LeavesOnly (IsPartway w) old new

-- ### Looks

-- at each look a stop leaves only trees partway through the run, where it left only such before
abbrev pub EveryLookLeaves : Type 0
EveryLookLeaves = (w : Wanted) (old new : Past) → LooksOnly old new → Images (IsPartway w) (state_of old) → LeavesOnly (IsPartway w) old new

-- the answer of calls that went well
abbrev pub looked : Result (Unit {0}) (Unit {0})
looked = Ok tt

-- looks lead each core to itself
abbrev pub EveryLookRuns : Type 0
EveryLookRuns = (work : List ℕ) (c : CoreState) (old new : Past) → LooksOnly old new → Ran work c old c new looked

-- and what holds at two spans of calls holds at both together
abbrev pub EveryPartJoins : Type 0
EveryPartJoins = (w : Wanted) (old mid new : Past) → LeavesOnly (IsPartway w) old mid → LeavesOnly (IsPartway w) mid new → LeavesOnly (IsPartway w) old new

-- ### Where a run ends, and where it is taken up

-- all outputs and texts of the end are whole, no temporary name is left, and all else is as before the run
pub record IsEnded (w : Wanted) (t : TreeMap) : Type 0 where
  pub outputs : (j k : ℕ) → IsStep w.steps j k → fin.get t (w.output j k) ≡ Some (w.node (target j k))
  pub texts : (i : ℕ) → i < 4 → fin.get t (work_path w.work (final i)) ≡ Some (w.node (final i))
  pub temps : (j k : ℕ) → IsStep w.steps j k → fin.get t (work_path w.work (temp j k)) ≡ None
  pub others : (q : List ℕ) → ((n : Name) → IsName w.steps n → q ≢ path_of w n) → fin.get t q ≡ fin.get w.start q

-- a run whose core is closed has ended
abbrev pub EveryEndWhole : Type 0
EveryEndWhole = (w : Wanted) (c : CoreState) (s : State) → Keeps w c s → c.phase ≡ Closed → IsEnded w s.now

-- whatever a stop left partway can be taken up, by the core that its names show
abbrev pub EveryStartKeeps : Type 0
EveryStartKeeps = (w : Wanted) → IsApart w → (t : TreeMap) (p : IsPartway w t) → Keeps w (shown_core w.steps p.marking) (settled_state t)

-- ### What a list of the work folder shows

-- of the names of the work folder, these paths have those that the tree has
pub record ArePresent (w : Wanted) (t : TreeMap) (paths : List (List ℕ)) : Type 0 where
  pub named : (x : Name) → IsWorkName w.steps x → has_path paths (work_path w.work x) ≡ is_some (fin.get t (work_path w.work x))

-- the core that they show agrees with a tree that a stop left partway, once it is stored; where its finished text is an earlier
-- program's the core is that of one
abbrev pub EveryPresentKeeps : Type 0
EveryPresentKeeps = (w : Wanted) → IsApart w → (t : TreeMap) (p : IsPartway w t) → (paths : List (List ℕ)) → ArePresent w t paths
    → (old : Bool) → is_earlier (p.marking.final 3) ≡ old → Keeps w (shown_core w.steps (presence old w.work paths)) (settled_state t)

-- and it is the one that a start begins with, by what its work folder holds
abbrev pub EveryOpenedShown : Type 0
EveryOpenedShown = (steps work : List ℕ) (paths : List (List ℕ)) (key : RunKey) (seen : Seen) (o : Opened)
    → Opens work paths key seen (Ok o) → core_by o work paths steps ≡ shown_core steps (presence (is_old o) work paths)

-- ### One core alone

-- calls lead the core of a run of at most 2^32 jobs to one core: of the events that it allows, what a call puts or
-- renames is that of one
abbrev pub EveryRunOne : Type 0
EveryRunOne = (work : List ℕ) (c d e : CoreState) (calls : List Call) → length c.states ≤ 2 ^ 32 → Runs work c calls d → Runs work c calls e → d ≡ e
