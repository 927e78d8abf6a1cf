-- Calls of a tree as steps of the core, and what they keep: the relation of a core and a tree's moment.
use Rattle.std.specs.Prelude.{◌≡◌, ◌≢◌, ℕ, ◌<◌, Bool, List, IsTrue}
use Rattle.file_tree.specs.declared.call.Call.{Call}
use Rattle.file_tree.specs.declared.call.Call.TheVariants as call
use Rattle.file_tree.specs.declared.call.Change.TheVariants as change
use Rattle.file_tree.specs.declared.call.Effect.TheVariants as effect
use Rattle.file_tree.specs.Trees.{TreeMap, is_below}
use Rattle.file_tree.specs.Seen.{Past, Happened, adds}
use Rattle.file_tree.specs.Causes.{Fails, PutFails, MoveFails, TakeFails}
use Rattle.file_tree.specs.Images.{State, Full, Images, state_of, LeavesOnly}
use Rattle.journal_core.specs.declared.event.Event.{Event}
use Rattle.journal_core.specs.declared.event.Event.TheVariants.{Settle}
use Rattle.journal_core.specs.declared.event.Phase.TheVariants.{Empty, Closed}
use Rattle.journal_core.specs.Table.{CoreState, allows, after}
use Rattle.journal_core.specs.Names.{Name, final}
use Rattle.journal_core.specs.Marks.{Mark, Marking, is_any, is_whole}
use Rattle.journal_core.specs.Relation.{IsNear, Shows}
use Rattle.journal_core.specs.Calls.{Puts, Moves}
use Rattle.work_journal.specs.Work.{work_path}
use Rattle.work_journal.specs.Wanted.{Wanted, path_of, Has, IsPartway}

-- ### One call

-- a path of the work folder that may be taken away: any before there is a plan, and at the end any but
-- the lists and the finished text
pub data MaySweep (work : List ℕ) (c : CoreState) (q : List ℕ) : Type 0 where
  early : c.phase ≡ Empty → IsTrue (is_below work q) → MaySweep work c q
  late : c.phase ≡ Closed → IsTrue (is_below work q) → ((i : ℕ) → i < 4 → q ≢ work_path work (final i)) → MaySweep work c q

-- a call that did what it was to do, by which the core goes on
pub data Does (w : Wanted) : CoreState → Happened → CoreState → Type 0 where
  lists : {c : CoreState} {folder : List ℕ} → Does w c (record { call = call.List folder; effect = effect.Same }) c
  reads : {c : CoreState} {path : List ℕ} → Does w c (record { call = call.Read path; effect = effect.Same }) c
  settles : {c : CoreState} → Does w c (record { call = call.Settle; effect = effect.Settled }) (after c Settle)
  puts : {c : CoreState} (e : Event) (n : Name) → Puts e n → IsTrue (allows c e) → IsNear c e
      → Does w c (record { call = call.Put (path_of w n); effect = effect.Changed (change.Put (path_of w n) (w.node n)) }) (after c e)
  moves : {c : CoreState} (e : Event) (a b : Name) → Moves e a b → IsTrue (allows c e)
      → Does w c (record { call = call.Rename (path_of w a) (path_of w b); effect = effect.Changed (change.Move (path_of w a) (path_of w b)) }) (after c e)
  sweeps : {c : CoreState} (q : List ℕ) → MaySweep w.work c q
      → Does w c (record { call = call.Remove q; effect = effect.Changed (change.Take q) }) c

-- a call that failed, with what it did, or none where memory ran out
pub data Broke (w : Wanted) (c : CoreState) (old new : Past) : Type 0 where
  puts_broke : (e : Event) (n : Name) → Puts e n → IsTrue (allows c e) → IsNear c e
      → Fails old new (call.Put (path_of w n)) (PutFails (path_of w n)) → Broke w c old new
  moves_broke : (e : Event) (a b : Name) → Moves e a b → IsTrue (allows c e)
      → Fails old new (call.Rename (path_of w a) (path_of w b)) (MoveFails (path_of w a) (path_of w b)) → Broke w c old new
  sweeps_broke : (q : List ℕ) → MaySweep w.work c q → Fails old new (call.Remove q) (TakeFails q) → Broke w c old new
  looks_broke : (k : Call) → new ≡ adds old k effect.Same → Broke w c old new
  nothing_came : new ≡ old → Broke w c old new

-- ### What is kept

-- the tree shows a marking that the core knows, in one reading
pub record Agrees (w : Wanted) (p : Mark → Bool) (c : CoreState) (t : TreeMap) : Type 0 where
  pub marking : Marking
  pub shows : Shows p w.steps c marking
  pub has : Has w marking t

-- the map now agrees exactly, what a stop leaves that keeps all changes agrees as torn, and whatever a stop
-- leaves is partway
pub record Keeps (w : Wanted) (c : CoreState) (s : State) : Type 0 where
  pub exact : Agrees w is_whole c s.now
  pub torn : (u : TreeMap) → Full s.settled s.changes u → Agrees w is_any c u
  pub images : Images (IsPartway w) s

-- calls after which the relation holds as before, and at each moment of which a stop leaves the run partway
pub record Kept (w : Wanted) (old : Past) (d : CoreState) (new : Past) : Type 0 where
  pub moments : LeavesOnly (IsPartway w) old new
  pub keeps : Keeps w d (state_of new)
