-- Calls of a tree that lead a core from one state to another, and what they do to a run.
use Rattle.std.specs.Prelude.{◌≡◌, ℕ, List, [], ◌∷◌, ◌++◌, map, ◌≤◌, true, Result, OnOk, IsErrOf, IsTrue}
use Rattle.file_tree.specs.declared.call.Call.{Call}
use Rattle.file_tree.specs.declared.call.Call.TheVariants as call
use Rattle.file_tree.specs.Causes.{Rose}
use Rattle.file_tree.specs.Seen.{Past, Happened, Seen}
use Rattle.file_tree.specs.Images.{state_of, LeavesOnly}
use Rattle.journal_core.specs.declared.event.Event.{Event}
use Rattle.journal_core.specs.declared.event.Event.TheVariants.{Settle}
use Rattle.journal_core.specs.Table.{CoreState, allows, after}
use Rattle.journal_core.specs.Names.{Name}
use Rattle.journal_core.specs.Calls.{Puts, Moves}
use Rattle.work_journal.specs.Spares.{Spares}
use Rattle.work_journal.specs.Work.{work_path}
use Rattle.work_journal.specs.Wanted.{Wanted, IsApart, IsWork, IsPartway}
use Rattle.work_journal.specs.Keeps.{MaySweep, Keeps}

-- one call: a look or a sweep leaves the core, a settle is the core's, and a put or a rename is an event
-- that is allowed, of the name that the event has in the work folder
pub data RunsOne (work : List ℕ) : CoreState → Call → CoreState → Type 0 where
  lists : {c : CoreState} {folder : List ℕ} → RunsOne work c (call.List folder) c
  reads : {c : CoreState} {path : List ℕ} → RunsOne work c (call.Read path) c
  settles : {c : CoreState} → RunsOne work c call.Settle (after c Settle)
  puts : {c : CoreState} (e : Event) (n : Name) → Puts e n → IsTrue (allows c e) → RunsOne work c (call.Put (work_path work n)) (after c e)
  renames : {c : CoreState} (e : Event) (a b : Name) (to : List ℕ) → Moves e a b → IsTrue (allows c e) → RunsOne work c (call.Rename (work_path work a) to) (after c e)
  removes : {c : CoreState} (q : List ℕ) → MaySweep work c q → RunsOne work c (call.Remove q) c

-- one after the other
pub data Runs (work : List ℕ) : CoreState → List Call → CoreState → Type 0 where
  none : {c : CoreState} → Runs work c [] c
  more : {c d e : CoreState} {k : Call} {ks : List Call} → RunsOne work c k d → Runs work d ks e → Runs work c (k ∷ ks) e

-- the calls between two moments run, and where all went well they lead to this core
pub record Ran {A E : Type 0} (work : List ℕ) (c : CoreState) (old : Past) (d : CoreState) (new : Past) (result : Result A E) : Type 0 where
  pub rest : List Happened
  pub last : CoreState
  pub first : new.first ≡ old.first
  pub log : new.log ≡ old.log ++ rest
  pub runs : Runs work c (map (λ h. h.call) rest) last
  pub ends : OnOk result (last ≡ d)

-- files are wanted that are of this work folder
pub record IsGiven (w : Wanted) (work : List ℕ) : Type 0 where
  pub work_is : w.work ≡ work
  pub apart : IsApart w
  pub is_work : IsWork w

-- what calls do to a run: they run; and for wanted files of which `may` holds, where the core and the tree agree
-- before, each stop leaves the run partway, and where all went well they agree after
pub record Goes {A E : Type 0} (work : List ℕ) (may : Wanted → Type 0) (c : CoreState) (old : Past) (d : CoreState) (new : Past) (result : Result A E) : Type 0 where
  pub ran : Ran work c old d new result
  pub moments : (w : Wanted) → IsGiven w work → may w → Keeps w c (state_of old) → LeavesOnly (IsPartway w) old new
  pub keeps : (w : Wanted) → IsGiven w work → may w → Keeps w c (state_of old) → OnOk result (Keeps w d (state_of new))

-- what a function did with a desk's tree and core: whether the tree tells is as before, it answers this fault only
-- where the tree's count of faults rose, it changes these paths alone and settles at most so many times, and its
-- calls go on
pub record Came {A E : Type 0} (fault : E) (hits : List ℕ → Type 0) (settles : ℕ) (work : List ℕ) (may : Wanted → Type 0) (c : CoreState) (old : Seen) (d : CoreState) (new : Seen) (result : Result A E) : Type 0 where
  pub tells : new.tells ≡ old.tells
  pub later : old.faults ≤ new.faults
  pub failed : IsErrOf result fault → Rose old.faults new.faults
  pub spares : Spares hits settles old new
  pub goes : old.tells ≡ true → Goes work may c old.past d new.past result
