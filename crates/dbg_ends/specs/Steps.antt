-- The steps that commands share: how each may end, and what became of the tree.
use Rattle.std.specs.Prelude.{◌≡◌, ◌≢◌, ◌<◌, ℕ, List, Option, Some, is_some}
use Rattle.std.specs.FinMap as fin
use Rattle.dw_base.specs.declared.fault.Fault.{Fault}
use Rattle.dw_base.specs.declared.fault.Fault.TheVariants.{Refused}
use Rattle.dw_base.specs.declared.fault.Refusal.{Refusal}
use Rattle.file_tree.specs.declared.node.Found.{Found}
use Rattle.file_tree.specs.declared.node.Found.TheVariants as found
use Rattle.file_tree.specs.declared.node.Node.TheVariants as node
use Rattle.file_tree.specs.declared.call.Call.TheVariants as call
use Rattle.file_tree.specs.declared.call.Change.TheVariants as change
use Rattle.file_tree.specs.declared.call.Effect.TheVariants as effect
use Rattle.file_tree.specs.Trees.{TreeMap, stands_at}
use Rattle.file_tree.specs.Moments.{LooksOnly, adds_all}
use Rattle.file_tree.specs.Seen.{Seen, Past, Happened, now_of}
use Rattle.file_tree.specs.Causes.{Rose, Stood, OnlyAt}
use Rattle.dbg_ends.specs.Due.{IsFree}
use Rattle.dbg_ends.specs.declared.end.End.{End}
use Rattle.dbg_ends.specs.declared.end.End.TheVariants as end

-- how the reading of an input ends where it gives no file within the limit; the tree is as it was
pub data InputEnds (path : List ℕ) (limit : ℕ) (old new : Seen) : End → Type 0 where
  absent : Stood (now_of old) path limit found.Absent → InputEnds path limit old new (end.Absent path)
  folder : Stood (now_of old) path limit found.Folder → InputEnds path limit old new (end.Folder path)
  link : {target : List ℕ} → Stood (now_of old) path limit (found.Link target) → InputEnds path limit old new (end.Link path)
  large : {size : ℕ} → limit < size → Stood (now_of old) path limit (found.TooLarge size) → InputEnds path limit old new (end.Limit path size)
  failed : Rose old.faults new.faults → InputEnds path limit old new end.TreeFault
  memory : InputEnds path limit old new end.NoMemory

-- how it ends by what was found at the path
pub data FoundEnds (path : List ℕ) : Found → End → Type 0 where
  absent : FoundEnds path found.Absent (end.Absent path)
  folder : FoundEnds path found.Folder (end.Folder path)
  link : {target : List ℕ} → FoundEnds path (found.Link target) (end.Link path)
  large : {size : ℕ} → FoundEnds path (found.TooLarge size) (end.Limit path size)
  memory : {what : Found} → FoundEnds path what end.NoMemory

-- the end of a fault of the file at a path: its refusal, or want of memory
pub data FaultEnds (path : List ℕ) : Fault → End → Type 0 where
  refused : {r : Refusal} → FaultEnds path (Refused r) (end.Refused path r)
  memory : {f : Fault} → FaultEnds path f end.NoMemory

-- the file at a path is refused, and this holds of the refusal; or memory is wanting
pub data BlamesAt (fails : Refusal → Type 0) (path : List ℕ) : End → Type 0 where
  refused : {r : Refusal} → fails r → BlamesAt fails path (end.Refused path r)
  memory : BlamesAt fails path end.NoMemory

-- how the look at an output's path ends where no file may be put there; the tree is as it was. It is read with limit 0,
-- so that of a file that is there no bytes are taken
pub data OutputTaken (path : List ℕ) (old new : Seen) : End → Type 0 where
  folder : Stood (now_of old) path 0 found.Folder → OutputTaken path old new (end.Taken path)
  link : {target : List ℕ} → Stood (now_of old) path 0 (found.Link target) → OutputTaken path old new (end.Taken path)
  failed : Rose old.faults new.faults → OutputTaken path old new end.TreeFault
  memory : OutputTaken path old new end.NoMemory

-- how it ends by what was found there
pub data WayEnds (path : List ℕ) : Found → End → Type 0 where
  folder : WayEnds path found.Folder (end.Taken path)
  link : {target : List ℕ} → WayEnds path (found.Link target) (end.Taken path)
  memory : {what : Found} → WayEnds path what end.NoMemory

-- where the tree tells, a file may be put at the path
pub record OutputFree (old : Option TreeMap) (path : List ℕ) : Type 0 where
  pub is : (t : TreeMap) → old ≡ Some t → IsFree (stands_at t path 0)

-- how the writing of an output ends where it isn't done; its path holds anything or nothing, and all else is as it was
pub data OutputEnds (path : List ℕ) (old new : Seen) : End → Type 0 where
  failed : Rose old.faults new.faults → OnlyAt path (now_of old) (now_of new) → OutputEnds path old new end.TreeFault
  memory : OnlyAt path (now_of old) (now_of new) → OutputEnds path old new end.NoMemory

-- the two paths hold anything or nothing, and all else stays
pub record OnlyAtBoth (path beside : List ℕ) (old new : Option TreeMap) : Type 0 where
  pub tells : is_some new ≡ is_some old
  pub others : (t u : TreeMap) (q : List ℕ) → old ≡ Some t → new ≡ Some u → q ≢ path → q ≢ beside → fin.get u q ≡ fin.get t q

-- how the writing of two outputs ends where it isn't done; their paths hold anything or nothing, and all else is as it was
pub data OutputsEnd (path beside : List ℕ) (old new : Seen) : End → Type 0 where
  failed : Rose old.faults new.faults → OnlyAtBoth path beside (now_of old) (now_of new) → OutputsEnd path beside old new end.TreeFault
  memory : OnlyAtBoth path beside (now_of old) (now_of new) → OutputsEnd path beside old new end.NoMemory

-- a call set a path to a file
abbrev pub file_put : List ℕ → List ℕ → ℕ → Happened
file_put path bytes mode = record { call = call.Put path; effect = effect.Changed (change.Put path (node.File bytes mode)) }

-- a call stored all changes
abbrev pub all_stored : Happened
all_stored = record { call = call.Settle; effect = effect.Settled }

-- the tree was looked at, and then these calls were made, in this order
pub record LooksThen (old new : Past) (calls : List Happened) : Type 0 where
  pub mid : Past
  pub looks : LooksOnly old mid
  pub behind : new ≡ adds_all mid calls
