-- What the calls of a tree answer and why: causes of errors, what a read or a list was told by, what else stays.
use Rattle.std.specs.Prelude.{◌≡◌, ◌≢◌, ◌+◌, ◌-◌, ◌^◌, ◌≤◌, ◌<◌, ℕ, List, length, min, IsErrOf, is_some, ⊤}
use Rattle.std.specs.Prelude.{Option, Some, Result, option_map}
use Rattle.std.specs.Ordering.{nat_cmp}
use Rattle.std.specs.Cmp.Lexicographic.{slice_cmp}
use Rattle.std.specs.List.Sorted.{IsStrictlySortedBy}
use Rattle.std.specs.FinMap as fin
use Rattle.file_tree.specs.declared.node.Node.{Node}
use Rattle.file_tree.specs.declared.node.TreeErr.{TreeErr}
use Rattle.file_tree.specs.declared.node.TreeErr.TheVariants.{Failed, NoMemory}
use Rattle.file_tree.specs.declared.node.Found.{Found}
use Rattle.file_tree.specs.declared.node.Found.TheVariants as found
use Rattle.file_tree.specs.declared.node.Listed.{Listed}
use Rattle.file_tree.specs.declared.node.Listed.TheVariants as listed
use Rattle.file_tree.specs.declared.call.Call.{Call}
use Rattle.file_tree.specs.declared.call.Change.TheVariants as change
use Rattle.file_tree.specs.declared.call.Effect.{Effect}
use Rattle.file_tree.specs.declared.call.Effect.TheVariants as effect
use Rattle.file_tree.specs.Trees.{TreeMap, stands_at, listed_at}
use Rattle.file_tree.specs.Seen.{Seen, Past, adds, now_of}

-- a count of faults rose; one that stands at its end counts as risen
abbrev pub Rose : ℕ → ℕ → Type 0
Rose before now = min (before + 1) (2 ^ 64 - 1) ≤ now

-- a call fails only where the count of faults rose in it, and want of memory changes nothing
pub record HasCause {T : Type 0} (old new : Seen) (result : Result T TreeErr) : Type 0 where
  pub later : old.faults ≤ new.faults
  pub failed : IsErrOf result Failed → Rose old.faults new.faults
  pub no_memory : IsErrOf result NoMemory → new ≡ old

-- the map is as it was
pub record Calm (old new : Seen) : Type 0 where
  pub now : now_of new ≡ now_of old
  pub later : old.faults ≤ new.faults

-- where the tree tells, this stood at the path
pub record Stood (old : Option TreeMap) (path : List ℕ) (limit : ℕ) (what : Found) : Type 0 where
  pub is : (t : TreeMap) → old ≡ Some t → stands_at t path limit ≡ what

-- where the tree tells, these paths lay below the folder
pub record Lay (old : Option TreeMap) (folder : List ℕ) (limit : ℕ) (what : Listed) : Type 0 where
  pub is : (t : TreeMap) → old ≡ Some t → listed_at t folder limit ≡ what

-- a file that was read is within the limit, and one that wasn't is above it
abbrev pub IsWithin : ℕ → Found → Type 0
IsWithin limit found.Absent = ⊤
IsWithin limit found.Folder = ⊤
IsWithin limit (found.File bytes mode) = length bytes ≤ limit
IsWithin limit (found.Link target) = ⊤
IsWithin limit (found.TooLarge size) = limit < size

-- paths in byte order, each once
abbrev pub AreInOrder : List (List ℕ) → Type 0
AreInOrder paths = IsStrictlySortedBy (slice_cmp nat_cmp) paths

pub record AreListed (limit : ℕ) (paths : List (List ℕ)) : Type 0 where
  pub in_order : AreInOrder paths
  pub few : length paths ≤ limit

-- paths in byte order, each once, and at most as many as the limit; never too many for the greatest limit
abbrev pub IsListed : ℕ → Listed → Type 0
IsListed limit (listed.Paths paths) = AreListed limit paths
IsListed limit listed.TooMany = limit < 2 ^ 64 - 1

-- the path holds anything or nothing, and all else stays
pub record OnlyAt (path : List ℕ) (old new : Option TreeMap) : Type 0 where
  pub tells : is_some new ≡ is_some old
  pub others : (t u : TreeMap) (q : List ℕ) → old ≡ Some t → new ≡ Some u → q ≢ path → fin.get u q ≡ fin.get t q

-- the change is made or not, and all else stays
pub data MadeOrNot (change : TreeMap → TreeMap) (old new : Option TreeMap) : Type 0 where
  made : new ≡ option_map change old → MadeOrNot change old new
  not_made : new ≡ old → MadeOrNot change old new

-- what a put of the path does where it fails
pub data PutFails (path : List ℕ) : Effect → Type 0 where
  put_nothing : PutFails path effect.Same
  put_anything : (n : Node) → PutFails path (effect.Changed (change.Put path n))
  put_taken : PutFails path (effect.Changed (change.Take path))

-- what a rename does where it fails
pub data MoveFails (from to : List ℕ) : Effect → Type 0 where
  move_nothing : MoveFails from to effect.Same
  move_made : MoveFails from to (effect.Changed (change.Move from to))

-- what a removal does where it fails
pub data TakeFails (path : List ℕ) : Effect → Type 0 where
  take_nothing : TakeFails path effect.Same
  take_made : TakeFails path (effect.Changed (change.Take path))

-- the call is the past's next entry, with one of these effects
pub record Fails (old new : Past) (call : Call) (may : Effect → Type 0) : Type 0 where
  pub effect : Effect
  pub can : may effect
  pub past : new ≡ adds old call effect
