-- Which status is due, and how far that binds the one that comes.
use Rattle.std.specs.Prelude.{◌≡◌, ℕ, List, ◌⊎◌, ⊤}
use Rattle.file_tree.specs.declared.node.Found.{Found}
use Rattle.file_tree.specs.declared.node.Found.TheVariants as found

-- where P holds the first, elsewhere the second
pub data Where (P A B : Type 0) : Type 0 where
  here : P → A → Where P A B
  elsewhere : (P → ⊥) → B → Where P A B

-- the status that is due of a word that names an input, by what is found there: of a file it is what its bytes are due
abbrev pub InputDue : Found → ℕ → (List ℕ → Type 0) → Type 0
InputDue found.Absent n of_file = n ≡ 4
InputDue found.Folder n of_file = n ≡ 4
InputDue (found.Link target) n of_file = n ≡ 4
InputDue (found.TooLarge size) n of_file = n ≡ 8
InputDue (found.File bytes mode) n of_file = of_file bytes

-- what is at the path of an output is no folder and no symbolic link, so that a file may be put there
abbrev pub IsFree : Found → Type 0
IsFree found.Absent = ⊤
IsFree found.Folder = ⊥
IsFree (found.File bytes mode) = ⊤
IsFree (found.Link target) = ⊥
IsFree (found.TooLarge size) = ⊤

-- the status that is due of a word that names an output, by what is found there: where a file may be put, it is what
-- comes after
abbrev pub OutputDue : Found → ℕ → Type 0 → Type 0
OutputDue found.Absent n after = after
OutputDue found.Folder n after = n ≡ 5
OutputDue (found.File bytes mode) n after = after
OutputDue (found.Link target) n after = n ≡ 5
OutputDue (found.TooLarge size) n after = after

-- statuses that may come in place of the one that is due: of a fault of the tree, and of want of memory
pub data IsCut (n : ℕ) : Type 0 where
  tree_fault : n ≡ 6 → IsCut n
  no_memory : n ≡ 13 → IsCut n

-- statuses that come before anything is written
pub data IsRefusal (n : ℕ) : Type 0 where
  usage : n ≡ 2 → IsRefusal n
  refused : n ≡ 3 → IsRefusal n
  no_file : n ≡ 4 → IsRefusal n
  taken : n ≡ 5 → IsRefusal n
  limit : n ≡ 8 → IsRefusal n
  no_pair : n ≡ 12 → IsRefusal n
  unmatched : n ≡ 15 → IsRefusal n

-- statuses of a run that come before it has a plan, so before it changes anything
pub data IsUnplanned (n : ℕ) : Type 0 where
  usage : n ≡ 2 → IsUnplanned n
  no_file : n ≡ 4 → IsUnplanned n
  taken : n ≡ 5 → IsUnplanned n
  limit : n ≡ 8 → IsUnplanned n
  other_run : n ≡ 9 → IsUnplanned n
  plan_text : n ≡ 11 → IsUnplanned n

-- the status is this one only where it is due, and is it wherever it is due, those aside that may come in its place
pub record Exactly (cut : ℕ → Type 0) (answer status : ℕ) (due : Type 0) : Type 0 where
  pub only : answer ≡ status → due ⊎ cut status
  pub comes : due → (answer ≡ status) ⊎ cut answer
