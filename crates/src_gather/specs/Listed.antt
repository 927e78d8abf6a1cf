-- The sources that a run listed, and which of them are gathered from a folder. This project's profile: a list of sources holds names
-- that are each ended by a NUL; what follows the last NUL is a name as well.
use Rattle.std.specs.Prelude.{◌≡◌, ◌≢◌, ◌==◌, ◌++◌, ◌∷◌, ℕ, Bool, true, false, List, [], Option, Contains}
use Rattle.std.specs.List.{slice_split}
use Rattle.file_tree.specs.declared.node.Found.{Found}
use Rattle.file_tree.specs.declared.node.Found.TheVariants as found
use Rattle.file_tree.specs.Trees.{TreeMap}
use Rattle.file_tree.specs.Causes.{Stood, AreInOrder}
use Rattle.journal_core.specs.Names.{final}
use Rattle.work_texts.specs.Rules.{is_job_path, text_limit}
use Rattle.work_journal.specs.Work.{work_path}
use Rattle.root_paths.specs.Roots.{work_folder}
use Rattle.root_plan.specs.Tallies.{with_source}

-- ### Names

-- what stands between the NULs of a list, empty pieces too
abbrev pub pieces : List ℕ → List (List ℕ)
pieces bytes = slice_split (λ b. b == 0) bytes

-- the names of a list: its pieces without the empty one, in byte order, each once
pub record AreNames (bytes : List ℕ) (names : List (List ℕ)) : Type 0 where
  pub in_order : AreInOrder names
  pub listed : (name : List ℕ) → Contains names name → Contains (pieces bytes) name
  pub some : (name : List ℕ) → Contains names name → name ≢ []
  pub all : (name : List ℕ) → Contains (pieces bytes) name → name ≢ [] → Contains names name

-- the names with a piece more, at its place in byte order; an empty piece is none
abbrev pub with_piece : List (List ℕ) → List ℕ → List (List ℕ)
with_piece names [] = names
with_piece names (b ∷ bs) = with_source names (b ∷ bs)

abbrev pub with_pieces : List (List ℕ) → List (List ℕ) → List (List ℕ)
with_pieces names [] = names
with_pieces names (piece ∷ rest) = with_pieces (with_piece names piece) rest

-- a name that a file could have below a folder: it is plain and UTF-8
abbrev pub is_fit : List ℕ → Bool
is_fit name = is_job_path name

-- ### Paths

-- the folder of the copies, by the root and the destination below it, which begins with a slash
abbrev pub copy_folder : List ℕ → List ℕ → List ℕ
copy_folder root dest = root ++ dest

-- the text that tells that the run over the root is done, and the run's list of sources
abbrev pub end_path : List ℕ → List ℕ
end_path root = work_path (work_folder root) (final 3)

abbrev pub list_path : List ℕ → List ℕ
list_path root = work_path (work_folder root) (final 0)

-- ### What stands there

-- no file is there: nothing, a folder, or a link, which isn't followed
abbrev pub is_no_file : Found → Bool
is_no_file found.Absent = true
is_no_file found.Folder = true
is_no_file (found.File bytes mode) = false
is_no_file (found.Link target) = true
is_no_file (found.TooLarge size) = false

-- the bytes of a file that was found
abbrev pub IsBytesOf : Found → List ℕ → Type 0
IsBytesOf found.Absent bytes = ⊥
IsBytesOf found.Folder bytes = ⊥
IsBytesOf (found.File b mode) bytes = bytes ≡ b
IsBytesOf (found.Link target) bytes = ⊥
IsBytesOf (found.TooLarge size) bytes = ⊥

-- a file stands at the path, of whatever length
pub record IsFileAt (old : Option TreeMap) (path : List ℕ) : Type 0 where
  pub limit : ℕ
  pub what : Found
  pub stood : Stood old path limit what
  pub is : is_no_file what ≡ false

-- and none does
pub record IsNoFileAt (old : Option TreeMap) (path : List ℕ) : Type 0 where
  pub limit : ℕ
  pub what : Found
  pub stood : Stood old path limit what
  pub is : is_no_file what ≡ true

-- a file of these bytes, which are no more than may be read
pub record IsRead (old : Option TreeMap) (path bytes : List ℕ) : Type 0 where
  pub mode : ℕ
  pub stood : Stood old path text_limit (found.File bytes mode)

-- a file of more bytes than may be read
pub record IsLarge (old : Option TreeMap) (path : List ℕ) (size : ℕ) : Type 0 where
  pub stood : Stood old path text_limit (found.TooLarge size)

-- the list of a run that is done: its finished text is a file, of whatever bytes, and so is the list, of these
pub record IsListText (old : Option TreeMap) (root bytes : List ℕ) : Type 0 where
  pub done : IsFileAt old (end_path root)
  pub list : IsRead old (list_path root) bytes

-- and its names
pub record IsListOf (old : Option TreeMap) (root : List ℕ) (names : List (List ℕ)) : Type 0 where
  pub bytes : List ℕ
  pub text : IsListText old root bytes
  pub are : AreNames bytes names
