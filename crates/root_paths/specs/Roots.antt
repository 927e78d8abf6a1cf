-- Paths of a build root, and which files of it may be candidates. This project's profile.
use Rattle.std.specs.Prelude.{ℕ, Bool, not, ◌+◌, ◌==◌, ◌&&◌, if◌then◌else◌, List, [], ◌∷◌, ◌++◌, length, drop, codes, count_by}
use Rattle.std.specs.List.{list_any}
use Rattle.file_tree.specs.Trees.{is_below}

-- the most paths below a root, the most of them outside its work folder, and the longest path, in bytes
abbrev pub most_paths : ℕ
most_paths = 1100000

abbrev pub most_outside : ℕ
most_outside = 200000

abbrev pub longest_path : ℕ
longest_path = 4096

-- a path below the root, as a path of the tree
abbrev pub in_root : List ℕ → List ℕ → List ℕ
in_root root path = root ++ 47 ∷ path

-- a path of the tree, as one below the root
abbrev pub below_root : List ℕ → List ℕ → List ℕ
below_root root path = drop (length root + 1) path

-- the folder of the run's own files, and the folder of debug files
unfoldable pub work_folder : List ℕ → List ℕ
work_folder root = in_root root (codes ".dbgwork")

unfoldable pub debug_folder : List ℕ → List ℕ
debug_folder root = in_root root (codes "usr/lib/debug")

-- whether a path lies outside the work folder, and how many of some paths do
abbrev pub is_outside : List ℕ → List ℕ → Bool
is_outside root path = not (is_below (work_folder root) path)

abbrev pub count_outside : List ℕ → List (List ℕ) → ℕ
count_outside root paths = count_by (is_outside root) paths

-- whether a file at the path is a candidate: it lies below the root, but neither below the work folder nor below that of
-- debug files
unfoldable pub may_be_candidate : List ℕ → List ℕ → Bool
may_be_candidate root path = is_below root path && is_outside root path && not (is_below (debug_folder root) path)

abbrev pub has_slash : List ℕ → Bool
has_slash bytes = list_any (λ b. b == 47) bytes

-- the last component of a path: what stands behind its last slash
abbrev pub base_name : List ℕ → List ℕ
base_name [] = []
base_name (b ∷ bs) = if has_slash (b ∷ bs) then base_name bs else b ∷ bs
