-- Where the outputs of a job come to stand, below the root, and what its links lead to. This project's profile, in the
-- layout of debug files that debuggers look for by build-id (GDB manual, "Debugging Information in Separate Files").
use Rattle.std.specs.Prelude.{ℕ, zero, suc, Bool, not, ◌==◌, ◌&&◌, if◌then◌else◌, List, [], ◌∷◌, ◌++◌, length, take, drop, map, codes}
use Rattle.std.specs.Fmt.{decimal}
use Rattle.std.specs.List.{flat_map}
use Rattle.hex.specs.Hex.{encode_lower}
use Rattle.work_texts.specs.declared.plan.JobLine.{JobLine}
use Rattle.root_paths.specs.Roots.{in_root, base_name}

-- the debug file of the file at a path, and its name, which the stripped file's debug link has
unfoldable pub debug_path : List ℕ → List ℕ
debug_path path = codes "usr/lib/debug/" ++ (path ++ codes ".debug")

unfoldable pub debug_name : List ℕ → List ℕ
debug_name path = base_name path ++ codes ".debug"

-- what tells a file apart from earlier ones with its build-id
abbrev pub suffix : ℕ → List ℕ
suffix zero = []
suffix (suc n) = codes "." ++ decimal (suc n)

-- whether links lead to a job's files: it is split and has a build-id
abbrev pub has_links : JobLine → Bool
has_links job = job.split && not (length job.id == 0)

-- the link to the file: the digits of the build-id's first byte are a folder, those of the others and the suffix a name in it
unfoldable pub file_link : JobLine → List ℕ
file_link job =
    codes "usr/lib/debug/.build-id/" ++ (encode_lower (take 1 job.id) ++ (codes "/" ++ (encode_lower (drop 1 job.id) ++ suffix job.number)))

-- the link to the debug file
unfoldable pub debug_link : JobLine → List ℕ
debug_link job = file_link job ++ codes ".debug"

-- what a link to a path below the root leads to
abbrev pub link_target : List ℕ → List ℕ
link_target path = codes "../../../../../" ++ path

-- the links of a job
abbrev pub links_of : JobLine → List (List ℕ)
links_of job = if has_links job then file_link job ∷ debug_link job ∷ [] else []

-- the new paths that a job makes, in the order of its steps
abbrev pub new_paths_of : JobLine → List (List ℕ)
new_paths_of job = if job.split then debug_path job.path ∷ links_of job else []

-- all its targets: the last is the file itself
abbrev pub targets_of : JobLine → List (List ℕ)
targets_of job = new_paths_of job ++ job.path ∷ []

-- the new paths of a run, as paths of the tree
unfoldable pub new_paths : List ℕ → List JobLine → List (List ℕ)
new_paths root jobs = map (in_root root) (flat_map new_paths_of jobs)
