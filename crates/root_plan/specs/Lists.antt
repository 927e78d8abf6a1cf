-- The three lists that a run leaves in its work folder. This project's profile: each name is ended by a NUL, and a path
-- begins with a slash, which stands for the root.
use Rattle.std.specs.Prelude.{ℕ, List, [], ◌∷◌, if◌then◌else◌}
use Rattle.std.specs.List.{flat_map}
use Rattle.dw_base.specs.Texts.{laid_texts}
use Rattle.work_texts.specs.declared.plan.JobLine.{JobLine}
use Rattle.root_plan.specs.Targets.{debug_path, file_link, debug_link, link_target, has_links}

-- the sources
unfoldable pub source_list : List (List ℕ) → List ℕ
source_list names = laid_texts names

-- the debug files, in the order of the jobs
abbrev pub debug_names_of : JobLine → List (List ℕ)
debug_names_of job = if job.split then (47 ∷ debug_path job.path) ∷ [] else []

unfoldable pub debug_file_list : List JobLine → List ℕ
debug_file_list jobs = laid_texts (flat_map debug_names_of jobs)

-- the links, each with what it leads to, in the order of the jobs, the link to the file first
abbrev pub link_names_of : JobLine → List (List ℕ)
link_names_of job =
    if has_links job
    then (47 ∷ file_link job) ∷ link_target job.path ∷ (47 ∷ debug_link job) ∷ link_target (debug_path job.path) ∷ []
    else []

unfoldable pub link_list : List JobLine → List ℕ
link_list jobs = laid_texts (flat_map link_names_of jobs)
