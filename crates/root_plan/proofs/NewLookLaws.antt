-- Looks at the new paths of jobs, job by job.
use Rattle.std.proofs.Common.{◌≡◌, ℕ, ◌+◌, ◌≤◌, ◌<◌, List, [], ◌++◌, length, drop, get_or, refl}
use Rattle.std.specs.List.{flat_map}
use Rattle.file_tree.specs.Seen.{Seen}
use Rattle.work_texts.specs.declared.plan.JobLine.{JobLine}
use Rattle.root_paths.specs.Looks.{Looked, LookedAt}
use Rattle.root_paths.proofs.EachLookLaws.{each_at, each_none, each_then}
use Rattle.root_paths.proofs.LookLaws.{looked_none, looked_then}
use Rattle.root_plan.specs.Targets.{new_paths}
use Rattle.root_plan.proofs.TargetLaws.{item_more, paths_done, paths_in}

-- those of so many jobs
pub record JobsLooked (root : List ℕ) (jobs : List JobLine) (old new : Seen) (n : ℕ) : Type 0 where
  pub looked : Looked old new
  pub paths : List (List ℕ)
  pub each : LookedAt old new paths
  pub rest : paths ++ flat_map (paths_in root) (drop n jobs) ≡ flat_map (paths_in root) jobs

pub jobs_none : (root : List ℕ) (jobs : List JobLine) (s : Seen) → JobsLooked root jobs s s 0
jobs_none root jobs s = record { looked = looked_none s; paths = []; each = each_none s; rest = refl }

pub jobs_more : (root : List ℕ) (jobs : List JobLine) (i : ℕ) (job : JobLine) (a b c : Seen) → i < length jobs → job ≡ get_or jobs i job → JobsLooked root jobs a b i → Looked b c
    → LookedAt b c (paths_in root job) → JobsLooked root jobs a c (i + 1)
jobs_more root jobs i job a b c l is so looked each = record {
  looked = looked_then a b c so.looked looked;
  paths = so.paths ++ paths_in root job;
  each = each_then a b c so.paths (paths_in root job) so.looked.tells so.each each;
  rest = item_more (paths_in root) jobs i job so.paths (so.paths ++ paths_in root job) (flat_map (paths_in root) jobs) l is refl so.rest;
}

pub jobs_all : (root : List ℕ) (jobs : List JobLine) (i : ℕ) (a b : Seen) → length jobs ≤ i → JobsLooked root jobs a b i → LookedAt a b (new_paths root jobs)
jobs_all root jobs i a b le so = each_at a b so.paths (new_paths root jobs) (paths_done root jobs i so.paths le so.rest) so.each
