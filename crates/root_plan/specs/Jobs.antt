-- What the jobs of a plan come of: files of the root. What a run knows of a root before it asks for the plan.
use Rattle.std.specs.List.{All}
use Rattle.std.specs.Prelude.{◌≡◌, ◌≤◌, ℕ, length, true, false, List, [], Option, IsTrue, Contains}
use Rattle.sha1.specs.Sha1.{sha1}
use Rattle.file_tree.specs.declared.node.Found.TheVariants as found
use Rattle.file_tree.specs.Trees.{TreeMap}
use Rattle.dw_base.specs.Paths.{IsPathMap}
use Rattle.file_tree.specs.Causes.{Stood, AreInOrder}
use Rattle.job_types.specs.Settings.{HasKey, Settings, IsWithin}
use Rattle.job_types.specs.declared.outcome.Verdict.{Verdict}
use Rattle.job_types.specs.declared.outcome.Verdict.TheVariants.{Edited, Split}
use Rattle.work_texts.specs.declared.plan.JobLine.{JobLine}
use Rattle.work_texts.specs.declared.plan.PlanData.{PlanData}
use Rattle.work_texts.specs.Rules.{is_job_path, IsPlan}
use Rattle.root_paths.specs.Roots.{most_outside, in_root, below_root, may_be_candidate}
use Rattle.root_plan.specs.Targets.{debug_name}
use Rattle.root_plan.specs.Verdicts.{JudgeView, IsJudge, id_of}

-- a job comes of a file of which this is said
pub data ComesOf (job : JobLine) : Verdict → Type 0 where
  of_edited : {names : List (List ℕ)} → job.split ≡ false → job.id ≡ [] → ComesOf job (Edited names)
  of_split : {id : Option (List ℕ)} {names : List (List ℕ)} → job.split ≡ true → job.id ≡ id_of id → ComesOf job (Split id names)

-- a job's file: a candidate that stands at the job's path and has its digest
pub record HasFile (old : Option TreeMap) (root : List ℕ) (s : Settings) (v : JudgeView) (job : JobLine) : Type 0 where
  pub bytes : List ℕ
  pub mode : ℕ
  pub verdict : Verdict
  pub candidate : may_be_candidate root (in_root root job.path) ≡ true
  pub stood : Stood old (in_root root job.path) s.max_file (found.File bytes mode)
  pub digest : job.digest ≡ sha1 bytes
  pub said : v.says bytes (debug_name job.path) verdict
  pub comes : ComesOf job verdict

-- the paths of candidates are plain and UTF-8 below the root
pub record ArePlain (root : List ℕ) (paths : List (List ℕ)) : Type 0 where
  pub plain : (path : List ℕ) → Contains paths path → may_be_candidate root path ≡ true → IsTrue (is_job_path (below_root root path))

-- a run asks for the plan of a root with these paths: it has a judge of files, a prefix map and a limit on files, a key that the texts
-- can say, and the paths in byte order, written in one way
pub record AreAsked (root : List ℕ) (present : List (List ℕ)) (s : Settings) (v : JudgeView) : Type 0 where
  pub judge : IsJudge v
  pub map : IsPathMap s.maps
  pub limit : IsWithin s.max_file
  pub key : HasKey s
  pub order : AreInOrder present
  pub paths : ArePlain root present

-- what a plan is to the run that asked for it: one that the work folder may have, with a file for each job
pub record Serves (old : Option TreeMap) (root : List ℕ) (present : List (List ℕ)) (s : Settings) (v : JudgeView) (plan : PlanData) : Type 0 where
  pub few : length plan.jobs ≤ most_outside
  pub files : All (HasFile old root s v) plan.jobs
  pub fits : AreAsked root present s v → IsPlan plan
