-- What the listed names of a root come to: one job for each that is gathered, and how many are missing; and the plan of these jobs.
-- This project's profile.
use Rattle.std.specs.Prelude.{◌≡◌, ◌≤◌, ℕ, suc, true, false, List, [], ◌∷◌, ◌++◌, length, map, codes, Option}
use Rattle.std.specs.Fmt.{decimal}
use Rattle.dw_base.specs.Paths.{path_map}
use Rattle.file_tree.specs.declared.node.Found.{Found}
use Rattle.file_tree.specs.declared.node.Found.TheVariants as found
use Rattle.file_tree.specs.Trees.{TreeMap}
use Rattle.work_texts.specs.declared.key.RunKey.{RunKey}
use Rattle.work_texts.specs.declared.plan.JobLine.{JobLine}
use Rattle.work_texts.specs.declared.plan.PlanData.{PlanData}
use Rattle.work_texts.specs.Fields.{text_of, plan_fields}
use Rattle.work_texts.specs.Rules.{text_limit}
use Rattle.root_paths.specs.Roots.{in_root, longest_path}
use Rattle.root_paths.specs.NewPaths.{CanBeMade}
use Rattle.root_plan.specs.Tallies.{edited_job}
use Rattle.src_gather.specs.Listed.{is_fit, is_no_file, copy_folder, IsNoFileAt, IsRead, IsListOf}

-- ### Names

pub record Gathering : Type 0 where
  pub jobs : List JobLine
  pub missing : ℕ

abbrev pub none_gathered : Gathering
none_gathered = record { jobs = []; missing = 0 }

-- with a name that is gathered, and the bytes of its file: its job is one of a whole file
abbrev pub with_copy : Gathering → List ℕ → List ℕ → Gathering
with_copy g name bytes = record { jobs = g.jobs ++ edited_job name bytes ∷ []; missing = g.missing }

-- and with one that is missing
abbrev pub with_missing : Gathering → Gathering
with_missing g = record { jobs = g.jobs; missing = suc g.missing }

-- the paths of a name's file and of its copy are within the limit
pub record IsShort (root from dest name : List ℕ) : Type 0 where
  pub source : length (in_root from name) ≤ longest_path
  pub copy : length (in_root (copy_folder root dest) name) ≤ longest_path

-- what a name does to a gathering by what is found at the path of its file
pub data FoundNoted (name : List ℕ) (what : Found) (g : Gathering) : Gathering → Type 0 where
  not_there : is_no_file what ≡ true → FoundNoted name what g (with_missing g)
  there : {bytes : List ℕ} {mode : ℕ} → what ≡ found.File bytes mode → FoundNoted name what g (with_copy g name bytes)

-- what one name does to a gathering. The limit on paths is asked of each name that is fit, also of one whose file isn't there
pub data Noted (old : Option TreeMap) (root from dest name : List ℕ) (g : Gathering) : Gathering → Type 0 where
  unfit : is_fit name ≡ false → Noted old root from dest name g (with_missing g)
  no_file : is_fit name ≡ true → IsShort root from dest name → IsNoFileAt old (in_root from name) → Noted old root from dest name g (with_missing g)
  gathered : {bytes : List ℕ} → is_fit name ≡ true → IsShort root from dest name → IsRead old (in_root from name) bytes
      → Noted old root from dest name g (with_copy g name bytes)

-- what names come to, one after another
pub data Gathers (old : Option TreeMap) (root from dest : List ℕ) : List (List ℕ) → Gathering → Type 0 where
  none : Gathers old root from dest [] none_gathered
  more : {names : List (List ℕ)} {name : List ℕ} {g h : Gathering} → Gathers old root from dest names g → Noted old root from dest name g h
      → Gathers old root from dest (names ++ name ∷ []) h

-- what the list of the root comes to
pub record IsGathering (old : Option TreeMap) (root from dest : List ℕ) (g : Gathering) : Type 0 where
  pub names : List (List ℕ)
  pub list : IsListOf old root names
  pub gathers : Gathers old root from dest names g

-- ### The plan

-- the key: the destination as the one pair, the folder of sources as the seed, and the longest file that may be read
abbrev pub gather_key : List ℕ → List ℕ → RunKey
gather_key from dest = record { maps = path_map dest dest; build_id = false; seed = from; skip = false; max_file = text_limit }

-- the report
unfoldable pub report_text : ℕ → ℕ → List ℕ
report_text found lost = codes "gathered " ++ (decimal found ++ (codes ", missing " ++ (decimal lost ++ codes "\n")))

abbrev pub names_of : List JobLine → List (List ℕ)
names_of jobs = map (λ job. job.path) jobs

abbrev pub plan_of : List ℕ → List ℕ → Gathering → PlanData
plan_of from dest g = record {
  key = gather_key from dest;
  report = report_text (length g.jobs) g.missing;
  jobs = g.jobs;
  sources = names_of g.jobs;
}

-- where the copies come to stand
abbrev pub copy_paths : List ℕ → List ℕ → List JobLine → List (List ℕ)
copy_paths root dest jobs = map (λ job. in_root (copy_folder root dest) job.path) jobs

abbrev pub plan_length : PlanData → ℕ
plan_length p = length (text_of (plan_fields p))

-- the plan of a root below which these paths stand: each copy can be made there, and the text is within its limit
pub record IsGatherPlan (old : Option TreeMap) (root from dest : List ℕ) (present : List (List ℕ)) (plan : PlanData) : Type 0 where
  pub gathering : Gathering
  pub gathers : IsGathering old root from dest gathering
  pub is : plan ≡ plan_of from dest gathering
  pub can : CanBeMade present (copy_paths root dest gathering.jobs)
  pub within : plan_length plan ≤ text_limit
