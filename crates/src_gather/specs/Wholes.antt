-- What a gather is to make of a tree: of its plan and of the sources, the node of each name of the run.
use Rattle.std.specs.Prelude.{◌≡◌, ◌≤◌, ◌<◌, ℕ, List, [], length, get_or, map, Some, None, IsTrue}
use Rattle.std.specs.FinMap as fin
use Rattle.dw_base.specs.Layout.{file_limit}
use Rattle.file_tree.specs.declared.node.Node.{Node}
use Rattle.file_tree.specs.declared.node.Node.TheVariants as node
use Rattle.file_tree.specs.Trees.{TreeMap, is_below, keys_below}
use Rattle.journal_core.specs.Names.{Name, plan_new, plan, temp, commit, fresh, final, target}
use Rattle.work_texts.specs.declared.plan.PlanData.{PlanData}
use Rattle.work_journal.specs.Ending.{end_nodes}
use Rattle.work_journal.specs.Finishing.{plan_node}
use Rattle.work_journal.specs.Wanted.{Wanted}
use Rattle.root_paths.specs.Roots.{in_root}
use Rattle.root_plan.specs.Makers.{job_at}
use Rattle.root_run.specs.Wholes.{finished_text, older_of, no_node}
use Rattle.src_gather.specs.Listed.{copy_folder}
use Rattle.src_gather.specs.Gathering.{IsGatherPlan}
use Rattle.src_gather.specs.Makers.{copy_of, gather_folder, lists_of, one_step}

-- the tree before a gather: nothing is at its work folder or below it
pub record IsClean (start : TreeMap) (root : List ℕ) : Type 0 where
  pub none_at : fin.get start (gather_folder root) ≡ None
  pub none_below : (q : List ℕ) → IsTrue (is_below (gather_folder root) q) → fin.get start q ≡ None

-- the file of a job before the gather, by its bytes
pub record IsSourceOf (start : TreeMap) (from : List ℕ) (path bytes : List ℕ) : Type 0 where
  pub mode : ℕ
  pub there : fin.get start (in_root from path) ≡ Some (node.File bytes mode)
  pub few : length bytes ≤ file_limit

pub record AreSources (start : TreeMap) (from : List ℕ) (p : PlanData) (sources : List (List ℕ)) : Type 0 where
  pub same_length : length sources ≡ length p.jobs
  pub each : (j : ℕ) → j < length p.jobs → IsSourceOf start from (job_at p.jobs j).path (get_or sources j [])

-- a plan of the tree before the gather, with the bytes of its sources
pub record IsPlanned (start : TreeMap) (root from dest : List ℕ) (p : PlanData) (sources : List (List ℕ)) : Type 0 where
  pub plan_is : IsGatherPlan (Some start) root from dest (keys_below start root) p
  pub jobs : AreSources start from p sources

-- the node of each name
abbrev pub node_of : PlanData → List (List ℕ) → Name → Node
node_of p sources plan_new = plan_node p
node_of p sources plan = plan_node p
node_of p sources (temp j k) = copy_of (get_or sources j [])
node_of p sources (commit j) = node.File [] 420
node_of p sources (fresh i) = get_or (end_nodes (lists_of p) (finished_text p)) i no_node
node_of p sources (final i) = get_or (end_nodes (lists_of p) (finished_text p)) i no_node
node_of p sources (target j k) = copy_of (get_or sources j [])

-- what a gather is to make of the tree
abbrev pub wanted_of : TreeMap → List ℕ → List ℕ → PlanData → List (List ℕ) → Wanted
wanted_of start root dest p sources = record {
  work = gather_folder root;
  steps = map one_step p.jobs;
  output = λ j k. in_root (copy_folder root dest) (job_at p.jobs j).path;
  node = node_of p sources;
  older = older_of p;
  start = start;
}

-- what is wanted by a plan of the tree before
pub record IsGatherWanted (start : TreeMap) (root from dest : List ℕ) (w : Wanted) : Type 0 where
  pub plan : PlanData
  pub sources : List (List ℕ)
  pub planned : IsPlanned start root from dest plan sources
  pub is : w ≡ wanted_of start root dest plan sources
