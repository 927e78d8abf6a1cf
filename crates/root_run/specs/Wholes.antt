-- What a run over a build root is to make: of its plan and of the nodes of its jobs, the node of each name of the run.
use Rattle.std.specs.Prelude.{◌≡◌, ◌≤◌, ◌<◌, ◌==◌, ℕ, Bool, true, false, if◌then◌else◌, List, [], ◌∷◌, length, get_or, map, Option, Some, None, IsTrue, Contains}
use Rattle.std.specs.FinMap as fin
use Rattle.dw_base.specs.Layout.{file_limit}
use Rattle.dw_base.specs.declared.fault.Refusal.{Refusal}
use Rattle.file_tree.specs.declared.node.Node.{Node}
use Rattle.file_tree.specs.declared.node.Node.TheVariants as node
use Rattle.file_tree.specs.Trees.{TreeMap, is_below, keys_below}
use Rattle.job_types.specs.Settings.{Settings}
use Rattle.journal_core.specs.Names.{Name, plan_new, plan, temp, commit, fresh, final, target}
use Rattle.work_texts.specs.declared.plan.JobLine.{JobLine}
use Rattle.work_texts.specs.declared.plan.PlanData.{PlanData}
use Rattle.work_texts.specs.declared.plan.FinishedData.{FinishedData}
use Rattle.work_texts.specs.Fields.{text_of, plan_text_fields, finished_fields}
use Rattle.work_texts.specs.Rules.{is_job_path}
use Rattle.work_journal.specs.Wanted.{Wanted}
use Rattle.work_journal.specs.Ending.{end_nodes, text_file}
use Rattle.work_journal.specs.Finishing.{plan_node}
use Rattle.root_plan.specs.Roots.{in_root, below_root}
use Rattle.root_plan.specs.Targets.{targets_of}
use Rattle.root_plan.specs.Lists.{source_list, debug_file_list, link_list}
use Rattle.root_plan.specs.Makers.{NodesOf, job_at}
use Rattle.root_plan.specs.Verdicts.{JudgeView}
use Rattle.root_plan.specs.Plans.{IsRunPlan}

-- the tree before a run: nothing is at the work folder or below it, and each path below the root is written in one way, as UTF-8
pub record IsClean (start : TreeMap) (root work : List ℕ) : Type 0 where
  pub none_at : fin.get start work ≡ None
  pub none_below : (q : List ℕ) → IsTrue (is_below work q) → fin.get start q ≡ None
  pub plain : (q : List ℕ) → Contains (keys_below start root) q → IsTrue (is_job_path (below_root root q))

-- ### Texts

-- the three lists of a plan, and the text that tells its end
abbrev pub lists_of : PlanData → List (List ℕ)
lists_of p = source_list p.sources ∷ debug_file_list p.jobs ∷ link_list p.jobs ∷ []

-- that text's value, by an earlier program or by this one
abbrev pub end_of : Bool → PlanData → FinishedData
end_of old p = record { old = old; key = p.key; report = p.report }

abbrev pub finished_of : PlanData → FinishedData
finished_of p = end_of false p

abbrev pub finished_text : PlanData → List ℕ
finished_text p = text_of (finished_fields (finished_of p))

-- a plan whose words an earlier program could take, so with one pair of a map
abbrev pub is_one : PlanData → Bool
is_one p = length p.key.maps.pairs == 1

-- the plan, and the text that tells its end, as an earlier program wrote them
abbrev pub old_plan_text : PlanData → List ℕ
old_plan_text p = text_of (plan_text_fields (record { old = true; plan = p }))

abbrev pub old_finished_text : PlanData → List ℕ
old_finished_text p = text_of (finished_fields (end_of true p))

-- ### Jobs

-- these are the nodes that a job makes of its file, as it stood before the run
pub record IsJobMade (start : TreeMap) (root : List ℕ) (v : JudgeView) (job : JobLine) (nodes : List Node) : Type 0 where
  pub bytes : List ℕ
  pub mode : ℕ
  pub there : fin.get start (in_root root job.path) ≡ Some (node.File bytes mode)
  pub few : length bytes ≤ file_limit
  pub made : NodesOf v job bytes mode nodes

abbrev pub nodes_at : List (List Node) → ℕ → List Node
nodes_at made j = get_or made j []

pub record AreMade (start : TreeMap) (root : List ℕ) (v : JudgeView) (jobs : List JobLine) (made : List (List Node)) : Type 0 where
  pub same_length : length made ≡ length jobs
  pub each : (j : ℕ) → j < length jobs → IsJobMade start root v (job_at jobs j) (nodes_at made j)

-- a plan of the tree before the run, with the nodes of its jobs. Its jobs don't depend on whether files that are refused are
-- passed over
pub record IsRootPlan (start : TreeMap) (root : List ℕ) (s : Settings) (v : JudgeView) (fails : List ℕ → List ℕ → Refusal → Type 0)
    (plan : PlanData) (made : List (List Node)) : Type 0 where
  pub plan_is : IsRunPlan (Some start) root (keys_below start root) s v fails plan
  pub jobs : AreMade start root v plan.jobs made

-- ### Names

abbrev pub no_node : Node
no_node = node.Link []

abbrev pub node_of : PlanData → List (List Node) → Name → Node
node_of p made plan_new = plan_node p
node_of p made plan = plan_node p
node_of p made (temp j k) = get_or (nodes_at made j) k no_node
node_of p made (commit j) = node.File [] 420
node_of p made (fresh i) = get_or (end_nodes (lists_of p) (finished_text p)) i no_node
node_of p made (final i) = get_or (end_nodes (lists_of p) (finished_text p)) i no_node
node_of p made (target j k) = get_or (nodes_at made j) k no_node

-- and as an earlier program gives it, where it could be one's run
abbrev pub older_text : PlanData → List ℕ → Option Node
older_text p text = if is_one p then Some (text_file text) else None

abbrev pub older_of : PlanData → Name → Option Node
older_of p plan_new = None
older_of p plan = older_text p (old_plan_text p)
older_of p (temp j k) = None
older_of p (commit j) = None
older_of p (fresh i) = None
older_of p (final i) = if i == 3 then older_text p (old_finished_text p) else None
older_of p (target j k) = None

abbrev pub steps_of : PlanData → List ℕ
steps_of p = map (λ job. length (targets_of job)) p.jobs

-- what the run is to make of the tree
abbrev pub wanted_of : TreeMap → List ℕ → List ℕ → PlanData → List (List Node) → Wanted
wanted_of start root work p made = record {
  work = work;
  steps = steps_of p;
  output = λ j k. in_root root (get_or (targets_of (job_at p.jobs j)) k []);
  node = node_of p made;
  older = older_of p;
  start = start;
}
