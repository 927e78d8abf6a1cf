-- What a run that has come to its end keeps of each job's file: the nodes that its plan's jobs make stand at their targets.
use Rattle.std.proofs.Common.{◌≡◌, ℕ, suc, ◌+◌, ◌<◌, Bool, true, false, List, [], ◌∷◌, ◌++◌, length, get_or, drop, refl, sym, ap, subst, ◌∙◌, arith, lit<}
use Rattle.std.specs.Prelude.{Contains, Some, IsTrue, if◌then◌else◌}
use Rattle.std.specs.FinMap as fin
use Rattle.std.proofs.lemmas.List.{length-map}
use Rattle.std.proofs.lemmas.List.Elements.{All-get_or}
use Rattle.dw_base.specs.Paths.{PathMap}
use Rattle.dw_base.specs.Texts.{has_nul}
use Rattle.dw_view.specs.PairViews.{pair_view}
use Rattle.dw_base.specs.ViewData.{debug_data}
use Rattle.dw_meaning.specs.FileMeanings.{MeaningKept, file_data}
use Rattle.dw_meaning.specs.Leavings.{NoLeavings}
use Rattle.dw_meaning.specs.Loaded.{LoadedKept}
use Rattle.dbg_job.specs.Outcomes.{OutcomeFails}
use Rattle.file_tree.specs.declared.node.Node.{Node}
use Rattle.file_tree.specs.declared.node.Node.TheVariants as node
use Rattle.file_tree.specs.Heard.{Heard}
use Rattle.file_tree.specs.Seen.{Seen, map_now}
use Rattle.file_tree.specs.Trees.{TreeMap, keys_below}
use Rattle.job_types.specs.Modes.{not_executable}
use Rattle.job_types.specs.Settings.{Settings}
use Rattle.journal_core.specs.Names.{IsStep}
use Rattle.work_texts.specs.declared.plan.JobLine.{JobLine}
use Rattle.work_texts.specs.declared.plan.PlanData.{PlanData}
use Rattle.work_texts.specs.Rules.{is_job_path}
use Rattle.root_plan.specs.Makers.{job_at, link_nodes, no_job, pair_nodes}
use Rattle.root_plan.specs.Roots.{below_root, in_root, work_folder}
use Rattle.root_plan.specs.Targets.{debug_link, debug_name, debug_path, file_link, has_links, link_target, links_of, targets_of}
use Rattle.root_plan.specs.Verdicts.{Pair}
use Rattle.file_judge.specs.FileJudges.{file_view}
use Rattle.file_judge.specs.FileMakes.{file_makes}
use Rattle.file_judge.specs.KeptNodes.{IsKeptPair, NodesKeep}
use Rattle.file_judge.specs.KeptNodes.NodesKeep.{keeps_one, keeps_two}
use Rattle.file_judge.proofs.DebugNameLaws.{job_path-bare}
use Rattle.file_judge.proofs.KeptNodeLaws.{nodes-keep}
use Rattle.root_run.specs.Finals.{IsFinalRun}
use Rattle.root_run.specs.Wholes.{IsClean, IsJobMade, IsRootPlan, no_node, nodes_at, steps_of}
use Rattle.root_run.proofs.KeysLaws.{keys-order}
use Rattle.root_run.proofs.PlanLaws.{run-fit}
use Rattle.root_run.proofs.RootLaws.{same-jobs}
use Rattle.root_run.proofs.TargetLaws.{AreFit}
use Rattle.root_run.proofs.WantedLaws.{steps-at}
use Rattle.dbg_run.specs.Roots.{HasReport, JobHolds, OfJobs, PartsMean, RootDone}
use Rattle.dbg_run.specs.Roots.JobHolds.{edited, parted}

-- ### The path of a job

behind-root : (root path : List ℕ) (n : ℕ) → n ≡ length root → drop (suc n) (root ++ 47 ∷ path) ≡ path
behind-root [] path n e = rw e refl
behind-root (b ∷ root) path n e = rw e (behind-root root path (length root) refl)

in-below : (root path : List ℕ) → below_root root (in_root root path) ≡ path
in-below root path =
    let one : length root + 1 ≡ suc (length root) = omega arith in
    ap (λ (n : ℕ). drop n (root ++ 47 ∷ path)) one ∙ behind-root root path (length root) refl

job-bare : (start : TreeMap) (root : List ℕ) (s : Settings) (p : PlanData) (made : List (List Node)) (j : ℕ) → IsClean start root (work_folder root)
    → IsRootPlan start root s (file_view s) (OutcomeFails s) p made → j < length p.jobs → has_nul (job_at p.jobs j).path ≡ false
job-bare start root s p made j clean planned l =
    let fit : AreFit root (keys_below start root) p.jobs =
    run-fit (Some start) root s (file_view s) (OutcomeFails s) (keys_below start root) p (keys-order start root) planned.plan_is in
    let path : List ℕ = (job_at p.jobs j).path in
    let plain : IsTrue (is_job_path (below_root root (in_root root path))) =
    clean.plain (in_root root path) (All-get_or (λ job. Contains (keys_below start root) (in_root root job.path)) p.jobs j no_job l fit.among) in
    job_path-bare path (subst (λ (x : List ℕ). IsTrue (is_job_path x)) (in-below root path) plain)

-- ### Targets and nodes

one-target : (job : JobLine) → job.split ≡ false → targets_of job ≡ job.path ∷ []
one-target job e = rw e refl

parted-targets : (job : JobLine) → job.split ≡ true → targets_of job ≡ debug_path job.path ∷ (links_of job ++ job.path ∷ [])
parted-targets job e = rw e refl

-- where links lead to a job's files there are two, and else none
links-are : (job : JobLine) (b : Bool) → has_links job ≡ b → links_of job ≡ (if b then file_link job ∷ debug_link job ∷ [] else [])
links-are job b e = ap (λ (t : Bool). if t then file_link job ∷ debug_link job ∷ [] else []) e

nodes-are : (job : JobLine) (b : Bool) → has_links job ≡ b
    → link_nodes job ≡ (if b then node.Link (link_target job.path) ∷ node.Link (link_target (debug_path job.path)) ∷ [] else [])
nodes-are job b e = ap (λ (t : Bool). if t then node.Link (link_target job.path) ∷ node.Link (link_target (debug_path job.path)) ∷ [] else []) e

-- the nodes of a job stand at its targets
abbrev StandsAll : TreeMap → List ℕ → List (List ℕ) → List Node → Type 0
StandsAll t root paths nodes = (k : ℕ) → k < length paths → fin.get t (in_root root (get_or paths k [])) ≡ Some (get_or nodes k no_node)

-- so the first stands at the first target, and the last at the last
first-stands : (t : TreeMap) (root : List ℕ) (path : List ℕ) (paths : List (List ℕ)) (n : Node) (nodes : List Node) → StandsAll t root (path ∷ paths) (n ∷ nodes)
    → fin.get t (in_root root path) ≡ Some n
first-stands t root path paths n nodes all = all 0 (omega arith)

last-stands : (t : TreeMap) (root : List ℕ) (debug one two path : List ℕ) (n a b last : Node) (t_links : Bool)
    → StandsAll t root (debug ∷ ((if t_links then one ∷ two ∷ [] else []) ++ path ∷ [])) (n ∷ ((if t_links then a ∷ b ∷ [] else []) ++ last ∷ []))
    → fin.get t (in_root root path) ≡ Some last
last-stands t root debug one two path n a b last true all = all 3 (lit< tt)
last-stands t root debug one two path n a b last false all = all 1 (lit< tt)

module _ (m : PathMap) (start t : TreeMap) (root : List ℕ) (job : JobLine) (b : List ℕ) (mode : ℕ)
    (there : fin.get start (in_root root job.path) ≡ Some (node.File b mode)) where
  abbrev Holds : Type 0
  Holds = JobHolds (λ b file. MeaningKept m b file × (LoadedKept b file × NoLeavings (file_data file))) (PartsMean m) start t root job

  one-holds : (file : List ℕ) → job.split ≡ false → MeaningKept m b file → LoadedKept b file → NoLeavings (file_data file) → StandsAll t root (targets_of job) (node.File file mode ∷ []) → Holds
  one-holds file split meaning loaded none all =
      let here : StandsAll t root (job.path ∷ []) (node.File file mode ∷ []) = subst (λ (ps : List (List ℕ)). StandsAll t root ps (node.File file mode ∷ [])) (one-target job split) all in
      edited split there (first-stands t root job.path [] (node.File file mode) [] here) (meaning, (loaded, none))

  two-hold : (pair : Pair) (links : Bool) → has_links job ≡ links → job.split ≡ true → IsKeptPair m b (debug_name job.path) pair
      → StandsAll t root (targets_of job) (pair_nodes job mode pair) → Holds
  two-hold pair links is split kept all =
      let here : StandsAll t root (debug_path job.path ∷ (links_of job ++ job.path ∷ [])) (pair_nodes job mode pair) =
      subst (λ (ps : List (List ℕ)). StandsAll t root ps (pair_nodes job mode pair)) (parted-targets job split) all in
      let listed : StandsAll t root (debug_path job.path ∷ ((if links then file_link job ∷ debug_link job ∷ [] else []) ++ job.path ∷ [])) (pair_nodes job mode pair) =
      subst (λ (ls : List (List ℕ)). StandsAll t root (debug_path job.path ∷ (ls ++ job.path ∷ [])) (pair_nodes job mode pair)) (links-are job links is) here in
      let noded : StandsAll t root (debug_path job.path ∷ ((if links then file_link job ∷ debug_link job ∷ [] else []) ++ job.path ∷ []))
      (node.File pair.debug (not_executable mode) ∷ ((if links then node.Link (link_target job.path) ∷ node.Link (link_target (debug_path job.path)) ∷ [] else []) ++ node.File pair.stripped mode ∷ [])) =
      subst (λ (ns : List Node). StandsAll t root (debug_path job.path ∷ ((if links then file_link job ∷ debug_link job ∷ [] else []) ++ job.path ∷ [])) (node.File pair.debug (not_executable mode) ∷ (ns ++ node.File pair.stripped mode ∷ [])))
      (nodes-are job links is) listed in
      parted split there (last-stands t root (debug_path job.path) (file_link job) (debug_link job) job.path (node.File pair.debug (not_executable mode)) (node.Link (link_target job.path)) (node.Link (link_target (debug_path job.path))) (node.File pair.stripped mode) links noded)
      (first-stands t root (debug_path job.path) _ (node.File pair.debug (not_executable mode)) _ noded) kept

  holds-by : (nodes : List Node) → NodesKeep m job b mode nodes → StandsAll t root (targets_of job) nodes → Holds
  holds-by nodes (keeps_one {file = file} split meaning loaded none) all = one-holds file split meaning loaded none all
  holds-by nodes (keeps_two {pair = pair} split kept) all = two-hold pair (has_links job) refl split kept all

-- ### Each job

module _ (start : TreeMap) (root : List ℕ) (o : Settings) where
  -- by the plan with which the run ended
  own-holds : (p : PlanData) (made : List (List Node)) (t : TreeMap) (j : ℕ) → IsClean start root (work_folder root)
      → IsRootPlan start root o (file_view o) (OutcomeFails o) p made
      → ((j k : ℕ) → IsStep (steps_of p) j k → fin.get t (in_root root (get_or (targets_of (job_at p.jobs j)) k [])) ≡ Some (get_or (nodes_at made j) k no_node))
      → j < length p.jobs → JobHolds (λ b file. MeaningKept o.maps b file × (LoadedKept b file × NoLeavings (file_data file))) (PartsMean o.maps) start t root (job_at p.jobs j)
  own-holds p made t j clean planned outputs l =
      let one : IsJobMade start root (file_view o) (job_at p.jobs j) (nodes_at made j) = planned.jobs.each j l in
      let keep : NodesKeep o.maps (job_at p.jobs j) one.bytes one.mode (nodes_at made j) =
      nodes-keep o (job_at p.jobs j) one.bytes one.mode (nodes_at made j) (job-bare start root o p made j clean planned l) one.made in
      holds-by o.maps start t root (job_at p.jobs j) one.bytes one.mode one.there (nodes_at made j) keep
      (λ k lt. outputs j k (record {
        job_in = subst (λ (n : ℕ). j < n) (sym (length-map p.jobs (λ (job : JobLine). length (targets_of job)))) l;
        step_in = subst (λ (n : ℕ). k < n) (sym (steps-at p.jobs j l)) lt;
      }))

  -- so by each plan, since all have the same jobs
  each-holds : (p : PlanData) (made : List (List Node)) (report : List ℕ) (t : TreeMap) (j : ℕ) → IsClean start root (work_folder root)
      → IsRootPlan start root o (file_view o) (OutcomeFails o) p made → IsFinalRun start root (work_folder root) o (file_view o) (OutcomeFails o) report t
      → j < length p.jobs → JobHolds (λ b file. MeaningKept o.maps b file × (LoadedKept b file × NoLeavings (file_data file))) (PartsMean o.maps) start t root (job_at p.jobs j)
  each-holds p made report t j clean planned f l =
      let same : p.jobs ≡ f.plan.jobs = (same-jobs start root (work_folder root) o (file_view o) (OutcomeFails o) p f.plan made f.made (file_makes o) planned f.planned).0 in
      subst (λ (jobs : List JobLine). JobHolds (λ b file. MeaningKept o.maps b file × (LoadedKept b file × NoLeavings (file_data file))) (PartsMean o.maps) start t root (job_at jobs j)) (sym same)
      (own-holds f.plan f.made t j clean f.planned f.ended.outputs (subst (λ (jobs : List JobLine). j < length jobs) same l))

-- what holds of all jobs' files may be said in weaker words
weaker : (One Less : List ℕ → List ℕ → Type 0) (Two Lesser : List ℕ → List ℕ → List ℕ → List ℕ → Type 0) (start t : TreeMap) (root : List ℕ) (job : JobLine)
    → ((b file : List ℕ) → One b file → Less b file) → ((b name stripped debug : List ℕ) → Two b name stripped debug → Lesser b name stripped debug)
    → JobHolds One Two start t root job → JobHolds Less Lesser start t root job
weaker One Less Two Lesser start t root job one two (edited split there now holds) = edited split there now (one _ _ holds)
weaker One Less Two Lesser start t root job one two (parted split there now beside holds) = parted split there now beside (two _ _ _ _ holds)

root_keeps : (root : List ℕ) (o : Settings) (old new : Seen) (report : List ℕ) → HasReport root o old new report
    → OfJobs (λ b file. MeaningKept o.maps b file × (LoadedKept b file × NoLeavings (file_data file))) (PartsMean o.maps) root o old new
root_keeps root o old new report ended = record {
  is = λ start p made j under planned l.
      each-holds start root o p made report (map_now new.past) j under.clean planned (ended.is start under).final_is l;
}

pub root_means : (root : List ℕ) (o : Settings) (old new : Seen) (heard said : Heard) → RootDone root o old new heard said
    → OfJobs (MeaningKept o.maps) (PartsMean o.maps) root o old new
root_means root o old new heard said d = record {
  is = λ start p made j under planned l.
      weaker _ _ _ _ start (map_now new.past) root (job_at p.jobs j) (λ b file all. all.0) (λ b name stripped debug kept. kept)
      ((root_keeps root o old new d.report d.ended).is start p made j under planned l);
}

pub root_loads : (root : List ℕ) (o : Settings) (old new : Seen) (heard said : Heard) → RootDone root o old new heard said
    → OfJobs LoadedKept (λ b name stripped debug. LoadedKept b stripped) root o old new
root_loads root o old new heard said d = record {
  is = λ start p made j under planned l.
      weaker _ _ _ _ start (map_now new.past) root (job_at p.jobs j) (λ b file all. all.1.0) (λ b name stripped debug kept. kept.loaded)
      ((root_keeps root o old new d.report d.ended).is start p made j under planned l);
}

pub root_leaves : (root : List ℕ) (o : Settings) (old new : Seen) (heard said : Heard) → RootDone root o old new heard said
    → OfJobs (λ b file. NoLeavings (file_data file)) (λ b name stripped debug. NoLeavings (debug_data (pair_view debug stripped))) root o old new
root_leaves root o old new heard said d = record {
  is = λ start p made j under planned l.
      weaker _ _ _ _ start (map_now new.past) root (job_at p.jobs j) (λ b file all. all.1.1) (λ b name stripped debug kept. kept.meaning.leavings)
      ((root_keeps root o old new d.report d.ended).is start p made j under planned l);
}
