-- The maker of a plan's jobs, its text and its lists are those of the run that is wanted of the plan.
use Rattle.std.proofs.Common.{◌≡◌, ℕ, zero, suc, ◌<◌, Bool, true, false, if◌then◌else◌, List, [], ◌∷◌, ◌++◌, length, map, get_or, refl, sym, ap, subst, lit<, arith}
use Rattle.std.proofs.lemmas.List.{length-map, get_or-map}
use Rattle.dw_base.specs.declared.fault.Refusal.{Refusal}
use Rattle.file_tree.specs.declared.node.Node.{Node}
use Rattle.file_tree.specs.Trees.{TreeMap}
use Rattle.job_types.specs.Settings.{Settings}
use Rattle.work_texts.specs.declared.plan.JobLine.{JobLine}
use Rattle.work_texts.specs.declared.plan.PlanData.{PlanData}
use Rattle.work_journal.specs.Ending.{end_nodes}
use Rattle.work_journal.specs.Files.{IsSource, IsFile}
use Rattle.work_journal.specs.Files.{IsSource as source}
use Rattle.work_journal.specs.Finishing.{IsRun, plan_node}
use Rattle.root_plan.specs.Roots.{in_root}
use Rattle.root_plan.specs.Targets.{has_links, targets_of}
use Rattle.root_plan.specs.Makers.{no_job, job_at, plan_view, plan_makes}
use Rattle.root_plan.specs.Verdicts.{JudgeView}
use Rattle.root_run.specs.Wholes.{IsRootPlan, IsJobMade, wanted_of, steps_of, nodes_at, no_node, lists_of, finished_text}

any-default : {A : Type 0} (xs : List A) (i : ℕ) (d e : A) → i < length xs → get_or xs i d ≡ get_or xs i e
any-default [] i d e l = absurd (omega (arith, l))
any-default (x ∷ xs) zero d e l = refl
any-default (x ∷ xs) (suc i) d e l = any-default xs i d e (omega (arith, l))

-- ### The file itself is the last target

abbrev last_by : Bool → Bool → ℕ
last_by true true = 3
last_by true false = 1
last_by false l = 0

last-is : (s l : Bool) (d a b p : List ℕ) → get_or ((if s then d ∷ (if l then a ∷ b ∷ [] else []) else []) ++ p ∷ []) (last_by s l) [] ≡ p
last-is true true d a b p = refl
last-is true false d a b p = refl
last-is false l d a b p = refl

last-in : (s l : Bool) (d a b p : List ℕ) → last_by s l < length ((if s then d ∷ (if l then a ∷ b ∷ [] else []) else []) ++ p ∷ [])
last-in true true d a b p = lit< tt
last-in true false d a b p = lit< tt
last-in false l d a b p = lit< tt

last_of : JobLine → ℕ
last_of job = last_by job.split (has_links job)

target-last : (job : JobLine) → get_or (targets_of job) (last_by job.split (has_links job)) [] ≡ job.path
target-last job = last-is job.split (has_links job) _ _ _ job.path

target-in : (job : JobLine) → last_by job.split (has_links job) < length (targets_of job)
target-in job = last-in job.split (has_links job) _ _ _ job.path

pub target-some : (job : JobLine) → 0 < length (targets_of job)
target-some job = omega (arith, target-in job)

pub steps-at : (jobs : List JobLine) (j : ℕ) → j < length jobs → get_or (map (λ (job : JobLine). length (targets_of job)) jobs) j 0 ≡ length (targets_of (job_at jobs j))
steps-at jobs j l = get_or-map (λ (job : JobLine). length (targets_of job)) jobs j no_job 0 l

pub jobs-in : (jobs : List JobLine) (j : ℕ) → j < length (map (λ (job : JobLine). length (targets_of job)) jobs) → j < length jobs
jobs-in jobs j l = subst (λ (n : ℕ). j < n) (length-map jobs (λ (job : JobLine). length (targets_of job))) l

module _ (start : TreeMap) (root work : List ℕ) (s : Settings) (v : JudgeView) (fails : List ℕ → List ℕ → Refusal → Type 0) (p : PlanData) (made : List (List Node))
    (is : IsRootPlan start root s v fails p made) where
  source-of : (j : ℕ) → j < length (steps_of p) → IsSource (wanted_of start root work p made) j (in_root root (job_at p.jobs j).path)
  source-of j l =
      let k = last_by (job_at p.jobs j).split (has_links (job_at p.jobs j)) in
      source.is_output k
      (record { job_in = l; step_in = subst (λ (n : ℕ). last_by (job_at p.jobs j).split (has_links (job_at p.jobs j)) < n) (sym (steps-at p.jobs j (jobs-in p.jobs j l))) (target-in (job_at p.jobs j)) })
      (ap (in_root root) (target-last (job_at p.jobs j)))

  file-of : (j : ℕ) → j < length (steps_of p) → IsFile (wanted_of start root work p made) (plan_view root p.jobs) (plan_makes p.jobs v) j
  file-of j l =
      let m : IsJobMade start root v (job_at p.jobs j) (nodes_at made j) = is.jobs.each j (jobs-in p.jobs j l) in
      record {
        bytes = m.bytes;
        mode = m.mode;
        there = m.there;
        few = m.few;
        nodes = nodes_at made j;
        made = m.made;
        are_nodes = λ k d lt. any-default (nodes_at made j) k no_node d lt;
        source = source-of j l;
      }

  pub wanted_run : IsRun (wanted_of start root work p made) (plan_view root p.jobs) (plan_makes p.jobs v) (plan_node p) (end_nodes (lists_of p) (finished_text p))
  wanted_run = record {
    puts = refl;
    jobs = record {
      files = record {
        steps_are = refl;
        made = record { outputs = λ j l k lt. refl; marks = λ j. refl };
        files = file-of;
      };
      ends = λ i d lt. any-default (end_nodes (lists_of p) (finished_text p)) i no_node d lt;
    };
  }
