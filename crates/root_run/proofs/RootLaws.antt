-- A plan that a start makes is one of the root before the run, with the nodes of its jobs; and what a plan of the root leads to.
use Rattle.std.proofs.Common.{◌≡◌, ◌≢◌, ℕ, ◌≤◌, Bool, true, false, not, List, length, map, refl, sym, ap, subst}
use Rattle.std.specs.Prelude.{Some, IsTrue}
use Rattle.std.specs.FinMap as fin
use Rattle.dw_base.specs.Layout.{file_limit}
use Rattle.dw_base.specs.declared.fault.Refusal.{Refusal}
use Rattle.file_tree.specs.declared.node.Node.{Node}
use Rattle.file_tree.specs.Trees.{TreeMap, is_below, keys_below}
use Rattle.job_types.specs.Settings.{Settings}
use Rattle.journal_core.specs.Names.{plan_new}
use Rattle.journal_core.specs.Starts.{shown_core}
use Rattle.journal_core.specs.Table.{CoreState}
use Rattle.work_texts.specs.declared.plan.JobLine.{JobLine}
use Rattle.work_texts.specs.declared.plan.PlanData.{PlanData}
use Rattle.work_journal.specs.Work.{work_path, presence}
use Rattle.work_journal.proofs.SpareLaws.{is_work_path}
use Rattle.root_plan.specs.Roots.{work_folder, is_outside}
use Rattle.root_plan.specs.Plans.{IsPlanOf, IsRunPlan}
use Rattle.root_plan.specs.Targets.{targets_of}
use Rattle.root_plan.specs.Verdicts.{JudgeView, IsJudge}
use Rattle.root_plan.proofs.RunPlanLaws.{run_plan, run_jobs}
use Rattle.root_plan.proofs.WholeLaws.{plan_serves}
use Rattle.root_run.specs.Wholes.{IsClean, IsRootPlan, wanted_of, steps_of}
use Rattle.root_run.specs.Partways.{IsUnstarted, HasEnded}
use Rattle.root_run.specs.RootRuns.{IsRootWanted}
use Rattle.root_run.specs.Finals.{IsFinalRun}
use Rattle.root_run.specs.Cores.{ShowsCore, is_old_end}
use Rattle.root_run.specs.Cores.{ShowsCore as shows}
use Rattle.root_run.proofs.BeforeLaws.{plan-before, outside-candidate}
use Rattle.root_run.proofs.KeysLaws.{keys-order}
use Rattle.root_run.proofs.MadeLaws.{all-made}

not-true : (b : Bool) → not b ≡ true → b ≡ true → ⊥
not-true true e f = cc
not-true false e f = cc

not-false : (b : Bool) → not b ≡ false → b ≡ true
not-false true e = refl
not-false false e = cc

module _ (start t : TreeMap) (root : List ℕ) (u : IsUnstarted start (work_folder root) t) where
  -- a path outside the work folder is as before the run
  outside-same : (q : List ℕ) → is_outside root q ≡ true → fin.get t q ≡ fin.get start q
  outside-same q out = u.others q apart
    where
      apart : q ≢ work_path (work_folder root) plan_new
      apart e = not-true (is_below (work_folder root) q) out (subst (λ (x : List ℕ). IsTrue (is_below (work_folder root) x)) (sym e) (is_work_path (work_folder root) plan_new))

  -- so a plan of the tree is one of the tree before the run
  pub plan-of-start : (s : Settings) (v : JudgeView) (fails : List ℕ → List ℕ → Refusal → Type 0) (plan : PlanData) → IsClean start root (work_folder root)
      → IsPlanOf (Some t) root (keys_below t root) s v fails plan → IsRunPlan (Some start) root (keys_below start root) s v fails plan
  plan-of-start s v fails plan clean is =
      plan-before s v fails root t start plan (λ q out. sym (outside-same q out)) (λ q in_. clean.none_below q (not-false (is_below (work_folder root) q) in_)) (keys-order t root)
      (run_plan (Some t) root s v fails (keys_below t root) plan is)

-- a plan of a root, with the nodes of its jobs
pub record HasRootPlan (start : TreeMap) (root : List ℕ) (s : Settings) (v : JudgeView) (fails : List ℕ → List ℕ → Refusal → Type 0) (plan : PlanData) : Type 0 where
  pub made : List (List Node)
  pub is : IsRootPlan start root s v fails plan made

pub root-planned : (start t : TreeMap) (root : List ℕ) (s : Settings) (v : JudgeView) (fails : List ℕ → List ℕ → Refusal → Type 0) (plan : PlanData)
    → IsClean start root (work_folder root) → IsUnstarted start (work_folder root) t → s.max_file ≤ file_limit → IsJudge v
    → IsPlanOf (Some t) root (keys_below t root) s v fails plan → HasRootPlan start root s v fails plan
root-planned start t root s v fails plan clean u limit judge is =
    let m = all-made start t root s v (λ q may. outside-same start t root u q (outside-candidate root q may)) limit judge plan.jobs
    (plan_serves (Some t) root s v fails (keys_below t root) plan is).files in
    record { made = m.made; is = record { plan_is = plan-of-start start t root u s v fails plan clean is; jobs = m.are } }

module _ (start : TreeMap) (root work : List ℕ) (s : Settings) (v : JudgeView) (fails : List ℕ → List ℕ → Refusal → Type 0) where
  -- what is wanted by a plan
  pub plan-wanted : (p : PlanData) (made : List (List Node)) → IsRootPlan start root s v fails p made → IsRootWanted start root work s v fails (wanted_of start root work p made)
  plan-wanted p made planned = record { plan = p; made = made; planned = planned; is = refl }

  -- the run by a plan is done once it has ended
  pub plan-final : (p : PlanData) (made : List (List Node)) (t : TreeMap) → IsRootPlan start root s v fails p made → HasEnded (wanted_of start root work p made) t
      → IsFinalRun start root work s v fails p.report t
  plan-final p made t planned ended = record { plan = p; made = made; planned = planned; reports = refl; ended = ended }

  -- two plans of a root have the same jobs and sources
  pub same-jobs : (p q : PlanData) (made other : List (List Node)) → IsJudge v → IsRootPlan start root s v fails p made → IsRootPlan start root s v fails q other
      → (p.jobs ≡ q.jobs) × (p.sources ≡ q.sources)
  same-jobs p q made other judge a b = run_jobs (Some start) root s v fails judge start (keys_below start root) p q refl a.plan_is b.plan_is

  -- so all cores that a tree shows are one, by each plan
  pub shows-one : (p : PlanData) (made : List (List Node)) (t : TreeMap) (c : CoreState) → IsJudge v → IsRootPlan start root s v fails p made
      → ShowsCore start root work s v fails t c → c ≡ shown_core (steps_of p) (presence (is_old_end t work) work (keys_below t root))
  shows-one p made t c judge planned (shows.by_plan {p = q} {made = other} is partway) =
      ap (λ (jobs : List JobLine). shown_core (map (λ (job : JobLine). length (targets_of job)) jobs) (presence (is_old_end t work) work (keys_below t root))) (same-jobs q p other made judge is planned).0
  shows-one p made t c judge planned (shows.by_none u none) = absurd (none p made planned)
