-- What is wanted by a plan of a root can be given to a journal: its names are told apart, and nothing lay in the work folder.
use Rattle.std.proofs.Common.{ℕ, ◌≤◌, ◌<◌, ◌^◌, List, length, refl, sym, subst, arith}
use Rattle.std.specs.Prelude.{Some}
use Rattle.std.proofs.lemmas.List.{length-map}
use Rattle.dw_base.specs.declared.fault.Refusal.{Refusal}
use Rattle.file_tree.specs.declared.node.Node.{Node}
use Rattle.file_tree.specs.Trees.{TreeMap, keys_below}
use Rattle.job_types.specs.Settings.{Settings}
use Rattle.journal_core.specs.Names.{IsStep}
use Rattle.work_texts.specs.declared.plan.JobLine.{JobLine}
use Rattle.work_texts.specs.declared.plan.PlanData.{PlanData}
use Rattle.work_journal.specs.Runs.{IsGiven}
use Rattle.work_journal.specs.Targets.{AreTargetsApart}
use Rattle.work_journal.proofs.ApartLaws.{target_apart}
use Rattle.root_plan.specs.Makers.{job_at}
use Rattle.root_plan.specs.Roots.{work_folder}
use Rattle.root_plan.specs.Targets.{targets_of}
use Rattle.root_plan.specs.Verdicts.{JudgeView}
use Rattle.root_run.specs.Wholes.{IsClean, IsRootPlan, wanted_of, steps_of}
use Rattle.root_run.proofs.KeysLaws.{keys-order}
use Rattle.root_run.proofs.PlanLaws.{run-few, run-fit}
use Rattle.root_run.proofs.TargetLaws.{AreFit, few-targets, targets-outside, targets-differ}
use Rattle.root_run.proofs.WantedLaws.{steps-at, jobs-in, target-some}

module _ (start : TreeMap) (root : List ℕ) (s : Settings) (v : JudgeView) (fails : List ℕ → List ℕ → Refusal → Type 0) (p : PlanData) (made : List (List Node))
    (is : IsRootPlan start root s v fails p made) where
  step-in : (j k : ℕ) → IsStep (steps_of p) j k → k < length (targets_of (job_at p.jobs j))
  step-in j k step = subst (λ (n : ℕ). k < n) (steps-at p.jobs j (jobs-in p.jobs j step.job_in)) step.step_in

  fit : AreFit root (keys_below start root) p.jobs
  fit = run-fit (Some start) root s v fails (keys_below start root) p (keys-order start root) is.plan_is

  pub plan-targets-apart : AreTargetsApart (wanted_of start root (work_folder root) p made)
  plan-targets-apart = record {
    jobs =
        let few : length p.jobs ≤ 200000 = run-few (Some start) root s v fails (keys_below start root) p is.plan_is in
        subst (λ (n : ℕ). n ≤ 2 ^ 32) (sym (length-map p.jobs (λ (job : JobLine). length (targets_of job)))) (omega (arith, few));
    some = λ j l. subst (λ (n : ℕ). 0 < n) (sym (steps-at p.jobs j (jobs-in p.jobs j l))) (target-some (job_at p.jobs j));
    most = λ j l. subst (λ (n : ℕ). n ≤ 4) (sym (steps-at p.jobs j (jobs-in p.jobs j l))) (few-targets (job_at p.jobs j));
    outside = λ j k step. targets-outside root (keys_below start root) p.jobs fit j k (jobs-in p.jobs j step.job_in) (step-in j k step);
    differ = λ i k j l a b. targets-differ root (keys_below start root) p.jobs fit i k j l (jobs-in p.jobs i a.job_in) (step-in i k a) (jobs-in p.jobs j b.job_in) (step-in j l b);
  }

  pub wanted-given : IsClean start root (work_folder root) → IsGiven (wanted_of start root (work_folder root) p made) (work_folder root)
  wanted-given clean = record {
    work_is = refl;
    apart = target_apart (wanted_of start root (work_folder root) p made) plan-targets-apart (record { plans = refl; temps = λ j k. refl; texts = λ i. refl });
    is_work = record { clean = clean.none_below; outside = plan-targets-apart.outside };
  }
