-- The plan of a root is one that a run carries out, and all that a run may carry out have the same jobs.
use Rattle.std.proofs.Common.{◌≡◌, ℕ, List, Option, Some, refl, sym, ap, ◌∙◌}
use Rattle.dw_base.specs.declared.fault.Refusal.{Refusal}
use Rattle.file_tree.specs.declared.node.Found.{Found}
use Rattle.file_tree.specs.declared.node.Found.TheVariants as found
use Rattle.file_tree.specs.Trees.{TreeMap}
use Rattle.job_types.specs.Settings.{Settings}
use Rattle.work_texts.specs.declared.plan.PlanData.{PlanData}
use Rattle.root_plan.specs.Verdicts.{JudgeView, IsJudge}
use Rattle.root_plan.specs.Tallies.{Tally, FileNoted, FoundNoted, Noted, Tallies}
use Rattle.root_plan.specs.Tallies.{FileNoted as note, Noted as notes, Tallies as tally}
use Rattle.root_plan.specs.Plans.{IsPlanOf, IsRunPlan, skipping}
use Rattle.root_plan.proofs.OneLaws.{tallies-alike}

module _ (old : Option TreeMap) (root : List ℕ) (s : Settings) (v : JudgeView) (fails : List ℕ → List ℕ → Refusal → Type 0) where
  file-skipping : (path bytes name : List ℕ) (t u : Tally) → FileNoted s v fails path bytes name t u → FileNoted (skipping s) v fails path bytes name t u
  file-skipping path bytes name t u (note.judged said) = note.judged said
  file-skipping path bytes name t u (note.skipped unsaid f skip) = note.skipped unsaid f refl

  found-skipping : (path below : List ℕ) (what : Found) (t u : Tally) → FoundNoted s v fails path below what t u → FoundNoted (skipping s) v fails path below what t u
  found-skipping path below found.Absent t u n = n
  found-skipping path below found.Folder t u n = n
  found-skipping path below (found.File bytes mode) t u n = record { short = n.short; noted = file-skipping below bytes _ t u n.noted }
  found-skipping path below (found.Link target) t u n = n
  found-skipping path below (found.TooLarge size) t u n = n

  path-skipping : (path : List ℕ) (t u : Tally) → Noted old root s v fails path t u → Noted old root (skipping s) v fails path t u
  path-skipping path t u (notes.apart other) = notes.apart other
  path-skipping path t u (notes.there {what = w} may stood n) = notes.there may stood (found-skipping path _ w t u n)

  tallies-skipping : (paths : List (List ℕ)) (t : Tally) → Tallies old root s v fails paths t → Tallies old root (skipping s) v fails paths t
  tallies-skipping paths t tally.none = tally.none
  tallies-skipping paths u (tally.more {paths = ps} {path = p} {t = t} ts n) = tally.more (tallies-skipping ps t ts) (path-skipping p t u n)

  -- the plan of a root is one that a run carries out
  pub run_plan : (present : List (List ℕ)) (plan : PlanData) → IsPlanOf old root present s v fails plan → IsRunPlan old root present s v fails plan
  run_plan present plan is = record {
    tally = is.tally;
    tallied = record { few = is.tallied.few; tallies = tallies-skipping present is.tally is.tallied.tallies };
    is = is.is;
    can = is.can;
    within = is.within;
  }

  -- and all of them have the same jobs and sources
  pub run_jobs : (judge : IsJudge v) (tree : TreeMap) (present : List (List ℕ)) (p q : PlanData) → old ≡ Some tree → IsRunPlan old root present s v fails p → IsRunPlan old root present s v fails q
      → (p.jobs ≡ q.jobs) × (p.sources ≡ q.sources)
  run_jobs judge tree present p q here x y =
      let alike = tallies-alike (skipping s) v judge fails tree old here root present x.tally y.tally x.tallied.tallies y.tallied.tallies in (
        ap (λ (d : PlanData). d.jobs) x.is ∙ alike.jobs ∙ sym (ap (λ (d : PlanData). d.jobs) y.is),
        ap (λ (d : PlanData). d.sources) x.is ∙ alike.sources ∙ sym (ap (λ (d : PlanData). d.sources) y.is),
      )

pub ruleset run_rules = (run_plan)
