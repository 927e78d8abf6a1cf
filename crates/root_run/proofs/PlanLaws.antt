-- A plan that a run carries out has the jobs of one that passes over the files that are refused, so what is known of a root's plans holds
-- of it too.
use Rattle.std.proofs.Common.{◌≡◌, ℕ, ◌≤◌, ◌+◌, Bool, true, false, List, [], ◌∷◌, ◌++◌, length, refl, sym, ap, subst, ◌∙◌}
use Rattle.std.specs.Prelude.{Option, codes}
use Rattle.std.specs.Fmt.{decimal}
use Rattle.std.specs.List.{All}
use Rattle.std.proofs.lemmas.List.{length-append}
use Rattle.std.proofs.lemmas.List.Elements.{All-weaker}
use Rattle.dw_base.proofs.TextLaws.{laid_texts-append}
use Rattle.dw_base.specs.Paths.{first_pair}
use Rattle.dw_base.specs.declared.fault.Refusal.{Refusal}
use Rattle.file_tree.specs.Trees.{TreeMap}
use Rattle.file_tree.specs.Causes.{AreInOrder}
use Rattle.job_types.specs.Settings.{Settings}
use Rattle.work_texts.specs.declared.plan.JobLine.{JobLine}
use Rattle.work_texts.specs.declared.plan.PlanData.{PlanData}
use Rattle.work_texts.specs.Fields.{Field, text_of, flag_field, more_fields, more_pairs, plan_rest}
use Rattle.work_texts.specs.Rules.{IsPlan, text_limit}
use Rattle.root_plan.specs.Jobs.{AreAsked, HasFile, Serves}
use Rattle.root_plan.specs.Plans.{IsPlanOf, IsRunPlan, plan_of, plan_length, skipping}
use Rattle.root_plan.specs.Roots.{in_root, may_be_candidate}
use Rattle.root_plan.specs.Tallies.{Tally}
use Rattle.root_plan.specs.Verdicts.{JudgeView}
use Rattle.root_plan.proofs.JobLaws.{JobsRise, jobs-rise}
use Rattle.root_plan.proofs.WholeLaws.{plan-fits, plan_serves}
use Rattle.root_run.proofs.TargetLaws.{AreFit}

-- ### The text is as long

size-one : (front back : List Field) (a : Field) → length (text_of (front ++ a ∷ back)) ≡ length (text_of front) + (length a + length (0 ∷ text_of back))
size-one front back a =
    ap (λ (t : List ℕ). length t) (laid_texts-append front (a ∷ back)) ∙ length-append (text_of front) (text_of (a ∷ back))
    ∙ ap (λ (n : ℕ). length (text_of front) + n) (length-append a (0 ∷ text_of back))

size-same : (front back : List Field) (a b : Field) → length a ≡ length b → length (text_of (front ++ a ∷ back)) ≡ length (text_of (front ++ b ∷ back))
size-same front back a b same =
    size-one front back a ∙ ap (λ (n : ℕ). length (text_of front) + (n + length (0 ∷ text_of back))) same ∙ sym (size-one front back b)

flag-size : (a b : Bool) → length (flag_field a) ≡ length (flag_field b)
flag-size true true = refl
flag-size true false = refl
flag-size false true = refl
flag-size false false = refl

-- the fields of a plan before the word on files that are refused, and behind it
abbrev fields_before : PlanData → List Field
fields_before p = codes "dbgplan 2" ∷ (first_pair p.key.maps).base ∷ (first_pair p.key.maps).dest ∷ flag_field p.key.build_id ∷ p.key.seed ∷ []

abbrev fields_behind : PlanData → List Field
fields_behind p = decimal p.key.max_file ∷ (more_fields false (more_pairs p.key) ++ plan_rest p)

plan-as-long : (s : Settings) (t : Tally) → plan_length (plan_of (skipping s) t) ≡ plan_length (plan_of s t)
plan-as-long s t = size-same (fields_before (plan_of s t)) (fields_behind (plan_of s t)) (flag_field true) (flag_field s.skip) (flag-size true s.skip)

module _ (old : Option TreeMap) (root : List ℕ) (s : Settings) (v : JudgeView) (fails : List ℕ → List ℕ → Refusal → Type 0) (present : List (List ℕ)) where
  pub as-planned : (p : PlanData) (is : IsRunPlan old root present s v fails p) → IsPlanOf old root present (skipping s) v fails (plan_of (skipping s) is.tally)
  as-planned p is = record {
    tally = is.tally;
    tallied = is.tallied;
    is = refl;
    can = is.can;
    within = subst (λ (n : ℕ). n ≤ text_limit) (ap plan_length is.is ∙ sym (plan-as-long s is.tally)) is.within;
  }

  run-jobs : (p : PlanData) (is : IsRunPlan old root present s v fails p) → is.tally.jobs ≡ p.jobs
  run-jobs p is = ap (λ (x : PlanData). x.jobs) (sym is.is)

  run-serves : (p : PlanData) (is : IsRunPlan old root present s v fails p) → Serves old root present (skipping s) v (plan_of (skipping s) is.tally)
  run-serves p is = plan_serves old root (skipping s) v fails present (plan_of (skipping s) is.tally) (as-planned p is)

  -- it has no more jobs than paths may stand outside the work folder
  pub run-few : (p : PlanData) → IsRunPlan old root present s v fails p → length p.jobs ≤ 200000
  run-few p is = subst (λ (jobs : List JobLine). length jobs ≤ 200000) (run-jobs p is) (run-serves p is).few

  -- each of its jobs has its file
  pub run-files : (p : PlanData) → IsRunPlan old root present s v fails p → All (HasFile old root (skipping s) v) p.jobs
  run-files p is = subst (All (HasFile old root (skipping s) v)) (run-jobs p is) (run-serves p is).files

  -- their targets differ
  pub run-fit : (p : PlanData) → AreInOrder present → IsRunPlan old root present s v fails p → AreFit root present p.jobs
  run-fit p order is =
      let rise : JobsRise root present is.tally = jobs-rise root old (skipping s) v fails present is.tally is.tallied.tallies order in
      subst (AreFit root present) (run-jobs p is) (record {
        free = is.can.free order;
        rise = rise.rise;
        among = rise.among;
        candidates = All-weaker (HasFile old root (skipping s) v) (λ job. may_be_candidate root (in_root root job.path) ≡ true) (λ job h. h.candidate) is.tally.jobs (run-serves p is).files;
      })

  -- and the work folder may have it
  pub run-fits : (p : PlanData) → AreAsked root present s v → IsRunPlan old root present s v fails p → IsPlan p
  run-fits p asked is =
      let asks : AreAsked root present (skipping s) v = record { judge = asked.judge; map = asked.map; limit = asked.limit; key = record { seed = asked.key.seed }; order = asked.order; paths = asked.paths } in
      let fits : IsPlan (plan_of (skipping s) is.tally) = plan-fits old root (skipping s) v fails present (plan_of (skipping s) is.tally) asks (as-planned p is) in
      subst IsPlan (sym is.is) (record {
        key = record { map = fits.key.map; seed = fits.key.seed; low = fits.key.low; high = fits.key.high };
        report = fits.report;
        job_count = fits.job_count;
        jobs = fits.jobs;
        job_order = fits.job_order;
        source_count = fits.source_count;
        sources = fits.sources;
        source_order = fits.source_order;
      })
