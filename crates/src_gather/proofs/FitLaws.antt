-- The plan of a gather is one that the work folder may have: its key, jobs and sources are fit, and its report is a text.
use Rattle.std.proofs.Common.{◌≡◌, ℕ, ◌≤◌, ◌<◌, ◌^◌, false, List, [], ◌∷◌, ◌++◌, length, Option, refl, sym, subst, arith}
use Rattle.std.specs.Prelude.{codes}
use Rattle.std.specs.Fmt.{decimal}
use Rattle.std.specs.List.{All, AllByRecursion}
use Rattle.std.proofs.lemmas.List.Elements.{All-nil, All-push, recursion_from_All}
use Rattle.dw_base.specs.Texts.{has_nul}
use Rattle.dw_base.proofs.PathLaws.{IsPathMap-made}
use Rattle.file_tree.specs.Trees.{TreeMap}
use Rattle.work_texts.specs.declared.plan.JobLine.{JobLine}
use Rattle.work_texts.specs.declared.plan.PlanData.{PlanData}
use Rattle.work_texts.specs.Rules.{IsJob, IsPlan, text_limit}
use Rattle.work_texts.proofs.RisingTexts.{path_bare}
use Rattle.root_plan.specs.Tallies.{edited_job}
use Rattle.root_plan.proofs.WholeLaws.{edited-fits, fewer-jobs, fewer-sources, part-bare}
use Rattle.src_gather.specs.Asked.{IsAsked}
use Rattle.src_gather.specs.Gathering.{Gathering, Noted, Gathers, IsGathering, IsGatherPlan, names_of, plan_length, plan_of, report_text}
use Rattle.src_gather.specs.Gathering.{Noted as note, Gathers as gathers}
use Rattle.src_gather.proofs.OrderLaws.{jobs-order, order-rises}

pub few-planned : (p : PlanData) → plan_length p ≤ text_limit → length p.jobs < 2 ^ 32
few-planned p within = let few : length p.jobs ≤ text_limit = fewer-jobs p within in omega (arith, few)

report-bare : (a b : ℕ) → has_nul (report_text a b) ≡ false
unfolding report_text
report-bare a b = part-bare (codes "gathered ") a (codes ", missing " ++ (decimal b ++ codes "\n")) refl (part-bare (codes ", missing ") b (codes "\n") refl refl)

abbrev IsName : List ℕ → Type 0
IsName name = has_nul name ≡ false

-- each job is fit
module _ (old : Option TreeMap) (root from dest : List ℕ) where
  noted-fits : (name : List ℕ) (g h : Gathering) → Noted old root from dest name g h → All IsJob g.jobs → All IsJob h.jobs
  noted-fits name g h (note.unfit unfit) a = a
  noted-fits name g h (note.no_file fit short none) a = a
  noted-fits name g h (note.gathered {bytes} fit short read) a = All-push IsJob g.jobs (edited_job name bytes) a (edited-fits name bytes fit)

  jobs-fit : (names : List (List ℕ)) (g : Gathering) → Gathers old root from dest names g → All IsJob g.jobs
  jobs-fit names g gathers.none = All-nil IsJob
  jobs-fit names h (gathers.more {names = ns} {name} {g} gs noted) = noted-fits name g h noted (jobs-fit ns g gs)

  names-bare : (jobs : List JobLine) → AllByRecursion IsJob jobs → AllByRecursion IsName (names_of jobs)
  names-bare [] a = tt
  names-bare (j ∷ js) a = (path_bare j.path a.0.path, names-bare js a.1)

  whole : (g : Gathering) → IsAsked root from dest → IsGathering old root from dest g → plan_length (plan_of from dest g) ≤ text_limit → IsPlan (plan_of from dest g)
  whole g asked is within =
      let fit : AllByRecursion IsJob g.jobs = recursion_from_All IsJob g.jobs (jobs-fit is.names g is.gathers) in
      let rise = order-rises (names_of g.jobs) (jobs-order old root from dest is.names g is.gathers is.list.are.in_order) in
      let jobs : length g.jobs ≤ text_limit = fewer-jobs (plan_of from dest g) within in
      let sources : length (names_of g.jobs) ≤ text_limit = fewer-sources (plan_of from dest g) within in
      record {
        key = record { map = IsPathMap-made dest dest asked.is_dest.prefix asked.is_dest.prefix; seed = asked.seed; low = omega arith; high = omega arith };
        report = report-bare (length g.jobs) g.missing;
        job_count = omega (arith, jobs);
        jobs = fit;
        job_order = rise;
        source_count = omega (arith, sources);
        sources = names-bare g.jobs fit;
        source_order = rise;
      }

  pub plan-fits : (present : List (List ℕ)) (p : PlanData) → IsAsked root from dest → IsGatherPlan old root from dest present p → IsPlan p
  plan-fits present p asked is =
      subst IsPlan (sym is.is) (whole is.gathering asked is.gathers (subst (λ (q : PlanData). plan_length q ≤ text_limit) is.is is.within))
