-- What is wanted by a plan of a gather can be given to a journal: names are told apart by their paths, nothing lay in the work folder, and
-- each job has its file.
use Rattle.std.proofs.Common.{◌≡◌, ◌≢◌, ℕ, zero, suc, ◌+◌, ◌≤◌, ◌<◌, ◌^◌, Bool, true, false, List, [], ◌∷◌, ◌++◌, length, map, get_or, nat_lt, refl, sym, ap, ◌∙◌, subst, append_assoc, lit<, lit≤, arith}
use Rattle.std.specs.Prelude.{None, Some}
use Rattle.std.proofs.lemmas.Bool.{ltb-true, ltb-false}
use Rattle.std.proofs.lemmas.List.{length-map, length_push, get_or-map, get_or_append_left, get_or_push}
use Rattle.sha1.specs.Sha1.{sha1}
use Rattle.file_tree.specs.declared.node.Node.{Node}
use Rattle.file_tree.specs.declared.node.Node.TheVariants as node
use Rattle.file_tree.specs.Trees.{TreeMap, keys_below}
use Rattle.journal_core.specs.Names.{IsStep, IsName, Name, plan_new, plan, temp, commit, fresh, final, target}
use Rattle.work_texts.specs.declared.plan.JobLine.{JobLine}
use Rattle.work_texts.specs.declared.plan.PlanData.{PlanData}
use Rattle.work_texts.specs.Rules.{rise_after, text_limit}
use Rattle.work_journal.specs.Ending.{end_nodes}
use Rattle.work_journal.specs.Files.{IsFile}
use Rattle.work_journal.specs.Files.{IsSource as source}
use Rattle.work_journal.specs.Finishing.{IsRun, plan_node}
use Rattle.work_journal.specs.Runs.{IsGiven}
use Rattle.work_journal.specs.Targets.{AreTargetsApart}
use Rattle.work_journal.specs.Wanted.{Wanted, path_of}
use Rattle.work_journal.proofs.ApartLaws.{target_apart}
use Rattle.root_paths.specs.Roots.{in_root}
use Rattle.root_plan.specs.Makers.{no_job, job_at}
use Rattle.root_plan.specs.Tallies.{edited_job}
use Rattle.root_run.specs.Wholes.{finished_text, no_node}
use Rattle.root_run.proofs.CountLaws.{rises-one}
use Rattle.root_run.proofs.MadeLaws.{read-stands}
use Rattle.src_gather.specs.Asked.{IsAsked}
use Rattle.src_gather.specs.Listed.{IsRead, copy_folder}
use Rattle.src_gather.specs.Gathering.{Gathering, Noted, Gathers, IsGatherPlan, names_of}
use Rattle.src_gather.specs.Gathering.{Noted as note, Gathers as gathers}
use Rattle.src_gather.specs.Makers.{copy_of, copy_view, copy_makes, gather_folder, lists_of, one_step}
use Rattle.src_gather.specs.Wholes.{IsClean, IsPlanned, IsSourceOf, wanted_of}
use Rattle.src_gather.proofs.FitLaws.{few-planned}
use Rattle.src_gather.proofs.FolderLaws.{copy-outside, source-copy, source-work}
use Rattle.src_gather.proofs.OrderLaws.{jobs-order, order-rises}

-- ### One step a job

steps-at : (jobs : List JobLine) (j : ℕ) → j < length (map one_step jobs) → get_or (map one_step jobs) j 0 ≡ 1
steps-at jobs j l = get_or-map one_step jobs j no_job 0 (subst (λ (n : ℕ). j < n) (length-map jobs one_step) l)

jobs-in : (jobs : List JobLine) (j : ℕ) → j < length (map one_step jobs) → j < length jobs
jobs-in jobs j l = subst (λ (n : ℕ). j < n) (length-map jobs one_step) l

step-zero : (jobs : List JobLine) (j k : ℕ) → IsStep (map one_step jobs) j k → k ≡ 0
step-zero jobs j k step = zero-by k (subst (λ (n : ℕ). k < n) (steps-at jobs j step.job_in) step.step_in)
  where
    zero-by : (k : ℕ) → k < 1 → k ≡ 0
    zero-by k l = omega (arith, l)

same-rest : (front xs ys : List ℕ) → front ++ xs ≡ front ++ ys → xs ≡ ys
same-rest [] xs ys e = e
same-rest (f ∷ front) xs ys e = same-rest front xs ys cc

in-one : (folder p q : List ℕ) → in_root folder p ≡ in_root folder q → p ≡ q
in-one folder p q e = same-rest (folder ++ 47 ∷ []) p q (append_assoc folder (47 ∷ []) p ∙ e ∙ sym (append_assoc folder (47 ∷ []) q))

-- ### Sources

-- the bytes that stood at the names of these jobs, and their digests
pub record HaveSources (start : TreeMap) (from : List ℕ) (jobs : List JobLine) : Type 0 where
  pub sources : List (List ℕ)
  pub same_length : length sources ≡ length jobs
  pub each : (j : ℕ) → j < length jobs → IsSourceOf start from (job_at jobs j).path (get_or sources j [])
  pub digests : (j : ℕ) → j < length jobs → sha1 (get_or sources j []) ≡ (job_at jobs j).digest

module _ (start : TreeMap) (root from dest : List ℕ) where
  none-have : HaveSources start from []
  none-have = record {
    sources = [];
    same_length = refl;
    each = λ j l. absurd (omega (arith, l));
    digests = λ j l. absurd (omega (arith, l));
  }

  -- what is known of the job behind some others
  record LastHas (name bytes : List ℕ) (job : JobLine) (source : List ℕ) : Type 0 where
    is_source : IsSourceOf start from job.path source
    digest : sha1 source ≡ job.digest

  last-has : (name bytes : List ℕ) → IsRead (Some start) (in_root from name) bytes → LastHas name bytes (edited_job name bytes) bytes
  last-has name bytes read =
      let s = read-stands start (in_root from name) text_limit bytes read.mode (read.stood.is start refl) in
      record { is_source = record { mode = read.mode; there = s.there; few = omega (arith, s.within) }; digest = refl }

  module _ (jobs : List JobLine) (name bytes : List ℕ) (have : HaveSources start from jobs) (read : IsRead (Some start) (in_root from name) bytes) where
    abbrev more-jobs : List JobLine
    more-jobs = jobs ++ edited_job name bytes ∷ []

    abbrev more-sources : List (List ℕ)
    more-sources = have.sources ++ bytes ∷ []

    old-job : (j : ℕ) → j < length jobs → job_at more-jobs j ≡ job_at jobs j
    old-job j l = get_or_append_left jobs (edited_job name bytes ∷ []) no_job j l

    old-source : (j : ℕ) → j < length jobs → get_or more-sources j [] ≡ get_or have.sources j []
    old-source j l = get_or_append_left have.sources (bytes ∷ []) [] j (subst (λ (n : ℕ). j < n) (sym have.same_length) l)

    new-job : (j : ℕ) → length jobs ≡ j → job_at more-jobs j ≡ edited_job name bytes
    new-job j e = get_or_push jobs (edited_job name bytes) no_job j e

    new-source : (j : ℕ) → length jobs ≡ j → get_or more-sources j [] ≡ bytes
    new-source j e = get_or_push have.sources bytes [] j (have.same_length ∙ e)

    each-by : (j : ℕ) (b : Bool) → nat_lt j (length jobs) ≡ b → j < length more-jobs → LastHas name bytes (job_at more-jobs j) (get_or more-sources j [])
    each-by j true t l =
        let lt : j < length jobs = ltb-true j (length jobs) t in record {
          is_source = subst (λ (x : List ℕ). IsSourceOf start from (job_at more-jobs j).path x) (sym (old-source j lt))
              (subst (λ (x : JobLine). IsSourceOf start from x.path (get_or have.sources j [])) (sym (old-job j lt)) (have.each j lt));
          digest = ap sha1 (old-source j lt) ∙ have.digests j lt ∙ ap (λ (x : JobLine). x.digest) (sym (old-job j lt));
        }
    each-by j false t l =
        let last : length jobs ≡ j = omega (arith, l, ltb-false j (length jobs) t, length_push jobs (edited_job name bytes)) in
        let new = last-has name bytes read in record {
          is_source = subst (λ (x : List ℕ). IsSourceOf start from (job_at more-jobs j).path x) (sym (new-source j last))
              (subst (λ (x : JobLine). IsSourceOf start from x.path bytes) (sym (new-job j last)) new.is_source);
          digest = ap sha1 (new-source j last) ∙ new.digest ∙ ap (λ (x : JobLine). x.digest) (sym (new-job j last));
        }

    more-have : HaveSources start from more-jobs
    more-have = record {
      sources = more-sources;
      same_length = length_push have.sources bytes ∙ ap (λ (n : ℕ). n + 1) have.same_length ∙ sym (length_push jobs (edited_job name bytes));
      each = λ j l. (each-by j (nat_lt j (length jobs)) refl l).is_source;
      digests = λ j l. (each-by j (nat_lt j (length jobs)) refl l).digest;
    }

  noted-have : (name : List ℕ) (g h : Gathering) → Noted (Some start) root from dest name g h → HaveSources start from g.jobs → HaveSources start from h.jobs
  noted-have name g h (note.unfit unfit) have = have
  noted-have name g h (note.no_file fit short none) have = have
  noted-have name g h (note.gathered {bytes} fit short read) have = more-have g.jobs name bytes have read

  jobs-have : (names : List (List ℕ)) (g : Gathering) → Gathers (Some start) root from dest names g → HaveSources start from g.jobs
  jobs-have names g gathers.none = none-have
  jobs-have names h (gathers.more {names = ns} {name} {g} gs noted) = noted-have name g h noted (jobs-have ns g gs)

  -- a plan of the tree before has the bytes of its sources
  pub plan-have : (present : List (List ℕ)) (p : PlanData) → IsGatherPlan (Some start) root from dest present p → HaveSources start from p.jobs
  plan-have present p is = subst (λ (q : PlanData). HaveSources start from q.jobs) (sym is.is) (jobs-have is.gathers.names is.gathering is.gathers.gathers)

  pub plan-planned : (p : PlanData) (is : IsGatherPlan (Some start) root from dest (keys_below start root) p)
      → IsPlanned start root from dest p (plan-have (keys_below start root) p is).sources
  plan-planned p is =
      let have = plan-have (keys_below start root) p is in
      record { plan_is = is; jobs = record { same_length = have.same_length; each = have.each } }

-- ### A plan and its sources

any-default : {A : Type 0} (xs : List A) (i : ℕ) (d e : A) → i < length xs → get_or xs i d ≡ get_or xs i e
any-default [] i d e l = absurd (omega (arith, l))
any-default (x ∷ xs) zero d e l = refl
any-default (x ∷ xs) (suc i) d e l = any-default xs i d e (omega (arith, l))

one-node : (n : Node) (k : ℕ) (d : Node) → k < 1 → get_or (n ∷ []) k d ≡ n
one-node n zero d l = refl
one-node n (suc k) d l = absurd (omega (arith, l))

same-file : (a b : List ℕ) (m n : ℕ) → Some (node.File a m) ≡ Some (node.File b n) → a ≡ b
same-file a b m n e = cc

module _ (start : TreeMap) (root from dest : List ℕ) (asked : IsAsked root from dest) (p : PlanData) (sources : List (List ℕ)) (is : IsPlanned start root from dest p sources) where
  abbrev W : Wanted
  W = wanted_of start root dest p sources

  rise : rise_after None (names_of p.jobs) ≡ true
  rise =
      let g = is.plan_is.gathers in
      subst (λ (q : PlanData). rise_after None (names_of q.jobs) ≡ true) (sym is.plan_is.is)
      (order-rises (names_of is.plan_is.gathering.jobs) (jobs-order (Some start) root from dest g.names is.plan_is.gathering g.gathers g.list.are.in_order))

  name-at : (j : ℕ) → j < length p.jobs → get_or (names_of p.jobs) j [] ≡ (job_at p.jobs j).path
  name-at j l = get_or-map (λ (job : JobLine). job.path) p.jobs j no_job [] l

  names-in : (j : ℕ) → j < length p.jobs → j < length (names_of p.jobs)
  names-in j l = subst (λ (n : ℕ). j < n) (sym (length-map p.jobs (λ (job : JobLine). job.path))) l

  copies-differ : (i j : ℕ) → i < length p.jobs → j < length p.jobs → in_root (copy_folder root dest) (job_at p.jobs i).path ≡ in_root (copy_folder root dest) (job_at p.jobs j).path → i ≡ j
  copies-differ i j a b same =
      rises-one (names_of p.jobs) i j rise (names-in i a) (names-in j b)
      (name-at i a ∙ in-one (copy_folder root dest) (job_at p.jobs i).path (job_at p.jobs j).path same ∙ sym (name-at j b))

  pub targets-apart : AreTargetsApart W
  targets-apart = record {
    jobs =
        let few : length p.jobs < 2 ^ 32 = few-planned p is.plan_is.within in
        subst (λ (n : ℕ). n ≤ 2 ^ 32) (sym (length-map p.jobs one_step)) (omega (arith, few));
    some = λ j l. subst (λ (n : ℕ). 0 < n) (sym (steps-at p.jobs j l)) (lit< tt);
    most = λ j l. subst (λ (n : ℕ). n ≤ 4) (sym (steps-at p.jobs j l)) (lit≤ tt);
    outside = λ j k step below. copy-outside root dest (job_at p.jobs j).path asked.is_dest below;
    differ = λ i k j l a b same. (copies-differ i j (jobs-in p.jobs i a.job_in) (jobs-in p.jobs j b.job_in) same, step-zero p.jobs i k a ∙ sym (step-zero p.jobs j l b));
  }

  pub wanted-given : IsClean start root → IsGiven W (gather_folder root)
  wanted-given clean = record {
    work_is = refl;
    apart = target_apart W targets-apart (record { plans = refl; temps = λ j k. refl; texts = λ i. refl });
    is_work = record { clean = clean.none_below; outside = targets-apart.outside };
  }

  -- a source is no path of the gather
  source-apart : (path : List ℕ) (n : Name) → IsName (map one_step p.jobs) n → in_root from path ≢ path_of W n
  source-apart path plan_new at e = source-work root from dest asked path plan_new e
  source-apart path plan at e = source-work root from dest asked path plan e
  source-apart path (temp j k) at e = source-work root from dest asked path (temp j k) e
  source-apart path (commit j) at e = source-work root from dest asked path (commit j) e
  source-apart path (fresh i) at e = source-work root from dest asked path (fresh i) e
  source-apart path (final i) at e = source-work root from dest asked path (final i) e
  source-apart path (target j k) at e = source-copy root from dest asked path (job_at p.jobs j).path e

  -- the bytes that were planned are those of the sources
  planned-bytes : (j : ℕ) → j < length p.jobs → sha1 (get_or sources j []) ≡ (job_at p.jobs j).digest
  planned-bytes j l =
      let have = plan-have start root from dest (keys_below start root) p is.plan_is in
      ap sha1 (same-file (get_or sources j []) (get_or have.sources j []) (is.jobs.each j l).mode (have.each j l).mode (sym (is.jobs.each j l).there ∙ (have.each j l).there)) ∙ have.digests j l

  file-of : (j : ℕ) → j < length (map one_step p.jobs) → IsFile W (copy_view (copy_folder root dest) from p.jobs) (copy_makes p.jobs) j
  file-of j l =
      let s = is.jobs.each j (jobs-in p.jobs j l) in record {
        bytes = get_or sources j [];
        mode = s.mode;
        there = s.there;
        few = s.few;
        nodes = copy_of (get_or sources j []) ∷ [];
        made = record { planned = planned-bytes j (jobs-in p.jobs j l); is = refl };
        are_nodes = λ k d lt. sym (one-node (copy_of (get_or sources j [])) k d lt);
        source = source.is_apart (λ n at. source-apart (job_at p.jobs j).path n at);
      }

  pub wanted-run : IsRun W (copy_view (copy_folder root dest) from p.jobs) (copy_makes p.jobs) (plan_node p) (end_nodes (lists_of p) (finished_text p))
  wanted-run = record {
    puts = refl;
    jobs = record {
      files = record {
        steps_are = refl;
        made = record { outputs = λ j l k lt. refl; marks = λ j. refl };
        files = file-of;
      };
      ends = λ i d lt. any-default (end_nodes (lists_of p) (finished_text p)) i no_node d lt;
    };
  }
