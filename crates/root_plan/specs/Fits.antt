-- What a plan's jobs are to a journal is fit: each job has 1 to 4 steps, and makes one node a step, of the planned file alone
-- and in one way.
use Rattle.std.proofs.Common.{◌≡◌, ◌<◌, ℕ, Bool, true, false, List, [], ◌∷◌, ◌++◌, length, map, get_or, refl, sym, ◌∙◌, ap, subst, lit<, lit≤}
use Rattle.std.specs.Prelude.{◌≤◌, if◌then◌else◌}
use Rattle.std.proofs.lemmas.List.{length-map, get_or-map}
use Rattle.file_tree.specs.declared.node.Node.{Node}
use Rattle.file_tree.specs.declared.node.Node.TheVariants as node
use Rattle.work_texts.specs.declared.plan.JobLine.{JobLine}
use Rattle.work_journal.specs.Views.{IsMaker}
use Rattle.root_plan.specs.Targets.{has_links, targets_of, debug_name, debug_path, link_target}
use Rattle.root_plan.specs.Verdicts.{JudgeView, IsJudge, Pair}
use Rattle.job_types.specs.Modes.{not_executable}
use Rattle.root_plan.specs.Makers.{pair_nodes, EditedNodes, NodesOf, no_job, job_at, plan_view, plan_makes}
use Rattle.root_plan.specs.Makers.{EditedNodes as edits}

-- how many targets a job has, by whether it is split and has links
abbrev target_count : Bool → Bool → ℕ
target_count true true = 4
target_count true false = 2
target_count false links = 1

targets-by : (s l : Bool) (d a b p : List ℕ) → length ((if s then d ∷ (if l then a ∷ b ∷ [] else []) else []) ++ p ∷ []) ≡ target_count s l
targets-by true true d a b p = refl
targets-by true false d a b p = refl
targets-by false l d a b p = refl

targets-count : (job : JobLine) → length (targets_of job) ≡ target_count job.split (has_links job)
targets-count job = targets-by job.split (has_links job) _ _ _ job.path

some-by : (s l : Bool) → 0 < target_count s l
some-by true true = lit< tt
some-by true false = lit< tt
some-by false l = lit< tt

most-by : (s l : Bool) → target_count s l ≤ 4
most-by true true = lit≤ tt
most-by true false = lit≤ tt
most-by false l = lit≤ tt

-- as many nodes
pair-by : (l : Bool) (a b d s : Node) → length (d ∷ ((if l then a ∷ b ∷ [] else []) ++ s ∷ [])) ≡ target_count true l
pair-by true a b d s = refl
pair-by false a b d s = refl

pair-count : (job : JobLine) (mode : ℕ) (pair : Pair) → length (pair_nodes job mode pair) ≡ target_count true (has_links job)
pair-count job mode pair = pair-by (has_links job) (node.Link (link_target job.path)) (node.Link (link_target (debug_path job.path))) (node.File pair.debug (not_executable mode)) (node.File pair.stripped mode)

edited-count : (v : JudgeView) (job : JobLine) (file : List ℕ) (mode : ℕ) (ns : List Node) → EditedNodes v job file mode ns → length ns ≡ target_count job.split (has_links job)
edited-count v job file mode ns (edits.one_file s) = sym (ap (λ (b : Bool). target_count b (has_links job)) s)
edited-count v job file mode ns (edits.two_files {pair} s e) = pair-count job mode pair ∙ sym (ap (λ (b : Bool). target_count b (has_links job)) s)

nodes-count : (v : JudgeView) (job : JobLine) (bytes : List ℕ) (mode : ℕ) (ns : List Node) → NodesOf v job bytes mode ns → length ns ≡ length (targets_of job)
nodes-count v job bytes mode ns made = edited-count v job made.file mode ns made.makes ∙ sym (targets-count job)

-- and they are made in one way
not-both : (b : Bool) → b ≡ true → b ≡ false → ⊥
not-both true e f = cc
not-both false e f = cc

edited-one : (v : JudgeView) (judge : IsJudge v) (job : JobLine) (file : List ℕ) (mode : ℕ) (ns ms : List Node) → EditedNodes v job file mode ns → EditedNodes v job file mode ms → ns ≡ ms
edited-one v judge job file mode ns ms (edits.one_file s) (edits.one_file t) = refl
edited-one v judge job file mode ns ms (edits.one_file s) (edits.two_files t e) = absurd (not-both job.split t s)
edited-one v judge job file mode ns ms (edits.two_files s e) (edits.one_file t) = absurd (not-both job.split s t)
edited-one v judge job file mode ns ms (edits.two_files {pair = p} s e) (edits.two_files {pair = q} t f) =
    ap (λ (x : Pair). pair_nodes job mode x) (judge.one_pair file (debug_name job.path) p q e f)

nodes-one : (v : JudgeView) (judge : IsJudge v) (job : JobLine) (bytes : List ℕ) (mode : ℕ) (ns ms : List Node) → NodesOf v job bytes mode ns → NodesOf v job bytes mode ms → ns ≡ ms
nodes-one v judge job bytes mode ns ms a b =
    edited-one v judge job b.file mode ns ms (subst (λ (f : List ℕ). EditedNodes v job f mode ns) (judge.one_file bytes a.file b.file a.edits b.edits) a.makes) b.makes

count-at : (jobs : List JobLine) (j : ℕ) → j < length (map (λ (job : JobLine). length (targets_of job)) jobs)
    → get_or (map (λ (job : JobLine). length (targets_of job)) jobs) j 0 ≡ length (targets_of (job_at jobs j))
count-at jobs j l = get_or-map (λ (job : JobLine). length (targets_of job)) jobs j no_job 0 (subst (λ (n : ℕ). j < n) (length-map jobs (λ (job : JobLine). length (targets_of job))) l)

pub plan_fits : (root : List ℕ) (jobs : List JobLine) (v : JudgeView) → IsJudge v → IsMaker (plan_view root jobs) (plan_makes jobs v)
plan_fits root jobs v judge = record {
  some = λ j l. subst (λ (n : ℕ). 0 < n) (sym (count-at jobs j l ∙ targets-count (job_at jobs j))) (some-by (job_at jobs j).split (has_links (job_at jobs j)));
  most = λ j l. subst (λ (n : ℕ). n ≤ 4) (sym (count-at jobs j l ∙ targets-count (job_at jobs j))) (most-by (job_at jobs j).split (has_links (job_at jobs j)));
  of_planned = λ j bytes mode ns made. made.planned;
  one_each = λ j bytes mode ns l made. nodes-count v (job_at jobs j) bytes mode ns made ∙ sym (count-at jobs j l);
  one = λ j bytes mode ns ms a b. nodes-one v judge (job_at jobs j) bytes mode ns ms a b;
}
