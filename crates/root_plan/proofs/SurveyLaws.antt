-- A survey, path by path.
use Rattle.std.proofs.Common.{◌≡◌, ℕ, ◌+◌, ◌≤◌, ◌<◌, Bool, true, false, not, ◌&&◌, cond, List, [], length, take, map, get_or, refl, sym, ap, ◌∙◌, subst, arith, Option}
use Rattle.std.specs.Prelude.{String, count_by}
use Rattle.std.specs.declared.alloc.Global.{Global}
use Rattle.std.specs.String.{string_bytes}
use Rattle.std.proofs.lemmas.List.{take_more, length_push, get_or-map, length-map}
use Rattle.std.proofs.lemmas.List.Folds.{fold-map}
use Rattle.std.proofs.lemmas.List.Sums.{sum_by_push, sum_by-take-le}
use Rattle.dw_base.specs.declared.fault.Refusal.{Refusal}
use Rattle.file_tree.specs.declared.node.Found.{Found}
use Rattle.file_tree.specs.declared.node.Found.TheVariants as found
use Rattle.file_tree.specs.Trees.{TreeMap, is_below}
use Rattle.file_tree.specs.Seen.{Seen, now_of}
use Rattle.file_tree.specs.Causes.{Stood}
use Rattle.job_types.specs.Settings.{Settings}
use Rattle.job_types.specs.declared.outcome.Verdict.{Verdict}
use Rattle.job_types.specs.declared.outcome.Verdict.TheVariants.{Left, Edited, Split}
use Rattle.root_plan.specs.declared.plan_err.PlanErr.{PlanErr}
use Rattle.root_paths.specs.Roots.{is_outside, count_outside, may_be_candidate, debug_folder, most_outside}
use Rattle.root_paths.specs.Looks.{Looked}
use Rattle.root_plan.specs.Verdicts.{JudgeView, id_of}
use Rattle.root_plan.specs.Tallies.{Tally, with_verdict, edited_job, split_job, FileNoted, FoundNoted, Noted, Tallies, PathEnds}
use Rattle.root_plan.specs.Tallies.{FileNoted as note, Noted as notes, Tallies as tally, PathEnds as ends}
use Rattle.root_plan.specs.Plans.{PlanEnds}
use Rattle.root_plan.specs.Plans.{PlanEnds as plan}
use Rattle.root_paths.proofs.LookLaws.{looked_none, looked_then, rose_since}

-- ### Few files

outside-from : (a w d : Bool) → (a && w && d) ≡ true → w ≡ true
outside-from true true d e = refl
outside-from true false d e = cc
outside-from false w d e = cc

candidate-outside : (root path : List ℕ) → may_be_candidate root path ≡ true → is_outside root path ≡ true
unfolding may_be_candidate
candidate-outside root path e = outside-from (is_below root path) (is_outside root path) (not (is_below (debug_folder root) path)) e

abbrev files_of : Tally → ℕ
files_of t = length t.jobs + t.left

size-verdict : (t : Tally) (path bytes : List ℕ) (v : Verdict) → files_of (with_verdict t path bytes v) ≤ files_of t + 1
size-verdict t path bytes (Left why) = omega arith
size-verdict t path bytes (Edited names) = omega (arith, length_push t.jobs (edited_job path bytes))
size-verdict t path bytes (Split id names) = omega (arith, length_push t.jobs (split_job t.jobs path bytes (id_of id)))

size-file : (s : Settings) (v : JudgeView) (fails : List ℕ → List ℕ → Refusal → Type 0) (path bytes name : List ℕ) (t u : Tally) → FileNoted s v fails path bytes name t u → files_of u ≤ files_of t + 1
size-file s v fails path bytes name t u (note.judged {verdict} said) = size-verdict t path bytes verdict
size-file s v fails path bytes name t u (note.skipped unsaid f skip) = omega arith

size-found : (s : Settings) (v : JudgeView) (fails : List ℕ → List ℕ → Refusal → Type 0) (path below : List ℕ) (what : Found) (t u : Tally)
    → FoundNoted s v fails path below what t u → files_of u ≤ files_of t + 1
size-found s v fails path below found.Absent t u n = omega (arith, ap files_of n)
size-found s v fails path below found.Folder t u n = omega (arith, ap files_of n)
size-found s v fails path below (found.File bytes mode) t u n = size-file s v fails below bytes _ t u n.noted
size-found s v fails path below (found.Link target) t u n = omega (arith, ap files_of n)
size-found s v fails path below (found.TooLarge size) t u n = absurd n

size-path : (old : Option TreeMap) (root : List ℕ) (s : Settings) (v : JudgeView) (fails : List ℕ → List ℕ → Refusal → Type 0) (path : List ℕ) (t u : Tally)
    → Noted old root s v fails path t u → files_of u ≤ files_of t + cond (is_outside root path) 1 0
size-path old root s v fails path t u (notes.apart other) = omega arith
size-path old root s v fails path t u (notes.there {what} may stood n) = rw (candidate-outside root path may) (size-found s v fails path _ what t u n)

pub few_tallied : (old : Option TreeMap) (root : List ℕ) (s : Settings) (v : JudgeView) (fails : List ℕ → List ℕ → Refusal → Type 0) (all : List (List ℕ)) (u : Tally)
    → Tallies old root s v fails all u → length u.jobs + u.left ≤ count_outside root all
few_tallied old root s v fails all u tally.none = omega arith
few_tallied old root s v fails all u (tally.more {paths} {path} {t} ts n) =
    omega (arith, few_tallied old root s v fails paths t ts, size-path old root s v fails path t u n, sum_by_push (λ (p : List ℕ). cond (is_outside root p) 1 0) paths path)

pub few_jobs : (old : Option TreeMap) (root : List ℕ) (s : Settings) (v : JudgeView) (fails : List ℕ → List ℕ → Refusal → Type 0) (paths : List (List ℕ)) (n : ℕ) (t : Tally)
    → Tallies old root s v fails (take n paths) t → count_outside root paths ≤ most_outside → length t.jobs < 4294967295
few_jobs old root s v fails paths n t ts few =
    omega (arith, few_tallied old root s v fails (take n paths) t ts, sum_by-take-le (λ (p : List ℕ). cond (is_outside root p) 1 0) paths n, few)

pub few_left : (old : Option TreeMap) (root : List ℕ) (s : Settings) (v : JudgeView) (fails : List ℕ → List ℕ → Refusal → Type 0) (paths : List (List ℕ)) (n : ℕ) (t : Tally)
    → Tallies old root s v fails (take n paths) t → count_outside root paths ≤ most_outside → t.left < 4294967296
few_left old root s v fails paths n t ts few =
    omega (arith, few_tallied old root s v fails (take n paths) t ts, sum_by-take-le (λ (p : List ℕ). cond (is_outside root p) 1 0) paths n, few)

-- how many paths lie outside, as a program counts texts
pub count_texts : (root : List ℕ) (paths : List (String Global)) (n : ℕ) → n ≡ count_by (λ p. is_outside root (string_bytes p)) paths → n ≡ count_outside root (map string_bytes paths)
count_texts root paths n is = is ∙ sym (fold-map (λ (a : ℕ) (p : List ℕ). a + cond (is_outside root p) 1 0) (λ (s : String Global). string_bytes s) 0 paths)

pub ruleset outside_rules = (count_texts)

-- ### One path more

pub one_more : (old now : Option TreeMap) (root : List ℕ) (s : Settings) (v : JudgeView) (fails : List ℕ → List ℕ → Refusal → Type 0) (paths : List (List ℕ)) (path : List ℕ) (n : ℕ) (t u : Tally)
    → n < length paths → path ≡ get_or paths n [] → now ≡ old → Tallies old root s v fails (take n paths) t → Noted now root s v fails path t u
    → Tallies old root s v fails (take (n + 1) paths) u
one_more old now root s v fails paths path n t u l is same ts noted =
    let here : Noted old root s v fails (get_or paths n []) t u = subst (λ (p : List ℕ). Noted old root s v fails p t u) is (subst (λ (o : Option TreeMap). Noted o root s v fails path t u) same noted) in
    subst (λ (ps : List (List ℕ)). Tallies old root s v fails ps u) (sym (take_more paths n [] l)) (tally.more ts here)

ends_before : (a b c : Seen) (root : List ℕ) (s : Settings) (v : JudgeView) (fails : List ℕ → List ℕ → Refusal → Type 0) (path : List ℕ) (e : PlanErr)
    → Looked a b → PathEnds b c root s v fails path e → PathEnds a c root s v fails path e
ends_before a b c root s v fails path e looked (ends.at_found {what} may stood ended) = ends.at_found may (subst (λ (o : Option TreeMap). Stood o path s.max_file what) looked.now stood) ended
ends_before a b c root s v fails path e looked (ends.failed rose) = ends.failed (rose_since a b c looked rose)
ends_before a b c root s v fails path e looked ends.no_memory = ends.no_memory

pub ends_there : (a b c : Seen) (root : List ℕ) (s : Settings) (v : JudgeView) (fails : List ℕ → List ℕ → Refusal → Type 0) (paths : List (List ℕ)) (path : List ℕ) (n : ℕ) (t : Tally) (e : PlanErr)
    → count_outside root paths ≤ most_outside → n < length paths → path ≡ get_or paths n [] → Looked a b → Tallies (now_of a) root s v fails (take n paths) t
    → PathEnds b c root s v fails path e → PlanEnds a c root paths s v fails e
ends_there a b c root s v fails paths path n t e few l is looked ts ended =
    plan.at_path n few l ts (subst (λ (p : List ℕ). PathEnds a c root s v fails p e) is (ends_before a b c root s v fails path e looked ended))

-- the path of a number
pub path_at : (paths : List (String Global)) (n : ℕ) (d : String Global) (path : List ℕ) → n < length paths → path ≡ string_bytes (get_or paths n d) → path ≡ get_or (map string_bytes paths) n []
path_at paths n d path l is = is ∙ sym (get_or-map (λ (s : String Global). string_bytes s) paths n d [] l)

pub ruleset survey_rules = (few_jobs, few_left, looked_none, looked_then)

pub index_mapped : (paths : List (String Global)) (n : ℕ) → n < length paths → n < length (map string_bytes paths)
index_mapped paths n l = subst (λ (k : ℕ). n < k) (sym (length-map paths (λ (s : String Global). string_bytes s))) l
