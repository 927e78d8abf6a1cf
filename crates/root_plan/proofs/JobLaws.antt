-- The jobs of a run: each has its file, and their paths rise.
use Rattle.std.proofs.Common.{◌≡◌, ℕ, suc, Bool, true, false, ◌&&◌, not, List, [], ◌∷◌, ◌++◌, length, map, drop, nat_eq, Option, Some, None, refl, sym, ap, ◌∙◌, subst, add-one}
use Rattle.std.specs.Prelude.{IsTrue, Contains}
use Rattle.std.specs.declared.cmp.Ordering.{Ordering}
use Rattle.std.specs.declared.cmp.Ordering.TheVariants.{Less}
use Rattle.std.specs.Ordering.{is_lt, ordering_then}
use Rattle.std.specs.List.{All, AllByRecursion, starts_with}
use Rattle.std.specs.List.Sorted.{IsStrictlySortedBy}
use Rattle.std.proofs.lemmas.List.{map-append}
use Rattle.std.proofs.lemmas.List.Elements.{All-nil, All-push, All-weaker, All-contains, All-map, All-from_recursion, recursion_from_All, Contains-append_left, Contains-push}
use Rattle.sha1.specs.Sha1.{sha1}
use Rattle.dw_base.specs.declared.fault.Refusal.{Refusal}
use Rattle.file_tree.specs.declared.node.Found.{Found}
use Rattle.file_tree.specs.declared.node.Found.TheVariants as found
use Rattle.file_tree.specs.Trees.{TreeMap, is_below}
use Rattle.file_tree.specs.Causes.{AreInOrder, Stood}
use Rattle.job_types.specs.Settings.{Settings}
use Rattle.job_types.specs.declared.outcome.Verdict.{Verdict}
use Rattle.job_types.specs.declared.outcome.Verdict.TheVariants.{Left, Edited, Split}
use Rattle.work_texts.specs.declared.plan.JobLine.{JobLine}
use Rattle.work_texts.specs.Rules.{comes_after, rise_after, path_of}
use Rattle.root_paths.specs.Roots.{in_root, below_root, is_outside, may_be_candidate, debug_folder}
use Rattle.root_plan.specs.Targets.{debug_name}
use Rattle.root_plan.specs.Verdicts.{JudgeView, id_of}
use Rattle.root_plan.specs.Tallies.{Tally, FileNoted, FoundNoted, Noted, Tallies, split_job, edited_job, with_verdict}
use Rattle.root_plan.specs.Tallies.{FileNoted as note, Noted as notes, Tallies as tally}
use Rattle.root_plan.specs.Jobs.{ComesOf, HasFile}
use Rattle.root_plan.specs.Jobs.{ComesOf as comes}
use Rattle.root_paths.proofs.SearchLaws.{first-same, cmp_self}
use Rattle.root_paths.proofs.PlaceLaws.{compared}

-- ### A path of the tree, from one below the root

back-behind : (root path : List ℕ) → starts_with nat_eq path (root ++ 47 ∷ []) ≡ true → root ++ 47 ∷ drop (suc (length root)) path ≡ path
back-behind [] [] e = cc
back-behind [] (c ∷ cs) e = ap (λ (x : ℕ). x ∷ cs) (first-same 47 c true e).0
back-behind (r ∷ rs) [] e = cc
back-behind (r ∷ rs) (c ∷ cs) e =
    let p = first-same r c (starts_with nat_eq cs (rs ++ 47 ∷ [])) e in
    ap (λ (x : ℕ). x ∷ (rs ++ 47 ∷ drop (suc (length rs)) cs)) p.0 ∙ ap (λ (t : List ℕ). c ∷ t) (back-behind rs cs p.1)

below-from : (a w d : Bool) → (a && w && d) ≡ true → a ≡ true
below-from true w d e = refl
below-from false w d e = e

pub back : (root path : List ℕ) → may_be_candidate root path ≡ true → in_root root (below_root root path) ≡ path
unfolding may_be_candidate
back root path e =
    ap (λ (n : ℕ). root ++ 47 ∷ drop n path) (add-one (length root))
    ∙ back-behind root path (below-from (is_below root path) (is_outside root path) (not (is_below (debug_folder root) path)) e)

module _ (old : Option TreeMap) (root : List ℕ) (s : Settings) (v : JudgeView) (fails : List ℕ → List ℕ → Refusal → Type 0) where
  -- ### Files

  file-of : (path bytes : List ℕ) (mode : ℕ) (job : JobLine) (verdict : Verdict) → may_be_candidate root path ≡ true → Stood old path s.max_file (found.File bytes mode)
      → (job.path ≡ below_root root path) × (job.digest ≡ sha1 bytes) → v.says bytes (debug_name (below_root root path)) verdict → ComesOf job verdict → HasFile old root s v job
  file-of path bytes mode job verdict may stood is said comes =
      let at : path ≡ in_root root job.path = sym (ap (in_root root) is.0 ∙ back root path may) in record {
        bytes = bytes;
        mode = mode;
        verdict = verdict;
        candidate = subst (λ (p : List ℕ). may_be_candidate root p ≡ true) at may;
        stood = subst (λ (p : List ℕ). Stood old p s.max_file (found.File bytes mode)) at stood;
        digest = is.1;
        said = subst (λ (p : List ℕ). v.says bytes (debug_name p) verdict) (sym is.0) said;
        comes = comes;
      }

  abbrev Files : Tally → Type 0
  Files t = All (HasFile old root s v) t.jobs

  verdict-files : (path bytes : List ℕ) (mode : ℕ) (t : Tally) (verdict : Verdict) → may_be_candidate root path ≡ true → Stood old path s.max_file (found.File bytes mode)
      → v.says bytes (debug_name (below_root root path)) verdict → Files t → Files (with_verdict t (below_root root path) bytes verdict)
  verdict-files path bytes mode t (Left why) may stood said files = files
  verdict-files path bytes mode t (Edited names) may stood said files =
      All-push (HasFile old root s v) t.jobs (edited_job (below_root root path) bytes) files
      (file-of path bytes mode (edited_job (below_root root path) bytes) (Edited names) may stood (refl, refl) said (comes.of_edited refl refl))
  verdict-files path bytes mode t (Split id names) may stood said files =
      All-push (HasFile old root s v) t.jobs (split_job t.jobs (below_root root path) bytes (id_of id)) files
      (file-of path bytes mode (split_job t.jobs (below_root root path) bytes (id_of id)) (Split id names) may stood (refl, refl) said (comes.of_split refl refl))

  noted-files : (path bytes : List ℕ) (mode : ℕ) (t u : Tally) → may_be_candidate root path ≡ true → Stood old path s.max_file (found.File bytes mode)
      → FileNoted s v fails (below_root root path) bytes (debug_name (below_root root path)) t u → Files t → Files u
  noted-files path bytes mode t u may stood (note.judged {verdict} said) files = verdict-files path bytes mode t verdict may stood said files
  noted-files path bytes mode t u may stood (note.skipped unsaid f skip) files = files

  found-files : (path : List ℕ) (what : Found) (t u : Tally) → may_be_candidate root path ≡ true → Stood old path s.max_file what → FoundNoted s v fails path (below_root root path) what t u
      → Files t → Files u
  found-files path found.Absent t u may stood n files = subst Files (sym n) files
  found-files path found.Folder t u may stood n files = subst Files (sym n) files
  found-files path (found.File bytes mode) t u may stood n files = noted-files path bytes mode t u may stood n.noted files
  found-files path (found.Link target) t u may stood n files = subst Files (sym n) files
  found-files path (found.TooLarge size) t u may stood n files = absurd n

  path-files : (path : List ℕ) (t u : Tally) → Noted old root s v fails path t u → Files t → Files u
  path-files path t u (notes.apart other) files = files
  path-files path t u (notes.there {what} may stood n) files = found-files path what t u may stood n files

  -- each job has its file
  pub jobs-have-files : (paths : List (List ℕ)) (t : Tally) → Tallies old root s v fails paths t → All (HasFile old root s v) t.jobs
  jobs-have-files paths t tally.none = All-nil (HasFile old root s v)
  jobs-have-files all u (tally.more {paths} {path} {t} ts n) = path-files path t u n (jobs-have-files paths t ts)

-- ### Paths that rise

all-init : {A : Type 0} (P : A → Type 0) (xs : List A) (y : A) → AllByRecursion P (xs ++ y ∷ []) → AllByRecursion P xs × P y
all-init P [] y a = (tt, a.0)
all-init P (x ∷ xs) y a = let r = all-init P xs y a.1 in ((a.0, r.0), r.1)

order-init : (xs : List (List ℕ)) (y : List ℕ) → AreInOrder (xs ++ y ∷ []) → AreInOrder xs × AllByRecursion (λ q. compared q y ≡ Less) xs
unfolding IsStrictlySortedBy
order-init [] y s = (tt, tt)
order-init (x ∷ xs) y s =
    let a = all-init (λ q. compared x q ≡ Less) xs y s.0 in
    let r = order-init xs y s.1 in
    ((a.0, r.0), (a.1, r.1))

both-true : (a b : Bool) → a ≡ true → b ≡ true → (a && b) ≡ true
both-true true b e f = f
both-true false b e f = e

first-true : (a b : Bool) → (a && b) ≡ true → a ≡ true
first-true true b e = refl
first-true false b e = e

second-true : (a b : Bool) → (a && b) ≡ true → b ≡ true
second-true true b e = e
second-true false b e = cc

rise-push : (last : Option (List ℕ)) (xs : List (List ℕ)) (y : List ℕ) → comes_after last y ≡ true → rise_after last xs ≡ true → AllByRecursion (λ x. compared x y ≡ Less) xs
    → rise_after last (xs ++ y ∷ []) ≡ true
rise-push last [] y after up less = both-true (comes_after last y) true after refl
rise-push last (x ∷ xs) y after up less =
    both-true (comes_after last x) (rise_after (Some x) (xs ++ y ∷ [])) (first-true (comes_after last x) (rise_after (Some x) xs) up)
    (rise-push (Some x) xs y (ap is_lt less.0) (second-true (comes_after last x) (rise_after (Some x) xs) up) less.1)

-- two paths below one root are as their texts are
same-front : (front a b : List ℕ) → compared (front ++ a) (front ++ b) ≡ compared a b
same-front [] a b = refl
same-front (x ∷ xs) a b = ap (λ (o : Ordering). ordering_then o (compared (xs ++ a) (xs ++ b))) (cmp_self x) ∙ same-front xs a b

in-root-same : (root a b : List ℕ) → compared (in_root root a) (in_root root b) ≡ compared a b
in-root-same root a b = same-front root (47 ∷ a) (47 ∷ b) ∙ same-front (47 ∷ []) a b

-- the paths of jobs rise, and each is that of one of these paths
pub record JobsRise (root : List ℕ) (paths : List (List ℕ)) (t : Tally) : Type 0 where
  pub rise : IsTrue (rise_after None (map path_of t.jobs))
  pub among : All (λ job. Contains paths (in_root root job.path)) t.jobs

module _ (root : List ℕ) where
  rise-same : (front : List (List ℕ)) (path : List ℕ) (t u : Tally) → u.jobs ≡ t.jobs → JobsRise root front t → JobsRise root (front ++ path ∷ []) u
  rise-same front path t u same so = record {
    rise = subst (λ (jobs : List JobLine). IsTrue (rise_after None (map path_of jobs))) (sym same) so.rise;
    among = subst (All (λ job. Contains (front ++ path ∷ []) (in_root root job.path))) (sym same)
        (All-weaker (λ job. Contains front (in_root root job.path)) (λ job. Contains (front ++ path ∷ []) (in_root root job.path))
        (λ job c. Contains-append_left front (path ∷ []) (in_root root job.path) c) t.jobs so.among);
  }

  rise-job : (front : List (List ℕ)) (path : List ℕ) (t u : Tally) (job : JobLine) → u.jobs ≡ t.jobs ++ job ∷ [] → path ≡ in_root root job.path → AreInOrder (front ++ path ∷ [])
      → JobsRise root front t → JobsRise root (front ++ path ∷ []) u
  rise-job front path t u job more at order so =
      let less = (order-init front path order).1 in
      let before : All (λ (j : JobLine). compared j.path job.path ≡ Less) t.jobs =
      All-weaker (λ j. Contains front (in_root root j.path)) (λ j. compared j.path job.path ≡ Less)
      (λ j c. sym (in-root-same root j.path job.path) ∙ ap (compared (in_root root j.path)) (sym at)
      ∙ All-contains (λ q. compared q path ≡ Less) front (in_root root j.path) (All-from_recursion (λ q. compared q path ≡ Less) front less) c) t.jobs so.among in
      record {
        rise = subst (λ (ps : List (List ℕ)). rise_after None ps ≡ true) (sym (ap (map path_of) more ∙ map-append path_of t.jobs (job ∷ [])))
            (rise-push None (map path_of t.jobs) job.path refl so.rise
            (recursion_from_All (λ x. compared x job.path ≡ Less) (map path_of t.jobs) (All-map (λ x. compared x job.path ≡ Less) path_of t.jobs before)));
        among = subst (All (λ j. Contains (front ++ path ∷ []) (in_root root j.path))) (sym more)
            (All-push (λ j. Contains (front ++ path ∷ []) (in_root root j.path)) t.jobs job
            (All-weaker (λ j. Contains front (in_root root j.path)) (λ j. Contains (front ++ path ∷ []) (in_root root j.path))
            (λ j c. Contains-append_left front (path ∷ []) (in_root root j.path) c) t.jobs so.among)
            (subst (Contains (front ++ path ∷ [])) at (Contains-push front path)));
      }

  module _ (old : Option TreeMap) (s : Settings) (v : JudgeView) (fails : List ℕ → List ℕ → Refusal → Type 0) where
    rise-verdict : (front : List (List ℕ)) (path bytes : List ℕ) (t : Tally) (verdict : Verdict) → may_be_candidate root path ≡ true → AreInOrder (front ++ path ∷ []) → JobsRise root front t
        → JobsRise root (front ++ path ∷ []) (with_verdict t (below_root root path) bytes verdict)
    rise-verdict front path bytes t (Left why) may order so = rise-same front path t (with_verdict t (below_root root path) bytes (Left why)) refl so
    rise-verdict front path bytes t (Edited names) may order so =
        rise-job front path t (with_verdict t (below_root root path) bytes (Edited names)) (edited_job (below_root root path) bytes) refl (sym (back root path may)) order so
    rise-verdict front path bytes t (Split id names) may order so =
        rise-job front path t (with_verdict t (below_root root path) bytes (Split id names)) (split_job t.jobs (below_root root path) bytes (id_of id)) refl (sym (back root path may)) order so

    rise-file : (front : List (List ℕ)) (path bytes : List ℕ) (t u : Tally) → may_be_candidate root path ≡ true
        → FileNoted s v fails (below_root root path) bytes (debug_name (below_root root path)) t u → AreInOrder (front ++ path ∷ []) → JobsRise root front t → JobsRise root (front ++ path ∷ []) u
    rise-file front path bytes t u may (note.judged {verdict} said) order so = rise-verdict front path bytes t verdict may order so
    rise-file front path bytes t u may (note.skipped unsaid f skip) order so = rise-same front path t u refl so

    rise-found : (front : List (List ℕ)) (path : List ℕ) (what : Found) (t u : Tally) → may_be_candidate root path ≡ true
        → FoundNoted s v fails path (below_root root path) what t u → AreInOrder (front ++ path ∷ []) → JobsRise root front t → JobsRise root (front ++ path ∷ []) u
    rise-found front path found.Absent t u may n order so = rise-same front path t u (ap (λ (x : Tally). x.jobs) n) so
    rise-found front path found.Folder t u may n order so = rise-same front path t u (ap (λ (x : Tally). x.jobs) n) so
    rise-found front path (found.File bytes mode) t u may n order so = rise-file front path bytes t u may n.noted order so
    rise-found front path (found.Link target) t u may n order so = rise-same front path t u (ap (λ (x : Tally). x.jobs) n) so
    rise-found front path (found.TooLarge size) t u may n order so = absurd n

    rise-path : (front : List (List ℕ)) (path : List ℕ) (t u : Tally) → Noted old root s v fails path t u → AreInOrder (front ++ path ∷ []) → JobsRise root front t → JobsRise root (front ++ path ∷ []) u
    rise-path front path t u (notes.apart other) order so = rise-same front path t u refl so
    rise-path front path t u (notes.there {what} may stood n) order so = rise-found front path what t u may n order so

    pub jobs-rise : (paths : List (List ℕ)) (t : Tally) → Tallies old root s v fails paths t → AreInOrder paths → JobsRise root paths t
    jobs-rise paths t tally.none order = record { rise = refl; among = All-nil (λ job. Contains [] (in_root root job.path)) }
    jobs-rise all u (tally.more {paths} {path} {t} ts n) order =
        rise-path paths path t u n order (jobs-rise paths t ts (order-init paths path order).0)
