-- The targets of a plan's jobs differ, and lie outside the work folder.
use Rattle.std.proofs.Common.{◌≡◌, ℕ, zero, suc, ◌≤◌, ◌<◌, ◌==◌, Bool, true, false, not, if◌then◌else◌, List, [], ◌∷◌, ◌++◌, length, map, get_or, nat_lt, nat_eq, refl, sym, ap, subst, ◌∙◌, append_assoc, lit≤, arith}
use Rattle.std.specs.Prelude.{IsTrue, Contains, count_by, codes, None}
use Rattle.std.specs.List.{All, flat_map, starts_with}
use Rattle.std.proofs.lemmas.Bool.{ltb-true, ltb-false, eqb-true}
use Rattle.std.proofs.lemmas.List.{length-map, length-append, get_or-map, get_or_append_left, get_or_push}
use Rattle.std.proofs.lemmas.List.Elements.{All-get_or}
use Rattle.dw_base.specs.Texts.{same_text}
use Rattle.dw_base.proofs.TextLaws.{same_text-from, same_text-refl}
use Rattle.file_tree.specs.Trees.{is_below}
use Rattle.work_texts.specs.declared.plan.JobLine.{JobLine}
use Rattle.work_texts.specs.Rules.{rise_after, path_of}
use Rattle.root_plan.specs.Roots.{in_root, work_folder, may_be_candidate}
use Rattle.root_plan.specs.Targets.{has_links, debug_path, file_link, debug_link, targets_of, new_paths_of, new_paths}
use Rattle.root_plan.specs.Makers.{no_job, job_at}
use Rattle.root_plan.specs.Plans.{AreFree}
use Rattle.root_plan.specs.Plans.{IsTaken as taken}
use Rattle.root_run.proofs.BeforeLaws.{outside-candidate}
use Rattle.root_run.proofs.CountLaws.{count-map, flat-one, flat-contains, map-contains, rises-one}
use Rattle.root_run.proofs.KeysLaws.{front-same}

-- ### The targets of one job

-- a target is one of the new paths, or the file itself
pub data IsTargetAt (job : JobLine) (k : ℕ) : Type 0 where
  is_new : k < length (new_paths_of job) → get_or (targets_of job) k [] ≡ get_or (new_paths_of job) k [] → IsTargetAt job k
  is_file : k ≡ length (new_paths_of job) → get_or (targets_of job) k [] ≡ job.path → IsTargetAt job k

target-by : (job : JobLine) (k : ℕ) (b : Bool) → nat_lt k (length (new_paths_of job)) ≡ b → k < length (targets_of job) → IsTargetAt job k
target-by job k true e l = is_new (ltb-true k (length (new_paths_of job)) e) (get_or_append_left (new_paths_of job) (job.path ∷ []) [] k (ltb-true k (length (new_paths_of job)) e))
target-by job k false e l =
    let last : length (new_paths_of job) ≡ k = omega (arith, l, ltb-false k (length (new_paths_of job)) e, length-append (new_paths_of job) (job.path ∷ [])) in
    is_file (sym last) (get_or_push (new_paths_of job) job.path [] k last)

pub target-at : (job : JobLine) (k : ℕ) → k < length (targets_of job) → IsTargetAt job k
target-at job k l = target-by job k (nat_lt k (length (new_paths_of job))) refl l

few-by : (s l : Bool) (d a b p : List ℕ) → length ((if s then d ∷ (if l then a ∷ b ∷ [] else []) else []) ++ p ∷ []) ≤ 4
few-by true true d a b p = lit≤ tt
few-by true false d a b p = lit≤ tt
few-by false l d a b p = lit≤ tt

pub few-targets : (job : JobLine) → length (targets_of job) ≤ 4
few-targets job = few-by job.split (has_links job) _ _ _ job.path

-- ### New paths lie in folders beside the work folder

abbrev pub begins_usr : List ℕ → Bool
begins_usr [] = false
begins_usr (b ∷ bs) = b == 117

usr-debug : (path : List ℕ) → begins_usr (debug_path path) ≡ true
unfolding debug_path
usr-debug path = refl

usr-file : (job : JobLine) → begins_usr (file_link job) ≡ true
unfolding file_link
usr-file job = refl

usr-link : (job : JobLine) → begins_usr (debug_link job) ≡ true
unfolding debug_link file_link
usr-link job = refl

usr-by : (s l : Bool) (d a b : List ℕ) (k : ℕ) → begins_usr d ≡ true → begins_usr a ≡ true → begins_usr b ≡ true
    → k < length (if s then d ∷ (if l then a ∷ b ∷ [] else []) else []) → begins_usr (get_or (if s then d ∷ (if l then a ∷ b ∷ [] else []) else []) k []) ≡ true
usr-by true l d a b zero e f g lt = e
usr-by true true d a b (suc zero) e f g lt = f
usr-by true true d a b (suc (suc zero)) e f g lt = g
usr-by true true d a b (suc (suc (suc k))) e f g lt = absurd (omega (arith, lt))
usr-by true false d a b (suc k) e f g lt = absurd (omega (arith, lt))
usr-by false l d a b k e f g lt = absurd (omega (arith, lt))

pub new-usr : (job : JobLine) (k : ℕ) → k < length (new_paths_of job) → begins_usr (get_or (new_paths_of job) k []) ≡ true
new-usr job k l = usr-by job.split (has_links job) (debug_path job.path) (file_link job) (debug_link job) k (usr-debug job.path) (usr-file job) (usr-link job) l

pub usr-apart : (root path : List ℕ) → begins_usr path ≡ true → is_below (work_folder root) (in_root root path) ≡ false
unfolding work_folder
usr-apart root [] e = cc
usr-apart root (b ∷ bs) e =
    ap (λ (front : List ℕ). starts_with nat_eq (root ++ 47 ∷ b ∷ bs) front) (append_assoc root (47 ∷ codes ".dbgwork") (47 ∷ []))
    ∙ front-same root (47 ∷ b ∷ bs) (47 ∷ (codes ".dbgwork" ++ 47 ∷ []))
    ∙ ap (λ (c : ℕ). starts_with nat_eq (47 ∷ c ∷ bs) (47 ∷ (codes ".dbgwork" ++ 47 ∷ []))) (eqb-true b 117 e)

never : (b : Bool) → b ≡ true → b ≡ false → ⊥
never true e f = cc
never false e f = cc

not-below : (b : Bool) → not b ≡ true → b ≡ true → ⊥
not-below true e f = cc
not-below false e f = cc

-- ### The targets of all jobs

new-paths-are : (root : List ℕ) (jobs : List JobLine) → new_paths root jobs ≡ map (in_root root) (flat_map new_paths_of jobs)
unfolding new_paths
new-paths-are root jobs = refl

most-one : (n : ℕ) (b : Bool) → nat_lt 1 n ≡ b → (1 < n → ⊥) → n ≤ 1
most-one n true e never_more = absurd (never_more (ltb-true 1 n e))
most-one n false e never_more = ltb-false 1 n e

-- what a plan's jobs are, for their targets: none of the new paths is taken, and the files are candidates whose paths rise and stand
pub record AreFit (root : List ℕ) (present : List (List ℕ)) (jobs : List JobLine) : Type 0 where
  pub free : AreFree present (new_paths root jobs)
  pub rise : IsTrue (rise_after None (map path_of jobs))
  pub among : All (λ job. Contains present (in_root root job.path)) jobs
  pub candidates : All (λ job. may_be_candidate root (in_root root job.path) ≡ true) jobs

module _ (root : List ℕ) (present : List (List ℕ)) (jobs : List JobLine) (fit : AreFit root present jobs) where
  abbrev target_of : ℕ → ℕ → List ℕ
  target_of j k = in_root root (get_or (targets_of (job_at jobs j)) k [])

  path-at : (j : ℕ) → j < length jobs → get_or (map path_of jobs) j [] ≡ (job_at jobs j).path
  path-at j l = get_or-map path_of jobs j no_job [] l

  file-apart : (j : ℕ) → j < length jobs → IsTrue (is_below (work_folder root) (in_root root (job_at jobs j).path)) → ⊥
  file-apart j l below =
      not-below (is_below (work_folder root) (in_root root (job_at jobs j).path))
      (outside-candidate root (in_root root (job_at jobs j).path) (All-get_or (λ job. may_be_candidate root (in_root root job.path) ≡ true) jobs j no_job l fit.candidates)) below

  outside-by : (j k : ℕ) → j < length jobs → IsTargetAt (job_at jobs j) k → IsTrue (is_below (work_folder root) (target_of j k)) → ⊥
  outside-by j k l (is_new lt e) below =
      never (is_below (work_folder root) (in_root root (get_or (new_paths_of (job_at jobs j)) k [])))
      (subst (λ (x : List ℕ). is_below (work_folder root) (in_root root x) ≡ true) e below)
      (usr-apart root (get_or (new_paths_of (job_at jobs j)) k []) (new-usr (job_at jobs j) k lt))
  outside-by j k l (is_file last e) below = file-apart j l (subst (λ (x : List ℕ). is_below (work_folder root) (in_root root x) ≡ true) e below)

  pub targets-outside : (j k : ℕ) → j < length jobs → k < length (targets_of (job_at jobs j)) → IsTrue (is_below (work_folder root) (target_of j k)) → ⊥
  targets-outside j k l lt = outside-by j k l (target-at (job_at jobs j) k lt)

  -- a new path stands among all new ones, once
  pub new-in : (i k : ℕ) → i < length jobs → k < length (new_paths_of (job_at jobs i)) → Contains (new_paths root jobs) (in_root root (get_or (new_paths_of (job_at jobs i)) k []))
  new-in i k l lt =
      subst (λ (ps : List (List ℕ)). Contains ps (in_root root (get_or (new_paths_of (job_at jobs i)) k []))) (sym (new-paths-are root jobs))
      (map-contains (in_root root) (flat_map new_paths_of jobs) (get_or (new_paths_of (job_at jobs i)) k [])
      (flat-contains (λ (x : List ℕ). true) new_paths_of no_job [] jobs i k l lt))

  new-once : (path : List ℕ) → count_by (λ (x : List ℕ). same_text path (in_root root x)) (flat_map new_paths_of jobs) ≤ 1
  new-once path =
      subst (λ (n : ℕ). n ≤ 1) (ap (count_by (same_text path)) (new-paths-are root jobs) ∙ count-map (same_text path) (in_root root) (flat_map new_paths_of jobs))
      (most-one (count_by (same_text path) (new_paths root jobs)) (nat_lt 1 (count_by (same_text path) (new_paths root jobs))) refl (λ l. fit.free.free path (taken.twice l)))

  new-new : (i k j l : ℕ) → i < length jobs → k < length (new_paths_of (job_at jobs i)) → j < length jobs → l < length (new_paths_of (job_at jobs j))
      → in_root root (get_or (new_paths_of (job_at jobs i)) k []) ≡ in_root root (get_or (new_paths_of (job_at jobs j)) l []) → (i ≡ j) × (k ≡ l)
  new-new i k j l a b c d same =
      let path : List ℕ = in_root root (get_or (new_paths_of (job_at jobs i)) k []) in
      flat-one (λ (x : List ℕ). same_text path (in_root root x)) new_paths_of no_job [] jobs i k j l (new-once path) a b c d (same_text-refl path) (same_text-from path _ same)

  -- no new path is a job's file, since that stands
  new-file : (i k j : ℕ) → i < length jobs → k < length (new_paths_of (job_at jobs i)) → j < length jobs
      → in_root root (get_or (new_paths_of (job_at jobs i)) k []) ≡ in_root root (job_at jobs j).path → ⊥
  new-file i k j a b c same =
      fit.free.free (in_root root (get_or (new_paths_of (job_at jobs i)) k []))
      (taken.stands (new-in i k a b)
      (subst (λ (p : List ℕ). Contains present p) (sym same) (All-get_or (λ job. Contains present (in_root root job.path)) jobs j no_job c fit.among)))

  -- and two files are two paths
  file-file : (i j : ℕ) → i < length jobs → j < length jobs → in_root root (job_at jobs i).path ≡ in_root root (job_at jobs j).path → i ≡ j
  file-file i j a b same =
      rises-one (map path_of jobs) i j fit.rise (subst (λ (n : ℕ). i < n) (sym (length-map jobs path_of)) a) (subst (λ (n : ℕ). j < n) (sym (length-map jobs path_of)) b)
      (path-at i a ∙ in-root-one root (job_at jobs i).path (job_at jobs j).path same ∙ sym (path-at j b))
    where
      same-rest : (front xs ys : List ℕ) → front ++ xs ≡ front ++ ys → xs ≡ ys
      same-rest [] xs ys e = e
      same-rest (f ∷ front) xs ys e = same-rest front xs ys cc

      in-root-one : (r xs ys : List ℕ) → in_root r xs ≡ in_root r ys → xs ≡ ys
      in-root-one r xs ys e = same-rest (r ++ 47 ∷ []) xs ys (append_assoc r (47 ∷ []) xs ∙ e ∙ sym (append_assoc r (47 ∷ []) ys))

  differ-by : (i k j l : ℕ) → i < length jobs → j < length jobs → IsTargetAt (job_at jobs i) k → IsTargetAt (job_at jobs j) l → target_of i k ≡ target_of j l → (i ≡ j) × (k ≡ l)
  differ-by i k j l a b (is_new x e) (is_new y f) same = new-new i k j l a x b y (ap (in_root root) (sym e) ∙ same ∙ ap (in_root root) f)
  differ-by i k j l a b (is_new x e) (is_file y f) same = absurd (new-file i k j a x b (ap (in_root root) (sym e) ∙ same ∙ ap (in_root root) f))
  differ-by i k j l a b (is_file x e) (is_new y f) same = absurd (new-file j l i b y a (ap (in_root root) (sym f) ∙ sym same ∙ ap (in_root root) e))
  differ-by i k j l a b (is_file x e) (is_file y f) same =
      let one : i ≡ j = file-file i j a b (ap (in_root root) (sym e) ∙ same ∙ ap (in_root root) f) in
      (one, x ∙ ap (λ (n : ℕ). length (new_paths_of (job_at jobs n))) one ∙ sym y)

  pub targets-differ : (i k j l : ℕ) → i < length jobs → k < length (targets_of (job_at jobs i)) → j < length jobs → l < length (targets_of (job_at jobs j))
      → target_of i k ≡ target_of j l → (i ≡ j) × (k ≡ l)
  targets-differ i k j l a x b y = differ-by i k j l a b (target-at (job_at jobs i) k x) (target-at (job_at jobs j) l y)
