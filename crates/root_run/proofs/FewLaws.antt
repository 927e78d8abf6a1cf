-- A tree partway through a run has few enough paths below the root: those from before it, at most three new ones of each job, and in the work
-- folder the texts, a mark of each job, and the temporary names of at most 64 jobs.
use Rattle.std.proofs.Common.{◌≡◌, ℕ, zero, suc, ◌<◌, ◌≤◌, ◌+◌, ◌*◌, Bool, true, false, ◌&&◌, not, if◌then◌else◌, List, [], ◌∷◌, ◌++◌, length, map, get_or, nat_lt, refl, sym, ap, subst, ◌∙◌, inl, inr, lit≤, arith}
use Rattle.std.specs.Prelude.{Some, None, is_some, Contains}
use Rattle.std.specs.List.{filter, flat_map}
use Rattle.std.specs.Ordering.{nat_cmp}
use Rattle.std.specs.Cmp.Lexicographic.{slice_cmp, nat_list_cmp_total}
use Rattle.std.specs.FinMap as fin
use Rattle.std.proofs.lemmas.Bool.{cases_lt, ltb-true, lt-ltb}
use Rattle.std.proofs.lemmas.Cmp.{eq_by_cmp_equiv}
use Rattle.std.proofs.lemmas.List.{length-append, length-map}
use Rattle.std.proofs.lemmas.List.Elements.{All-get_or, Contains-append_left, Contains-append_right}
use Rattle.std.proofs.lemmas.List.Sums.{length-filter}
use Rattle.std.proofs.lemmas.Map.Keys.{IsDistinct-from_sorted}
use Rattle.std.proofs.lemmas.Map.Made.{length-le_from_is_member}
use Rattle.std.proofs.lemmas.Map.Views.{list_any-from_Contains, Contains-from_any}
use Rattle.dw_base.proofs.TextLaws.{same_text-true}
use Rattle.dw_base.specs.declared.fault.Refusal.{Refusal}
use Rattle.file_tree.specs.declared.node.Node.{Node}
use Rattle.file_tree.specs.Trees.{TreeMap, is_below, keys_below}
use Rattle.job_types.specs.Settings.{Settings}
use Rattle.journal_core.specs.Names.{Name, IsName, IsStep, plan_new, plan, temp, commit, fresh, final, target}
use Rattle.journal_core.specs.Marks.{Mark, Marking, absent, first, whole, any, earlier, is_absent, is_any}
use Rattle.journal_core.specs.Shapes.{HasShape, is_job_done, none_there, waiting}
use Rattle.journal_core.specs.Shapes.{HasShape as shape}
use Rattle.work_texts.specs.declared.plan.JobLine.{JobLine}
use Rattle.work_texts.specs.declared.plan.PlanData.{PlanData}
use Rattle.work_journal.specs.Wanted.{Wanted, IsPartway, Has, MarkHas, path_of}
use Rattle.work_journal.specs.Work.{work_path, has_path}
use Rattle.root_plan.specs.Roots.{count_outside, in_root, is_outside, most_outside, most_paths, work_folder}
use Rattle.root_plan.specs.Makers.{no_job, job_at}
use Rattle.root_plan.specs.Targets.{has_links, debug_path, file_link, debug_link, new_paths_of, new_paths}
use Rattle.root_plan.specs.Verdicts.{JudgeView}
use Rattle.root_run.specs.Partways.{IsUnstarted}
use Rattle.root_run.specs.Partways.{IsPartwayBy as way}
use Rattle.root_run.specs.RootRuns.{IsPartwayRun}
use Rattle.root_run.specs.Wholes.{IsClean, IsRootPlan, steps_of, wanted_of}
use Rattle.root_run.proofs.BeforeLaws.{keys-before}
use Rattle.root_run.proofs.CountLaws.{map-contains}
use Rattle.root_run.proofs.KeysLaws.{any-compared, key-below, keys-have, keys-order}
use Rattle.root_run.proofs.GivenLaws.{plan-targets-apart}
use Rattle.root_run.proofs.PlanLaws.{run-few, run-fit}
use Rattle.root_run.proofs.TargetLaws.{AreFit, IsTargetAt, new-in, target-at}
use Rattle.root_run.proofs.TargetLaws.{IsTargetAt as at}
use Rattle.root_run.proofs.WantedLaws.{jobs-in, steps-at}

-- ### Paths in lists

pub has-from : (paths : List (List ℕ)) (q : List ℕ) → Contains paths q → has_path paths q ≡ true
has-from paths q c = any-compared q paths ∙ list_any-from_Contains (eq_by_cmp_equiv nat_list_cmp_total) q paths c

pub has-in : (paths : List (List ℕ)) (q : List ℕ) → has_path paths q ≡ true → Contains paths q
has-in paths q h = Contains-from_any same_text-true q paths h

-- paths that differ, all of which are in a list, are at most as many as it has
keys-fit : (t : TreeMap) (root : List ℕ) (paths : List (List ℕ)) → ((q : List ℕ) → has_path (keys_below t root) q ≡ true → has_path paths q ≡ true)
    → length (keys_below t root) ≤ length paths
keys-fit t root paths within =
    length-le_from_is_member (eq_by_cmp_equiv nat_list_cmp_total) (keys_below t root) paths (IsDistinct-from_sorted (slice_cmp nat_cmp) (keys_below t root) (keys-order t root))
    (λ q m. sym (any-compared q paths) ∙ within q (any-compared q (keys_below t root) ∙ m))

-- ### Names of the work folder

abbrev texts : List Name
texts = plan_new ∷ plan ∷ fresh 0 ∷ fresh 1 ∷ fresh 2 ∷ fresh 3 ∷ final 0 ∷ final 1 ∷ final 2 ∷ final 3 ∷ []

abbrev marks_of : ℕ → List Name
marks_of zero = []
marks_of (suc j) = commit j ∷ marks_of j

abbrev temps_by : Bool → Bool → ℕ → List Name
temps_by true low j = []
temps_by false true j = temp j 0 ∷ temp j 1 ∷ temp j 2 ∷ temp j 3 ∷ []
temps_by false false j = []

-- the temporary names of the first jobs: those of jobs in flight
abbrev temps_of : List ℕ → Marking → ℕ → List Name
temps_of steps m zero = []
temps_of steps m (suc j) = temps_by (is_job_done steps m j) (nat_lt (waiting steps m j) 64) j ++ temps_of steps m j

marks-length : (n : ℕ) → length (marks_of n) ≡ n
marks-length zero = refl
marks-length (suc n) = ap suc (marks-length n)

mark-in : (n j : ℕ) → j < n → Contains (marks_of n) (commit j)
mark-in zero j l = absurd (omega (arith, l))
mark-in (suc n) j l =
    elim (cases_lt j n) [
      | inl below ↦ Contains-append_right (commit n ∷ []) (marks_of n) (commit j) (mark-in n j below)
      | inr above ↦ (0, omega arith, ap commit (omega (arith, above, l)))
    ]

record AreFewTemps (names : List Name) (open_ : ℕ) : Type 0 where
  by_open : length names ≤ 4 * open_
  most : length names ≤ 256

temps-more : (done low : Bool) (j open_ : ℕ) (names : List Name) → nat_lt open_ 64 ≡ low → AreFewTemps names open_ → AreFewTemps (temps_by done low j ++ names) (open_ + (if done then 0 else 1))
temps-more true low j open_ names e few = record { by_open = omega (arith, few.by_open); most = few.most }
temps-more false true j open_ names e few = record { by_open = omega (arith, few.by_open); most = omega (arith, few.by_open, ltb-true open_ 64 e) }
temps-more false false j open_ names e few = record { by_open = omega (arith, few.by_open); most = few.most }

temps-few : (steps : List ℕ) (m : Marking) (n : ℕ) → AreFewTemps (temps_of steps m n) (waiting steps m n)
temps-few steps m zero = record { by_open = omega arith; most = omega arith }
temps-few steps m (suc n) = temps-more (is_job_done steps m n) (nat_lt (waiting steps m n) 64) n (waiting steps m n) (temps_of steps m n) refl (temps-few steps m n)

four-in : (done low : Bool) (j k : ℕ) → done ≡ false → low ≡ true → k < 4 → Contains (temps_by done low j) (temp j k)
four-in true low j k d e l = cc
four-in false false j k d e l = cc
four-in false true j zero d e l = (0, omega arith, refl)
four-in false true j (suc zero) d e l = (1, omega arith, refl)
four-in false true j (suc (suc zero)) d e l = (2, omega arith, refl)
four-in false true j (suc (suc (suc zero))) d e l = (3, omega arith, refl)
four-in false true j (suc (suc (suc (suc k)))) d e l = absurd (omega (arith, l))

temp-in : (steps : List ℕ) (m : Marking) (n j k : ℕ) → j < n → k < 4 → is_job_done steps m j ≡ false → nat_lt (waiting steps m j) 64 ≡ true → Contains (temps_of steps m n) (temp j k)
temp-in steps m zero j k l few open_ low = absurd (omega (arith, l))
temp-in steps m (suc n) j k l few open_ low =
    elim (cases_lt j n) [
      | inl below ↦ Contains-append_right (temps_by (is_job_done steps m n) (nat_lt (waiting steps m n) 64) n) (temps_of steps m n) (temp j k) (temp-in steps m n j k below few open_ low)
      | inr above ↦
          let same : j ≡ n = omega (arith, above, l) in
          Contains-append_left (temps_by (is_job_done steps m n) (nat_lt (waiting steps m n) 64) n) (temps_of steps m n) (temp j k)
          (subst (λ (i : ℕ). Contains (temps_by (is_job_done steps m i) (nat_lt (waiting steps m i) 64) i) (temp j k)) same (four-in _ _ j k open_ low few))
    ]

-- a job with a temporary name isn't done
not-absent : (x : Mark) → (x ≡ absent → ⊥) → is_absent x ≡ false
not-absent absent n = absurd (n refl)
not-absent first n = refl
not-absent whole n = refl
not-absent any n = refl
not-absent earlier n = refl

and-false : (a b : Bool) → b ≡ false → (a && b) ≡ false
and-false true b e = e
and-false false b e = refl

some-there : (temps : ℕ → Mark) (n k : ℕ) → k < n → (temps k ≡ absent → ⊥) → none_there temps n ≡ false
some-there temps zero k l there = absurd (omega (arith, l))
some-there temps (suc n) k l there =
    elim (cases_lt k n) [
      | inl below ↦ and-false (is_absent (temps n)) (none_there temps n) (some-there temps n k below there)
      | inr above ↦
          let same : k ≡ n = omega (arith, above, l) in
          ap (λ (b : Bool). b && none_there temps n) (not-absent (temps n) (λ e. there (ap temps same ∙ e)))
    ]

window-of : (steps : List ℕ) (m : Marking) → HasShape steps m → (j k : ℕ) → IsStep steps j k → (m.temp j k ≡ absent → ⊥) → waiting steps m j < 64
window-of steps m (shape.unplanned u) j k step there = absurd (there (u.rest.temp j k step))
window-of steps m (shape.underway u) j k step there = u.window j k step there
window-of steps m (shape.finished f) j k step there = absurd (there (f.temp j k step))
window-of steps m (shape.old f) j k step there = absurd (there (f.temp j k step))

-- ### New paths

three-by : (s l : Bool) (d a b : List ℕ) → length (if s then d ∷ (if l then a ∷ b ∷ [] else []) else []) ≤ 3
three-by true true d a b = lit≤ tt
three-by true false d a b = lit≤ tt
three-by false l d a b = lit≤ tt

flat-few : (jobs : List JobLine) → length (flat_map new_paths_of jobs) ≤ 3 * length jobs
flat-few [] = omega arith
flat-few (job ∷ jobs) =
    omega (arith, flat-few jobs, three-by job.split (has_links job) (debug_path job.path) (file_link job) (debug_link job), length-append (new_paths_of job) (flat_map new_paths_of jobs))

news-few : (root : List ℕ) (jobs : List JobLine) → length (new_paths root jobs) ≤ 3 * length jobs
unfolding new_paths
news-few root jobs = omega (arith, flat-few jobs, length-map (flat_map new_paths_of jobs) (in_root root))

-- ### A tree that differs from the one before the run at known paths alone

never : (b : Bool) → b ≡ true → b ≡ false → ⊥
never true e f = cc
never false e f = cc

not-false : (b : Bool) → not b ≡ false → b ≡ true
not-false true e = refl
not-false false e = cc

module _ (start : TreeMap) (root : List ℕ) (t : TreeMap) (paths : List (List ℕ)) (all : (q : List ℕ) → has_path (keys_below start root) q ≡ true → has_path paths q ≡ true)
    (others : (q : List ℕ) → (fin.get t q ≡ None → ⊥) → has_path paths q ≡ false → fin.get t q ≡ fin.get start q) where
  key-by : (q : List ℕ) (b : Bool) → is_below root q ≡ true → is_some (fin.get t q) ≡ true → has_path paths q ≡ b → has_path paths q ≡ true
  key-by q true below there e = e
  key-by q false below there e =
      all q (keys-have start root q below ∙ ap is_some (sym (others q (λ none. never (is_some (fin.get t q)) there (ap is_some none)) e)) ∙ there)

  few-keys : length (keys_below t root) ≤ length paths
  few-keys = keys-fit t root paths (λ q h.
      let below : is_below root q ≡ true = key-below t root q h in
      key-by q (has_path paths q) below (sym (keys-have t root q below) ∙ h) refl)

-- ### A tree that is partway

module _ (start : TreeMap) (root : List ℕ) (clean : IsClean start root (work_folder root)) (few : count_outside root (keys_below start root) ≤ most_outside) where
  abbrev Work : List ℕ
  Work = work_folder root

  start-keys : keys_below start root ≡ filter (is_outside root) (keys_below start root)
  start-keys = keys-before start start root (λ q out. refl) (λ q inside. clean.none_below q (not-false (is_below Work q) inside))

  start-few : length (keys_below start root) ≤ most_outside
  start-few =
      subst (λ (n : ℕ). n ≤ most_outside) (sym (ap (λ (ks : List (List ℕ)). length ks) start-keys ∙ length-filter (is_outside root) (keys_below start root))) few

  unplanned-few : (t : TreeMap) → IsUnstarted start Work t → length (keys_below t root) ≤ most_paths
  unplanned-few t u =
      let paths : List (List ℕ) = work_path Work plan_new ∷ keys_below start root in
      omega (
        arith,
        start-few,
        few-keys start root t paths
            (λ q h. has-from paths q (Contains-append_right (work_path Work plan_new ∷ []) (keys_below start root) q (has-in (keys_below start root) q h)))
            (λ q there e. u.others q (λ same. never (has_path paths q) (has-from paths q (0, omega arith, sym same)) e)),
      )

  module _ (s : Settings) (v : JudgeView) (fails : List ℕ → List ℕ → Refusal → Type 0) (p : PlanData) (made : List (List Node)) (planned : IsRootPlan start root s v fails p made) (t : TreeMap)
      (m : Marking) (is_shape : HasShape (steps_of p) m) (has : Has (wanted_of start root Work p made) m t) where
    abbrev W : Wanted
    W = wanted_of start root Work p made

    abbrev names : List Name
    names = texts ++ (marks_of (length p.jobs) ++ temps_of (steps_of p) m (length p.jobs))

    abbrev paths : List (List ℕ)
    paths = keys_below start root ++ (new_paths root p.jobs ++ map (path_of W) names)

    fit : AreFit root (keys_below start root) p.jobs
    fit = run-fit (Some start) root s v fails (keys_below start root) p (keys-order start root) planned.plan_is

    few-paths : length paths ≤ most_paths
    few-paths =
        let ten : length texts ≡ 10 = refl in
        let jobs : length p.jobs ≤ 200000 = run-few (Some start) root s v fails (keys_below start root) p planned.plan_is in
        let temps : AreFewTemps (temps_of (steps_of p) m (length p.jobs)) (waiting (steps_of p) m (length p.jobs)) = temps-few (steps_of p) m (length p.jobs) in
        omega (
          arith,
          ten,
          jobs,
          temps.most,
          start-few,
          news-few root p.jobs,
          marks-length (length p.jobs),
          length-append (keys_below start root) (new_paths root p.jobs ++ map (path_of W) names),
          length-append (new_paths root p.jobs) (map (path_of W) names),
          length-map names (path_of W),
          length-append texts (marks_of (length p.jobs) ++ temps_of (steps_of p) m (length p.jobs)),
          length-append (marks_of (length p.jobs)) (temps_of (steps_of p) m (length p.jobs)),
        )

    named-in : (n : Name) → Contains names n → Contains paths (path_of W n)
    named-in n c =
        Contains-append_right (keys_below start root) (new_paths root p.jobs ++ map (path_of W) names) (path_of W n)
        (Contains-append_right (new_paths root p.jobs) (map (path_of W) names) (path_of W n) (map-contains (path_of W) names n c))

    text-in : (n : Name) → Contains texts n → Contains paths (path_of W n)
    text-in n c = named-in n (Contains-append_left texts (marks_of (length p.jobs) ++ temps_of (steps_of p) m (length p.jobs)) n c)

    target-in : (j k : ℕ) → j < length p.jobs → IsTargetAt (job_at p.jobs j) k → Contains paths (W.output j k)
    target-in j k l (at.is_new lt e) =
        subst (λ (x : List ℕ). Contains paths (in_root root x)) (sym e)
        (Contains-append_right (keys_below start root) (new_paths root p.jobs ++ map (path_of W) names) _
        (Contains-append_left (new_paths root p.jobs) (map (path_of W) names) _ (new-in root (keys_below start root) p.jobs fit j k l lt)))
    target-in j k l (at.is_file last e) =
        subst (λ (x : List ℕ). Contains paths (in_root root x)) (sym e)
        (Contains-append_left (keys_below start root) (new_paths root p.jobs ++ map (path_of W) names) _
        (All-get_or (λ (job : JobLine). Contains (keys_below start root) (in_root root job.path)) p.jobs j no_job l fit.among))

    open-temp : (j k : ℕ) → IsStep (steps_of p) j k → (m.temp j k ≡ absent → ⊥) → Contains (temps_of (steps_of p) m (length p.jobs)) (temp j k)
    open-temp j k step there =
        temp-in (steps_of p) m (length p.jobs) j k (jobs-in p.jobs j step.job_in)
        (omega (arith, step.step_in, (plan-targets-apart start root s v fails p made planned).most j step.job_in))
        (and-false (is_any (m.commit j)) (none_there (m.temp j) (get_or (steps_of p) j 0)) (some-there (m.temp j) (get_or (steps_of p) j 0) k step.step_in there))
        (lt-ltb (waiting (steps_of p) m j) 64 (window-of (steps_of p) m is_shape j k step there))

    there-in : (n : Name) → IsName (steps_of p) n → (fin.get t (path_of W n) ≡ None → ⊥) → Contains paths (path_of W n)
    there-in plan_new is there = text-in plan_new (0, omega arith, refl)
    there-in plan is there = text-in plan (1, omega arith, refl)
    there-in (temp j k) step there =
        let gone : m.temp j k ≡ absent → fin.get t (path_of W (temp j k)) ≡ None =
        λ e. subst (λ (x : Mark). MarkHas x (fin.get start (path_of W (temp j k))) (W.node (temp j k)) (W.older (temp j k)) (fin.get t (path_of W (temp j k)))) e (has.named (temp j k) step) in
        named-in (temp j k) (Contains-append_right texts (marks_of (length p.jobs) ++ temps_of (steps_of p) m (length p.jobs)) (temp j k)
        (Contains-append_right (marks_of (length p.jobs)) (temps_of (steps_of p) m (length p.jobs)) (temp j k) (open-temp j k step (λ e. there (gone e)))))
    there-in (commit j) l there =
        named-in (commit j) (Contains-append_right texts (marks_of (length p.jobs) ++ temps_of (steps_of p) m (length p.jobs)) (commit j)
        (Contains-append_left (marks_of (length p.jobs)) (temps_of (steps_of p) m (length p.jobs)) (commit j) (mark-in (length p.jobs) j (jobs-in p.jobs j l))))
    there-in (fresh zero) l there = text-in (fresh 0) (2, omega arith, refl)
    there-in (fresh (suc zero)) l there = text-in (fresh 1) (3, omega arith, refl)
    there-in (fresh (suc (suc zero))) l there = text-in (fresh 2) (4, omega arith, refl)
    there-in (fresh (suc (suc (suc zero)))) l there = text-in (fresh 3) (5, omega arith, refl)
    there-in (fresh (suc (suc (suc (suc i))))) l there = absurd (omega (arith, l))
    there-in (final zero) l there = text-in (final 0) (6, omega arith, refl)
    there-in (final (suc zero)) l there = text-in (final 1) (7, omega arith, refl)
    there-in (final (suc (suc zero))) l there = text-in (final 2) (8, omega arith, refl)
    there-in (final (suc (suc (suc zero)))) l there = text-in (final 3) (9, omega arith, refl)
    there-in (final (suc (suc (suc (suc i))))) l there = absurd (omega (arith, l))
    there-in (target j k) step there =
        target-in j k (jobs-in p.jobs j step.job_in)
        (target-at (job_at p.jobs j) k (subst (λ (n : ℕ). k < n) (steps-at p.jobs j (jobs-in p.jobs j step.job_in)) step.step_in))

    planned-few : length (keys_below t root) ≤ most_paths
    planned-few =
        omega (
          arith,
          few-paths,
          few-keys start root t paths
              (λ q h. has-from paths q (Contains-append_left (keys_below start root) (new_paths root p.jobs ++ map (path_of W) names) q (has-in (keys_below start root) q h)))
              (λ q there e. has.others q (λ n is same.
              never (has_path paths q) (has-from paths q (subst (Contains paths) (sym same) (there-in n is (λ none. there (ap (fin.get t) same ∙ none))))) e)),
        )

  -- not too many paths lie below the root of a run that is underway
  pub partway-few : (s : Settings) (v : JudgeView) (fails : List ℕ → List ℕ → Refusal → Type 0) (t : TreeMap) → IsPartwayRun start root Work s v fails t → length (keys_below t root) ≤ most_paths
  partway-few s v fails t (way.unplanned u) = unplanned-few t u
  partway-few s v fails t (way.planned w is p) =
      let at : IsPartway (wanted_of start root Work is.plan is.made) t = subst (λ (x : Wanted). IsPartway x t) is.is p in
      planned-few s v fails is.plan is.made is.planned t at.marking at.shape at.has
