-- A run to which nothing is opposed ends without a report only by a fault of the tree, or for want of memory.
use Rattle.std.proofs.Common.{◌≡◌, ◌≢◌, ℕ, zero, suc, ◌<◌, ◌≤◌, ◌+◌, ◌-◌, Bool, true, false, not, cond, ◌||◌, List, [], ◌∷◌, ◌++◌, length, drop, map, get_or, nat_eq, refl, sym, ap, subst, ◌∙◌, inl, inr, eqb-true, append_assoc, arith}
use Rattle.std.specs.Prelude.{Option, Some, None, is_some, IsTrue, Contains, ◌&&◌}
use Rattle.std.specs.List.{filter, flat_map, starts_with}
use Rattle.std.specs.FinMap as fin
use Rattle.std.proofs.lemmas.Bool.{cases_lt}
use Rattle.std.proofs.lemmas.List.{append-nil, same_from_push, length_push, length-append, length-map, get_or-map, get_or_append_left, get_or-append-add}
use Rattle.std.proofs.lemmas.List.Elements.{filter-append}
use Rattle.dw_base.specs.declared.fault.Refusal.{Refusal}
use Rattle.file_tree.specs.declared.node.Node.{Node}
use Rattle.file_tree.specs.Causes.{Rose}
use Rattle.file_tree.specs.Seen.{Seen, now_of}
use Rattle.file_tree.specs.Trees.{TreeMap, is_below, keys_below}
use Rattle.job_types.specs.Settings.{Settings}
use Rattle.journal_core.specs.Names.{Name, plan_new, plan, final}
use Rattle.work_texts.specs.declared.journal_err.JournalErr.{JournalErr}
use Rattle.work_texts.specs.declared.plan.JobLine.{JobLine}
use Rattle.work_texts.specs.declared.plan.PlanData.{PlanData}
use Rattle.work_texts.specs.Rules.{text_limit}
use Rattle.work_journal.specs.Blames.{is_mild_run}
use Rattle.work_journal.specs.Wanted.{Wanted, IsPartway}
use Rattle.work_journal.specs.Work.{work_path, has_path}
use Rattle.work_journal.proofs.SpareLaws.{is_work_path}
use Rattle.root_plan.specs.declared.plan_err.PlanErr.{PlanErr}
use Rattle.root_plan.specs.Errors.{IsStopped}
use Rattle.root_plan.specs.Errors.{IsStopped as stop}
use Rattle.root_plan.specs.Plans.{IsTallied, IsPlanOf, IsTaken, PlanEnds, IsCut, is_nested, plan_of, plan_length}
use Rattle.root_plan.specs.Plans.{IsTaken as taken, IsCut as cuts}
use Rattle.root_plan.specs.Roots.{count_outside, in_root, is_outside, may_be_candidate, most_outside, work_folder}
use Rattle.root_plan.specs.Tallies.{Tally, Noted, Tallies}
use Rattle.root_plan.specs.Tallies.{Noted as notes, Tallies as tally}
use Rattle.root_plan.specs.Targets.{new_paths_of, new_paths}
use Rattle.root_plan.specs.Verdicts.{JudgeView, IsJudge}
use Rattle.root_plan.specs.Walks.{WalkEnds}
use Rattle.root_plan.specs.Walks.{WalkEnds as walk}
use Rattle.root_plan.proofs.OneLaws.{only_cut}
use Rattle.root_run.specs.declared.run_err.RunErr.{RunErr}
use Rattle.root_run.specs.declared.run_err.RunErr.TheVariants as run
use Rattle.root_run.specs.Dues.{IsUnopposed, IsFresh, is_told}
use Rattle.root_run.specs.Partways.{IsUnstarted}
use Rattle.root_run.specs.Partways.{IsPartwayBy as way}
use Rattle.root_run.specs.RootRuns.{IsRootWanted, IsPartwayRun}
use Rattle.root_run.specs.RunEnds.{RunEnds, plan_status, run_status}
use Rattle.root_run.specs.RunEnds.{RunEnds as run_ends}
use Rattle.root_run.specs.Wholes.{IsClean, wanted_of}
use Rattle.root_run.proofs.BeforeLaws.{keys-before, count-filter, candidate-outside, outside-candidate}
use Rattle.root_run.proofs.DueLaws.{IsClass, IsLongTally, ends-class, empty-is}
use Rattle.root_run.proofs.DueLaws.{IsClass as class}
use Rattle.root_run.proofs.FewLaws.{partway-few}
use Rattle.root_run.proofs.GivenLaws.{wanted-given}
use Rattle.root_run.proofs.KeysLaws.{keys-order, keys-have, longer-below, root-below, work-below}
use Rattle.root_run.proofs.MovedLaws.{tallies-move, noted-moves}
use Rattle.root_run.proofs.StartLaws.{unstarted}
use Rattle.root_run.proofs.StatusLaws.{plan-fault}
use Rattle.root_run.proofs.TargetLaws.{begins_usr, new-usr, usr-apart}

both-never : (b : Bool) → b ≡ true → b ≡ false → ⊥
both-never true e f = cc
both-never false e f = cc

-- ### Lists from their ends

module _ {A : Type 0} (P : List A → Type 0) (push : (xs : List A) (x : A) → P xs → P (xs ++ x ∷ [])) where
  pushed-on : (front xs : List A) → P front → P (front ++ xs)
  pushed-on front [] h = subst P (sym (append-nil front)) h
  pushed-on front (x ∷ xs) h = subst P (append_assoc front (x ∷ []) xs) (pushed-on (front ++ x ∷ []) xs (push front x h))

  by-pushes : (xs : List A) → P [] → P xs
  by-pushes xs h = pushed-on [] xs h

contains-tail : {A : Type 0} (y x : A) (xs : List A) → Contains xs x → Contains (y ∷ xs) x
contains-tail y x xs c = (suc c.0, omega (arith, c.1), c.2)

-- what a test keeps of a list is kept
kept-head : {A : Type 0} (p : A → Bool) (x : A) (xs : List A) (b : Bool) → p x ≡ b → p x ≡ true → Contains (cond b (x ∷ filter p xs) (filter p xs)) x
kept-head p x xs true e f = (zero, omega arith, refl)
kept-head p x xs false e f = absurd (both-never (p x) f e)

kept-more : {A : Type 0} (p : A → Bool) (y x : A) (xs : List A) (b : Bool) → Contains (filter p xs) x → Contains (cond b (y ∷ filter p xs) (filter p xs)) x
kept-more p y x xs true c = contains-tail y x (filter p xs) c
kept-more p y x xs false c = c

contains-kept : {A : Type 0} (p : A → Bool) (xs : List A) (x : A) → p x ≡ true → Contains xs x → Contains (filter p xs) x
contains-kept p [] x f (k, l, e) = absurd (omega (arith, l))
contains-kept p (y ∷ ys) x f (zero, l, e) = subst (λ (z : _). Contains (filter p (y ∷ ys)) z) e (kept-head p y ys (p y) refl (subst (λ (z : _). p z ≡ true) (sym e) f))
contains-kept p (y ∷ ys) x f (suc k, l, e) = kept-more p y x ys (p y) (contains-kept p ys x f (k, omega (arith, l), e))

-- ### A tally of the tree before the run is one of a tree that differs from it in the work folder alone

never-more : (paths : List (List ℕ)) (path : List ℕ) → [] ≡ paths ++ path ∷ [] → ⊥
never-more paths path e =
    let size : 0 ≡ length (paths ++ path ∷ []) = ap (λ (ps : List (List ℕ)). length ps) e in
    omega (arith, size, length_push paths path)

module _ (root : List ℕ) (s : Settings) (v : JudgeView) (fails : List ℕ → List ℕ → Refusal → Type 0) where
  record LastTally (old : Option TreeMap) (paths : List (List ℕ)) (path : List ℕ) (u : Tally) : Type 0 where
    before : Tally
    tallies : Tallies old root s v fails paths before
    noted : Noted old root s v fails path before u

  last-by : (old : Option TreeMap) (qs paths : List (List ℕ)) (path : List ℕ) (u : Tally) → Tallies old root s v fails qs u → qs ≡ paths ++ path ∷ [] → LastTally old paths path u
  last-by old qs paths path u tally.none e = absurd (never-more paths path e)
  last-by old qs paths path u (tally.more {paths = ps} {path = p} {t = t} ts n) e =
      let same : (ps ≡ paths) × (p ≡ path) = same_from_push ps paths p path e in
      record {
        before = t;
        tallies = subst (λ (xs : List (List ℕ)). Tallies old root s v fails xs t) same.0 ts;
        noted = subst (λ (x : List ℕ). Noted old root s v fails x t u) same.1 n;
      }

  module _ (m n : TreeMap) (keep : List ℕ → Bool) (apart : (q : List ℕ) → keep q ≡ false → may_be_candidate root q ≡ false)
      (same : (q : List ℕ) → may_be_candidate root q ≡ true → fin.get m q ≡ fin.get n q) where
    abbrev Back : List (List ℕ) → Type 0
    Back paths = (u : Tally) → Tallies (Some n) root s v fails (filter keep paths) u → Tallies (Some m) root s v fails paths u

    back-by : (paths : List (List ℕ)) (q : List ℕ) (b : Bool) → keep q ≡ b → Back paths → (u : Tally) → Tallies (Some n) root s v fails (filter keep paths ++ cond b (q ∷ []) []) u
        → Tallies (Some m) root s v fails (paths ++ q ∷ []) u
    back-by paths q true e rest u ts =
        let l = last-by (Some n) (filter keep paths ++ q ∷ []) (filter keep paths) q u ts refl in
        tally.more (rest l.before l.tallies) (noted-moves s v fails root n m q l.before u (same q) l.noted)
    back-by paths q false e rest u ts =
        tally.more (rest u (subst (λ (xs : List (List ℕ)). Tallies (Some n) root s v fails xs u) (append-nil (filter keep paths)) ts)) (notes.apart (apart q e))

    back-push : (paths : List (List ℕ)) (q : List ℕ) → Back paths → Back (paths ++ q ∷ [])
    back-push paths q rest u ts =
        back-by paths q (keep q) refl rest u (subst (λ (xs : List (List ℕ)). Tallies (Some n) root s v fails xs u) (filter-append keep paths (q ∷ [])) ts)

    tallies-back : (paths : List (List ℕ)) → Back paths
    tallies-back paths = by-pushes Back back-push paths (λ u ts. nothing u ts)
      where
        nothing : (u : Tally) → Tallies (Some n) root s v fails [] u → Tallies (Some m) root s v fails [] u
        nothing u ts = none-by [] u ts refl
          where
            none-by : (qs : List (List ℕ)) (w : Tally) → Tallies (Some n) root s v fails qs w → qs ≡ [] → Tallies (Some m) root s v fails [] w
            none-by qs w tally.none e = tally.none
            none-by qs w (tally.more {paths = ps} {path = p} ts x) e = absurd (never-more ps p (sym e))

-- ### New paths and all that would lie below them are outside the work folder

starts-rest : (xs ys : List ℕ) → starts_with nat_eq xs ys ≡ true → xs ≡ ys ++ drop (length ys) xs
starts-rest xs [] e = refl
starts-rest [] (y ∷ ys) e = cc
starts-rest (x ∷ xs) (y ∷ ys) e =
    ap (λ (a : ℕ). a ∷ xs) (sym (eqb-true y x (first e))) ∙ ap (λ (zs : List ℕ). y ∷ zs) (starts-rest xs ys (second e))
  where
    left : (a b : Bool) → (a && b) ≡ true → a ≡ true
    left true b h = refl
    left false b h = cc

    right : (a b : Bool) → (a && b) ≡ true → b ≡ true
    right true b h = h
    right false b h = cc

    first : starts_with nat_eq (x ∷ xs) (y ∷ ys) ≡ true → nat_eq y x ≡ true
    first h = left (nat_eq y x) (starts_with nat_eq xs ys) h

    second : starts_with nat_eq (x ∷ xs) (y ∷ ys) ≡ true → starts_with nat_eq xs ys ≡ true
    second h = right (nat_eq y x) (starts_with nat_eq xs ys) h

longer-usr : (x more : List ℕ) → begins_usr x ≡ true → begins_usr (x ++ more) ≡ true
longer-usr [] more e = cc
longer-usr (b ∷ bs) more e = e

in-flat : (jobs : List JobLine) (k : ℕ) → k < length (flat_map new_paths_of jobs) → begins_usr (get_or (flat_map new_paths_of jobs) k []) ≡ true
in-flat [] k l = absurd (omega (arith, l))
in-flat (job ∷ jobs) k l =
    elim (cases_lt k (length (new_paths_of job))) [
      | inl here ↦ subst (λ (x : List ℕ). begins_usr x ≡ true) (sym (get_or_append_left (new_paths_of job) (flat_map new_paths_of jobs) [] k here)) (new-usr job k here)
      | inr there ↦
          let rest : ℕ = k - length (new_paths_of job) in
          let at : k ≡ length (new_paths_of job) + rest = omega (arith, there) in
          let less : rest < length (flat_map new_paths_of jobs) = omega (arith, l, there, length-append (new_paths_of job) (flat_map new_paths_of jobs)) in
          subst (λ (x : List ℕ). begins_usr x ≡ true)
          (sym (ap (λ (i : ℕ). get_or (new_paths_of job ++ flat_map new_paths_of jobs) i []) at ∙ get_or-append-add (new_paths_of job) (flat_map new_paths_of jobs) rest []))
          (in-flat jobs rest less)
    ]

below-usr : (root x more : List ℕ) → begins_usr x ≡ true → is_below (work_folder root) (in_root root x ++ more) ≡ false
below-usr root x more e = ap (is_below (work_folder root)) (append_assoc root (47 ∷ x) more) ∙ usr-apart root (x ++ more) (longer-usr x more e)

at-default : {A : Type 0} (xs : List A) (k : ℕ) (d e : A) → k < length xs → get_or xs k d ≡ get_or xs k e
at-default [] k d e l = absurd (omega (arith, l))
at-default (x ∷ xs) zero d e l = refl
at-default (x ∷ xs) (suc k) d e l = at-default xs k d e (omega (arith, l))

new-below : (root : List ℕ) (jobs : List JobLine) (path more : List ℕ) → Contains (new_paths root jobs) path → is_below (work_folder root) (path ++ more) ≡ false
unfolding new_paths
new-below root jobs path more (k, l, e) =
    let less : k < length (flat_map new_paths_of jobs) = subst (λ (n : ℕ). k < n) (length-map (flat_map new_paths_of jobs) (in_root root)) l in
    let is : in_root root (get_or (flat_map new_paths_of jobs) k []) ≡ path = sym (get_or-map (in_root root) (flat_map new_paths_of jobs) k [] [] less) ∙ at-default (map (in_root root) (flat_map new_paths_of jobs)) k [] path l ∙ e in
    subst (λ (p : List ℕ). is_below (work_folder root) (p ++ more) ≡ false) is (below-usr root (get_or (flat_map new_paths_of jobs) k []) more (in-flat jobs k less))

-- ### A plan of the tree before the run is one of the tree now

or-by : (P : Type 0) (a b : Bool) → (a || b) ≡ true → (a ≡ true → P) → (b ≡ true → P) → P
or-by P true b e f g = f refl
or-by P false b e f g = g e

rest-of : (folder path : List ℕ) → is_below folder path ≡ true → path ≡ folder ++ 47 ∷ drop (length (folder ++ 47 ∷ [])) path
rest-of folder path e = starts-rest path (folder ++ 47 ∷ []) e ∙ append_assoc folder (47 ∷ []) (drop (length (folder ++ 47 ∷ [])) path)

-- a path in a work folder, and one that isn't in it, nor is anything behind it, don't lie below each other
pub never-nested : (work path other : List ℕ) → ((more : List ℕ) → is_below work (path ++ more) ≡ false) → is_below work other ≡ true → is_nested path other ≡ true → ⊥
never-nested work path other out inside e =
    or-by ⊥ (is_below path other) (is_below other path) e
    (λ f. both-never (is_below work other) inside
    (subst (λ (q : List ℕ). is_below work q ≡ false) (sym (rest-of path other f)) (out (47 ∷ drop (length (path ++ 47 ∷ [])) other))))
    (λ f. both-never (is_below work path)
    (subst (λ (q : List ℕ). is_below work q ≡ true) (sym (rest-of other path f)) (longer-below work other (47 ∷ drop (length (other ++ 47 ∷ [])) path) inside))
    (subst (λ (q : List ℕ). is_below work q ≡ false) (append-nil path) (out [])))

module _ (root : List ℕ) (start t : TreeMap) (keys : keys_below start root ≡ filter (is_outside root) (keys_below t root)) where
  in-start : (path : List ℕ) → is_below (work_folder root) path ≡ false → Contains (keys_below t root) path → Contains (keys_below start root) path
  in-start path e c = subst (λ (ks : List (List ℕ)). Contains ks path) (sym keys) (contains-kept (is_outside root) (keys_below t root) path (ap not e) c)

  module _ (jobs : List JobLine) where
    new-outside : (path : List ℕ) → Contains (new_paths root jobs) path → is_below (work_folder root) path ≡ false
    new-outside path c = subst (λ (p : List ℕ). is_below (work_folder root) p ≡ false) (append-nil path) (new-below root jobs path [] c)

    nested-back : (path other : List ℕ) (b : Bool) → is_below (work_folder root) other ≡ b → Contains (new_paths root jobs) path → Contains (keys_below t root) other → is_nested path other ≡ true
        → IsTaken (keys_below start root) (new_paths root jobs) path
    nested-back path other true inside c d e = absurd (never-nested (work_folder root) path other (λ more. new-below root jobs path more c) inside e)
    nested-back path other false outside c d e = taken.nested {other = other} c (in-start other outside d) e

    taken-back : (path : List ℕ) → IsTaken (keys_below t root) (new_paths root jobs) path → IsTaken (keys_below start root) (new_paths root jobs) path
    taken-back path (taken.stands c d) = taken.stands c (in-start path (new-outside path c) d)
    taken-back path (taken.nested {other = o} c d e) = nested-back path o (is_below (work_folder root) o) refl c d e
    taken-back path (taken.twice l) = taken.twice l
    taken-back path (taken.nested_new {other = o} c d e) = taken.nested_new {other = o} c d e

  module _ (s : Settings) (v : JudgeView) (fails : List ℕ → List ℕ → Refusal → Type 0) (same : (q : List ℕ) → is_outside root q ≡ true → fin.get t q ≡ fin.get start q) where
    count-same : count_outside root (keys_below start root) ≡ count_outside root (keys_below t root)
    count-same = ap (count_outside root) keys ∙ count-filter (is_outside root) (keys_below t root)

    tallied-before : (u : Tally) → IsTallied (Some t) root (keys_below t root) s v fails u → IsTallied (Some start) root (keys_below start root) s v fails u
    tallied-before u is = record {
      few = subst (λ (n : ℕ). n ≤ most_outside) (sym count-same) is.few;
      tallies = subst (λ (ks : List (List ℕ)). Tallies (Some start) root s v fails ks u) (sym keys)
          (tallies-move s v fails root t start (is_outside root) (candidate-outside root) (λ q may. sym (same q (outside-candidate root q may))) (keys_below t root) u is.tallies);
    }

    tallied-now : (u : Tally) → IsTallied (Some start) root (keys_below start root) s v fails u → IsTallied (Some t) root (keys_below t root) s v fails u
    tallied-now u is = record {
      few = subst (λ (n : ℕ). n ≤ most_outside) count-same is.few;
      tallies = tallies-back root s v fails t start (is_outside root) (candidate-outside root) (λ q may. same q (outside-candidate root q may)) (keys_below t root) u
          (subst (λ (ks : List (List ℕ)). Tallies (Some start) root s v fails ks u) keys is.tallies);
    }

    plan-now : (p : PlanData) → IsPlanOf (Some start) root (keys_below start root) s v fails p → IsPlanOf (Some t) root (keys_below t root) s v fails p
    plan-now p is = record {
      tally = is.tally;
      tallied = tallied-now is.tally is.tallied;
      is = is.is;
      can = record { short = is.can.short; free = λ order. record { free = λ path x. (is.can.free (keys-order start root)).free path (taken-back is.tally.jobs path x) } };
      within = is.within;
    }

-- ### The run

pub none-by : (o : Option Node) (b : Bool) → b ≡ is_some o → b ≡ false → o ≡ None
none-by None b e f = refl
none-by (Some n) b e f = absurd (both-never b e f)

told-stopped : (e : PlanErr) → IsTrue (is_told e) → IsStopped e → ⊥
told-stopped e told stop.failed = cc
told-stopped e told stop.no_memory = cc

told-cut : (s : Settings) (e : PlanErr) → IsTrue (is_told e) → IsCut s e → ⊥
told-cut s e told (cuts.stopped x) = told-stopped e told x
told-cut s e told (cuts.too_large skips) = cc

hard-mild : (d : JournalErr) → is_mild_run d ≡ false → IsTrue (is_mild_run d) → ⊥
hard-mild d hard mild = both-never (is_mild_run d) mild hard

module _ (start : TreeMap) (root : List ℕ) (s : Settings) (v : JudgeView) (fails : List ℕ → List ℕ → Refusal → Type 0) (judge : IsJudge v) (clean : IsClean start root (work_folder root))
    (t : TreeMap) (partway : IsPartwayRun start root (work_folder root) s v fails t) (open_ : IsUnopposed start root s v fails) where
  abbrev Work : List ℕ
  Work = work_folder root

  absent : (n : Name) → has_path (keys_below t root) (work_path Work n) ≡ false → fin.get t (work_path Work n) ≡ None
  absent n e = none-by (fin.get t (work_path Work n)) (has_path (keys_below t root) (work_path Work n)) (keys-have t root (work_path Work n) (work-below root Work n (root-below root))) e

  planned-by : (w : Wanted) → IsRootWanted start root Work s v fails w → IsPartway w t → fin.get t (work_path Work plan) ≡ None → fin.get t (work_path Work (final 3)) ≡ None → IsUnstarted start Work t
  planned-by w is p none other =
      unstarted (wanted_of start root Work is.plan is.made) (wanted-given start root s v fails is.plan is.made is.planned clean) t
      (subst (λ (x : Wanted). IsPartway x t) is.is p) none other

  unstarted-by : IsPartwayRun start root Work s v fails t → fin.get t (work_path Work plan) ≡ None → fin.get t (work_path Work (final 3)) ≡ None → IsUnstarted start Work t
  unstarted-by (way.unplanned u) none other = u
  unstarted-by (way.planned w is p) none other = planned-by w is p none other

  -- a tree that has neither text is as before the run, but for a proposed plan
  module _ (none : has_path (keys_below t root) (work_path Work plan) ≡ false) (other : has_path (keys_below t root) (work_path Work (final 3)) ≡ false) where
    is-unstarted : IsUnstarted start Work t
    is-unstarted = unstarted-by partway (absent plan none) (absent (final 3) other)

    not-new : (q : List ℕ) → is_outside root q ≡ true → q ≢ work_path Work plan_new
    not-new q out e = both-never (is_outside root q) out (ap (is_outside root) e ∙ ap not (is_work_path Work plan_new))

    same : (q : List ℕ) → is_outside root q ≡ true → fin.get t q ≡ fin.get start q
    same q out = is-unstarted.others q (not-new q out)

    below-by : (b : Bool) → not b ≡ false → b ≡ true
    below-by true e = refl
    below-by false e = cc

    keys : keys_below start root ≡ filter (is_outside root) (keys_below t root)
    keys = keys-before t start root (λ q out. sym (same q out)) (λ q inside. clean.none_below q (below-by (is_below Work q) inside))

    has-plan : IsPlanOf (Some t) root (keys_below t root) s v fails open_.plan
    has-plan = plan-now root start t keys s v fails same open_.plan open_.is

    short-now : (u : Tally) → IsTallied (Some t) root (keys_below t root) s v fails u → plan_length (plan_of s u) ≤ text_limit
    short-now u tallied = open_.short u (tallied-before root start t keys s v fails same u tallied)

  some-now : keys_below t root ≡ [] → ⊥
  some-now e =
      let none = λ (n : Name). ap (λ (ks : List (List ℕ)). has_path ks (work_path Work n)) e in
      open_.some (keys (none plan) (none (final 3)) ∙ ap (filter (is_outside root)) e)

  module _ (edit_fails : List ℕ → Refusal → Type 0) (split_fails : List ℕ → List ℕ → Refusal → Type 0) (old new : Seen) (here : now_of old ≡ Some t) (tells : old.tells ≡ true)
      (calm : Rose old.faults new.faults → ⊥) where
    walk-complete : (e : PlanErr) → WalkEnds old new root e → plan_status e ≡ 13
    walk-complete e (walk.absent h) = absurd (some-now (sym (h.are t here)))
    walk-complete e (walk.many h) = absurd (omega (arith, partway-few start root clean open_.is.tallied.few s v fails t partway, h.many t here))
    walk-complete e (walk.failed rose) = absurd (calm rose)
    walk-complete e walk.memory = refl

    plan-complete : (e : PlanErr) → IsFresh root Work t → PlanEnds old new root (keys_below t root) s v fails e → plan_status e ≡ 13
    plan-complete e is ended = by-class (ends-class root s v fails t old new e here ended)
      where
        cut-by : IsCut s e
        cut-by = (only_cut root (keys_below t root) s v judge fails old new e ended).cut t open_.plan here (keys-order t root)
            (subst (λ (o : Option TreeMap). IsPlanOf o root (keys_below t root) s v fails open_.plan) (sym here) (has-plan is.begun is.finished))

        stopped-by : (d : PlanErr) → PlanEnds old new root (keys_below t root) s v fails d → IsStopped d → plan_status d ≡ 13
        stopped-by d x stop.failed = absurd (calm (plan-fault root s v fails old new (keys_below t root) d x refl))
        stopped-by d x stop.no_memory = refl

        by-class : IsClass (IsLongTally root s v fails t) e → plan_status e ≡ 13
        by-class (class.says_why told) = absurd (told-cut s e told cut-by)
        by-class (class.has_stopped x) = stopped-by e ended x
        by-class (class.too_large is_long long) = absurd (omega (arith, long.is.long, short-now is.begun is.finished long.tally long.is.tallied))

    -- it ends for want of memory alone, where the tree's count of faults didn't rise
    pub complete : (e : RunErr) → RunEnds root Work s v fails edit_fails split_fails old new e → ((d : JournalErr) → e ≡ run.Journal d → IsTrue (is_mild_run d)) → run_status e ≡ 13
    complete e (run_ends.failed rose) mild = absurd (calm rose)
    complete e run_ends.no_memory mild = refl
    complete e (run_ends.walking {e = d} ended same_) mild = walk-complete d ended
    complete e (run_ends.opening {e = d} walked hard o same_) mild = absurd (hard-mild d hard (mild d refl))
    complete e (run_ends.planning {paths} {e = d} walked o ended same_) mild =
        plan-complete d (empty-is root Work s v fails t old here paths walked tells o)
        (subst (λ (ps : List (List ℕ)). PlanEnds old new root ps s v fails d) (walked.all.are t here) ended)
    complete e (run_ends.resumed {e = d} p walked o hard told blame stays) mild = absurd (hard-mild d hard (mild d refl))
    complete e (run_ends.planned {e = d} p walked o is silent hard blame) mild = absurd (hard-mild d hard (mild d refl))
