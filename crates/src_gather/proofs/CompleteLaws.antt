-- A gather to which nothing is opposed ends without a report only by a fault of the tree, or for want of memory.
use Rattle.std.proofs.Common.{◌≡◌, ◌≢◌, ℕ, Bool, true, false, List, [], ◌∷◌, ◌++◌, refl, sym, ap, subst, ◌∙◌, inl, inr, ◌⊎◌, append_assoc, arith, Result, Ok, Err}
use Rattle.std.specs.Prelude.{Option, Some, None, Contains, IfErr, IsTrue, is_some}
use Rattle.std.specs.FinMap as fin
use Rattle.std.proofs.lemmas.List.{append-nil}
use Rattle.file_tree.specs.Causes.{Rose}
use Rattle.file_tree.specs.Seen.{Seen, map_now, now_of}
use Rattle.file_tree.specs.Trees.{TreeMap, is_below, keys_below}
use Rattle.file_tree.proofs.ImageLaws.{image_now}
use Rattle.journal_core.specs.Names.{Name, plan, final}
use Rattle.work_texts.specs.declared.plan.JobLine.{JobLine}
use Rattle.work_texts.specs.declared.plan.PlanData.{PlanData}
use Rattle.work_journal.specs.Wanted.{IsPartway, Wanted}
use Rattle.work_journal.specs.Work.{has_path, work_path}
use Rattle.root_paths.specs.NewPaths.{IsTaken, is_nested}
use Rattle.root_paths.specs.NewPaths.{IsTaken as taken}
use Rattle.root_paths.specs.Roots.{in_root}
use Rattle.root_run.specs.Dues.{IsFresh}
use Rattle.root_run.specs.Partways.{IsUnstarted}
use Rattle.root_run.specs.Partways.{IsPartwayBy as way}
use Rattle.root_run.proofs.CompleteLaws.{never-nested, none-by}
use Rattle.root_run.proofs.EndsLaws.{told}
use Rattle.root_run.proofs.FewLaws.{has-from, has-in}
use Rattle.root_run.proofs.KeysLaws.{key-below, keys-have, keys-order}
use Rattle.root_run.proofs.KeysLaws.{work-below as name-below}
use Rattle.root_run.proofs.ShownLaws.{are-keys, empty-shown}
use Rattle.root_run.proofs.StartLaws.{unstarted}
use Rattle.src_gather.specs.declared.gather_err.GatherErr.{GatherErr}
use Rattle.src_gather.specs.declared.gather_err.GatherErr.TheVariants as err
use Rattle.src_gather.specs.Asked.{IsAsked}
use Rattle.src_gather.specs.Errors.{is_mild}
use Rattle.src_gather.specs.Gathering.{IsGatherPlan, copy_paths, gather_key}
use Rattle.src_gather.specs.GatherEnds.{GatherEnds, PlanEnds}
use Rattle.src_gather.specs.GatherEnds.{GatherEnds as ends}
use Rattle.src_gather.specs.Listed.{copy_folder}
use Rattle.src_gather.specs.Makers.{gather_folder}
use Rattle.src_gather.specs.Partways.{IsPartwayGather, IsUnderway, IsUnopposed}
use Rattle.src_gather.specs.Starts.{StartRan}
use Rattle.src_gather.specs.Wholes.{IsClean, IsGatherWanted, wanted_of}
use Rattle.src_gather.proofs.BeforeLaws.{end-same, gathering-moves, list-same, outside-same, source-same, still-there}
use Rattle.src_gather.proofs.EndsLaws.{start-ends}
use Rattle.src_gather.proofs.FolderLaws.{copy-outside, not-true}
use Rattle.src_gather.proofs.OneLaws.{plan-not}
use Rattle.src_gather.proofs.PieceLaws.{cases, here, never}
use Rattle.src_gather.proofs.StartLaws.{folder-below, start-mild}
use Rattle.src_gather.proofs.WantedLaws.{wanted-given}

-- ### Copies lie outside of the work folder, and so does what is behind them

module _ (root from dest : List ℕ) (asked : IsAsked root from dest) where
  copy-out : (name more : List ℕ) → is_below (gather_folder root) (in_root (copy_folder root dest) name ++ more) ≡ false
  copy-out name more =
      ap (is_below (gather_folder root)) (append_assoc (copy_folder root dest) (47 ∷ name) more)
      ∙ not-true (is_below (gather_folder root) (in_root (copy_folder root dest) (name ++ more))) (copy-outside root dest (name ++ more) asked.is_dest)

  copies-out : (jobs : List JobLine) (path : List ℕ) → Contains (copy_paths root dest jobs) path → (more : List ℕ) → is_below (gather_folder root) (path ++ more) ≡ false
  copies-out [] path c more = absurd (never path c)
  copies-out (job ∷ jobs) path c more = by (cases (in_root (copy_folder root dest) job.path) path (copy_paths root dest jobs) c) (λ d. copies-out jobs path d more)
    where
      by : (in_root (copy_folder root dest) job.path ≡ path) ⊎ Contains (copy_paths root dest jobs) path
          → (Contains (copy_paths root dest jobs) path → is_below (gather_folder root) (path ++ more) ≡ false) → is_below (gather_folder root) (path ++ more) ≡ false
      by (inl e) later = subst (λ (q : List ℕ). is_below (gather_folder root) (q ++ more) ≡ false) e (copy-out job.path more)
      by (inr d) later = later d

  copy-apart : (jobs : List JobLine) (path : List ℕ) → Contains (copy_paths root dest jobs) path → is_below (gather_folder root) path ≡ false
  copy-apart jobs path c = subst (λ (q : List ℕ). is_below (gather_folder root) q ≡ false) (append-nil path) (copies-out jobs path c [])

-- ### A plan of the tree before the gather is one of a tree that isn't planned yet

module _ (start t : TreeMap) (root from dest : List ℕ) (asked : IsAsked root from dest) (clean : IsClean start root) (u : IsUnstarted start (gather_folder root) t) where
  -- what lies below the root now, outside of the work folder, lay there before
  in-start : (q : List ℕ) → is_below (gather_folder root) q ≡ false → Contains (keys_below t root) q → Contains (keys_below start root) q
  in-start q out c =
      let has = has-from (keys_below t root) q c in
      let below : is_below root q ≡ true = key-below t root q has in
      let there : is_some (fin.get t q) ≡ true = sym (keys-have t root q below) ∙ has in
      has-in (keys_below start root) q (keys-have start root q below ∙ ap is_some (sym (outside-same start t root from dest asked clean u q out)) ∙ there)

  nested-back : (jobs : List JobLine) (path other : List ℕ) (b : Bool) → is_below (gather_folder root) other ≡ b → Contains (copy_paths root dest jobs) path
      → Contains (keys_below t root) other → is_nested path other ≡ true → IsTaken (keys_below start root) (copy_paths root dest jobs) path
  nested-back jobs path other true inside c d e =
      absurd (never-nested (gather_folder root) path other (copies-out root from dest asked jobs path c) inside e)
  nested-back jobs path other false out c d e = taken.nested {other = other} c (in-start other out d) e

  taken-back : (jobs : List JobLine) (path : List ℕ) → IsTaken (keys_below t root) (copy_paths root dest jobs) path → IsTaken (keys_below start root) (copy_paths root dest jobs) path
  taken-back jobs path (taken.stands c d) = taken.stands c (in-start path (copy-apart root from dest asked jobs path c) d)
  taken-back jobs path (taken.nested {other = o} c d e) = nested-back jobs path o (is_below (gather_folder root) o) refl c d e
  taken-back jobs path (taken.twice l) = taken.twice l
  taken-back jobs path (taken.nested_new {other = o} c d e) = taken.nested_new {other = o} c d e

  plan-now : (p : PlanData) → IsGatherPlan (Some start) root from dest (keys_below start root) p → IsGatherPlan (Some t) root from dest (keys_below t root) p
  plan-now p is = record {
    gathering = is.gathering;
    gathers = gathering-moves start t root from dest (λ name. sym (source-same start t root from dest asked clean u name)) is.gathering
        (sym (end-same start t root from dest asked clean u)) (sym (list-same start t root from dest asked clean u)) is.gathers;
    is = is.is;
    can = record { short = is.can.short; free = λ order. record { free = λ path x. (is.can.free (keys-order start root)).free path (taken-back is.gathering.jobs path x) } };
    within = is.within;
  }

-- ### The gather

none-left : (xs ys : List (List ℕ)) → xs ≢ [] → ((q : List ℕ) → Contains xs q → Contains ys q) → ys ≡ [] → ⊥
none-left [] ys some f e = some refl
none-left (x ∷ xs) ys some f e = never x (subst (λ (zs : List (List ℕ)). Contains zs x) e (f x (here x xs)))

module _ (start : TreeMap) (root from dest : List ℕ) (asked : IsAsked root from dest) (clean : IsClean start root) (t : TreeMap) (partway : IsPartwayGather start root from dest t) where
  absent : (n : Name) → has_path (keys_below t root) (work_path (gather_folder root) n) ≡ false → fin.get t (work_path (gather_folder root) n) ≡ None
  absent n e =
      none-by (fin.get t (work_path (gather_folder root) n)) (has_path (keys_below t root) (work_path (gather_folder root) n))
      (keys-have t root (work_path (gather_folder root) n) (name-below root (gather_folder root) n (folder-below root))) e

  planned-by : (w : Wanted) → IsGatherWanted start root from dest w → IsPartway w t → fin.get t (work_path (gather_folder root) plan) ≡ None
      → fin.get t (work_path (gather_folder root) (final 3)) ≡ None → IsUnstarted start (gather_folder root) t
  planned-by w is p none other =
      unstarted (wanted_of start root dest is.plan is.sources) (wanted-given start root from dest asked is.plan is.sources is.planned clean) t
      (subst (λ (x : Wanted). IsPartway x t) is.is p) none other

  unstarted-by : IsPartwayGather start root from dest t → fin.get t (work_path (gather_folder root) plan) ≡ None → fin.get t (work_path (gather_folder root) (final 3)) ≡ None
      → IsUnstarted start (gather_folder root) t
  unstarted-by (way.unplanned u) none other = u
  unstarted-by (way.planned w is p) none other = planned-by w is p none other

  -- a tree that has neither text is as before the gather, but for a proposed plan
  is-unstarted : has_path (keys_below t root) (work_path (gather_folder root) plan) ≡ false → has_path (keys_below t root) (work_path (gather_folder root) (final 3)) ≡ false
      → IsUnstarted start (gather_folder root) t
  is-unstarted none other = unstarted-by partway (absent plan none) (absent (final 3) other)

  -- so some paths lie below the root
  some-now : keys_below start root ≢ [] → keys_below t root ≡ [] → ⊥
  some-now some e =
      let none = λ (n : Name). ap (λ (ks : List (List ℕ)). has_path ks (work_path (gather_folder root) n)) e in
      none-left (keys_below start root) (keys_below t root) some (still-there start t root from dest asked clean (is-unstarted (none plan) (none (final 3)))) e

  -- and a root that has a plan isn't without one
  plan-still : (p : PlanData) (e : GatherErr) → IsGatherPlan (Some start) root from dest (keys_below start root) p → IsFresh root (gather_folder root) t
      → PlanEnds (Some t) root from dest (keys_below t root) e → ⊥
  plan-still p e is fresh ended =
      plan-not t root from dest (keys_below t root) (keys-order t root) p e (plan-now start t root from dest asked clean (is-unstarted fresh.begun fresh.finished) p is) ended

module _ (start : TreeMap) (root from dest : List ℕ) (asked : IsAsked root from dest) (old new : Seen) (u : IsUnderway start root from dest old) (open_ : IsUnopposed start root from dest old)
    (calm : Rose old.faults new.faults → ⊥) where
  abbrev Now : TreeMap
  Now = map_now old.past

  here-now : now_of old ≡ Some Now
  here-now = told old u.tells

  partway-now : IsPartwayGather start root from dest Now
  partway-now = u.partway.each Now (image_now old.past)

  complete : (e : GatherErr) → IsTrue (is_mild e) → GatherEnds root from dest old new e → e ≡ err.NoMemory
  complete e mild (ends.failed rose) = absurd (calm rose)
  complete e mild ends.no_memory = refl
  complete e mild (ends.entries m kept) = absurd (omega (arith, open_.few, m.many Now here-now))
  complete e mild (ends.absent a kept) = absurd (some-now start root from dest asked u.clean Now partway-now open_.some (sym (a.are Now here-now)))
  complete e mild (ends.opening walked hard o kept) = cc
  complete e mild (ends.planning {paths} walked o ended kept) =
      absurd
      (plan-still start root from dest asked u.clean Now partway-now open_.plan e open_.is
      (empty-shown root (gather_folder root) (gather_key from dest) Now old here-now paths walked u.tells o)
      (subst (λ (ps : List (List ℕ)). PlanEnds (Some Now) root from dest ps e) (are-keys root (gather_folder root) (gather_key from dest) Now old here-now paths walked)
      (subst (λ (x : Option TreeMap). PlanEnds x root from dest paths e) here-now ended)))
  complete e mild (ends.resumed p walked o hard now before) = cc
  complete e mild (ends.planned p walked o made silent hard now) = cc

  complete-by : (result : Result (List ℕ) GatherErr) → IfErr result (λ e. IsTrue (is_mild e)) → IfErr result (GatherEnds root from dest old new) → IfErr result (λ e. e ≡ err.NoMemory)
  complete-by (Ok report) mild ended = tt
  complete-by (Err e) mild ended = complete e mild ended

pub start-completes : (start : TreeMap) (root from dest : List ℕ) (asked : IsAsked root from dest) (in_flight : ℕ) (old new : Seen) → IsUnderway start root from dest old
    → IsUnopposed start root from dest old → (Rose old.faults new.faults → ⊥) → (result : Result (List ℕ) GatherErr) → StartRan root from dest in_flight old new result
    → IfErr result (λ e. e ≡ err.NoMemory)
start-completes start root from dest asked in_flight old new u open_ calm result ran =
    complete-by start root from dest asked old new u open_ calm result
    (start-mild start root from dest asked u.clean in_flight old new u result ran) (start-ends root from dest asked in_flight old new result ran)
