-- Why a run ends without a report, from what each of its steps ensures.
use Rattle.std.proofs.Common.{◌≡◌, ℕ, ◌<◌, ◌≤◌, Bool, true, false, if◌then◌else◌, List, [], ◌∷◌, length, take, get_or, refl, sym, ap, subst, ◌∙◌, arith, Result, Ok, Err}
use Rattle.std.specs.Prelude.{Option, Some, None, IsTrue}
use Rattle.std.specs.List.{All}
use Rattle.std.proofs.lemmas.List.{length-append}
use Rattle.std.proofs.Math.Seq.{get_or-append_seam}
use Rattle.dw_base.specs.Layout.{file_limit}
use Rattle.dw_base.specs.declared.fault.Refusal.{Refusal}
use Rattle.file_tree.specs.declared.node.Found.{Found}
use Rattle.file_tree.specs.declared.node.Found.TheVariants as found
use Rattle.file_tree.specs.declared.node.TreeErr.{TreeErr}
use Rattle.file_tree.specs.declared.node.TreeErr.TheVariants as tree
use Rattle.file_tree.specs.Trees.{TreeMap, stands_at, is_below}
use Rattle.file_tree.specs.Seen.{Seen, now_of, map_now}
use Rattle.file_tree.specs.Causes.{Rose, HasCause, AreInOrder}
use Rattle.job_types.specs.Settings.{Settings}
use Rattle.work_texts.specs.declared.journal_err.JournalErr.{JournalErr}
use Rattle.work_texts.specs.declared.journal_err.JournalErr.TheVariants as journal
use Rattle.work_texts.specs.declared.journal_err.WorkFile.{WorkFile}
use Rattle.work_texts.specs.declared.key.RunKey.{RunKey}
use Rattle.work_texts.specs.declared.plan.JobLine.{JobLine}
use Rattle.work_texts.specs.declared.plan.PlanData.{PlanData}
use Rattle.work_texts.specs.Rules.{text_limit}
use Rattle.work_journal.specs.declared.opening.Opened.{Opened}
use Rattle.work_journal.specs.declared.opening.Opened.TheVariants as opened
use Rattle.work_journal.specs.Blames.{is_file, is_mild_run, IsChanged, IsRefused, RunBlames}
use Rattle.work_journal.specs.Blames.{IsChanged as changes}
use Rattle.work_journal.specs.Files.{FileStands}
use Rattle.work_journal.specs.Opening.{TextStands, NoText, TextBlames, PlanKept, FinishedKept, Opens, bad_place}
use Rattle.work_journal.specs.Opening.{TextBlames as blames, PlanKept as plan_kept, FinishedKept as finished_kept, Opens as opens}
use Rattle.work_journal.specs.Planned.{AreSourcesApart}
use Rattle.work_journal.specs.Views.{MakerView}
use Rattle.root_plan.specs.declared.plan_err.PlanErr.{PlanErr}
use Rattle.root_plan.specs.Verdicts.{JudgeView, IsJudge}
use Rattle.root_plan.specs.Walks.{AreWalked, WalkEnds}
use Rattle.root_plan.specs.Walks.{WalkEnds as walk}
use Rattle.root_plan.specs.Tallies.{Tallies, PathEnds}
use Rattle.root_plan.specs.Tallies.{PathEnds as path_ends}
use Rattle.root_plan.specs.Plans.{IsTallied, IsPlanOf, PlanEnds, key_of}
use Rattle.root_plan.specs.Plans.{PlanEnds as ends}
use Rattle.root_plan.specs.Jobs.{HasFile}
use Rattle.root_plan.specs.Makers.{NodesOf, job_at, plan_view}
use Rattle.root_plan.specs.Roots.{in_root, work_folder}
use Rattle.root_plan.specs.Targets.{new_paths_of, targets_of}
use Rattle.root_plan.proofs.RunPlanLaws.{run_plan}
use Rattle.root_plan.proofs.WholeLaws.{plan_serves}
use Rattle.root_run.specs.declared.run_err.RunErr.{RunErr}
use Rattle.root_run.specs.declared.run_err.RunErr.TheVariants as run
use Rattle.root_run.specs.RunEnds.{tree_run, IsSame, JobRefuses, RunEnds}
use Rattle.root_run.specs.RunEnds.{RunEnds as run_ends}
use Rattle.root_run.specs.Wholes.{IsJobMade, nodes_at}
use Rattle.root_run.proofs.MadeLaws.{AllMade, all-made}
use Rattle.root_run.proofs.MildLaws.{file-read}
use Rattle.root_run.proofs.PlanLaws.{run-fit}
use Rattle.root_run.proofs.TargetLaws.{AreFit, targets-outside, targets-differ}
use Rattle.root_run.proofs.WantedLaws.{steps-at, jobs-in}

-- ### Nothing is changed so far

pub same-none : (old : Seen) → IsSame old old
same-none old = record { now = refl; later = omega arith; tells = refl }

pub same-then : (old mid new : Seen) → IsSame old mid → IsSame mid new → IsSame old new
same-then old mid new a b = record { now = b.now ∙ a.now; later = omega (arith, a.later, b.later); tells = b.tells ∙ a.tells }

pub rose-since : (old mid new : Seen) → old.faults ≤ mid.faults → Rose mid.faults new.faults → Rose old.faults new.faults
rose-since old mid new later rose = omega (arith, later, rose)

map-by : (b c : Bool) (t u : TreeMap) → b ≡ true → c ≡ true → (if b then Some t else None) ≡ (if c then Some u else None) → t ≡ u
map-by true true t u x y e = cc
map-by true false t u x y e = cc
map-by false c t u x y e = cc

-- what a tree that tells holds
told-by : (b : Bool) (t : TreeMap) → b ≡ true → (if b then Some t else None) ≡ Some t
told-by true t e = refl
told-by false t e = cc

pub told : (seen : Seen) → seen.tells ≡ true → now_of seen ≡ Some (map_now seen.past)
told seen tells = told-by seen.tells (map_now seen.past) tells

some-is : (t u : TreeMap) → Some t ≡ Some u → t ≡ u
some-is t u e = cc

pub holds : (seen : Seen) (t : TreeMap) → seen.tells ≡ true → now_of seen ≡ Some t → map_now seen.past ≡ t
holds seen t tells here = some-is (map_now seen.past) t (sym (told seen tells) ∙ here)

-- ### What is known of one moment is known of another that holds the same

module _ (at old : Seen) (tells : at.tells ≡ old.tells) (now : now_of at ≡ now_of old) where
  same-map : old.tells ≡ true → map_now at.past ≡ map_now old.past
  same-map t = map-by at.tells old.tells (map_now at.past) (map_now old.past) (tells ∙ t) t now

  at-tells : old.tells ≡ true → at.tells ≡ true
  at-tells t = tells ∙ t

  text-moves : (path bytes : List ℕ) → TextStands at path bytes → TextStands old path bytes
  text-moves path bytes h = record {
    mode = h.mode;
    is = λ t. subst (λ (m : TreeMap). stands_at m path text_limit ≡ found.File bytes h.mode) (same-map t) (h.is (at-tells t));
  }

  none-moves : (path : List ℕ) (place : ℕ) → NoText at path place → NoText old path place
  none-moves path place h = record { is = λ t. subst (λ (m : TreeMap). bad_place (stands_at m path text_limit) ≡ Some place) (same-map t) (h.is (at-tells t)) }

  blames-move : (path : List ℕ) (f : WorkFile) (e : JournalErr) → TextBlames at path f e → TextBlames old path f e
  blames-move path f e (blames.no_text place h) = blames.no_text place (none-moves path place h)
  blames-move path f e blames.text_fault = blames.text_fault
  blames-move path f e blames.text_memory = blames.text_memory

  plan-moves : (path : List ℕ) (key : RunKey) (r : Result Opened JournalErr) → PlanKept at path key r → PlanKept old path key r
  plan-moves path key r (plan_kept.plan_read bytes p stands text is) = plan_kept.plan_read bytes p (text-moves path bytes stands) text is
  plan-moves path key r (plan_kept.plan_not_there {e} b) = plan_kept.plan_not_there (blames-move path _ e b)
  plan-moves path key r (plan_kept.plan_bad bytes stands b) = plan_kept.plan_bad bytes (text-moves path bytes stands) b
  plan-moves path key r (plan_kept.plan_other bytes p stands text b) = plan_kept.plan_other bytes p (text-moves path bytes stands) text b

  finished-moves : (path : List ℕ) (key : RunKey) (r : Result Opened JournalErr) → FinishedKept at path key r → FinishedKept old path key r
  finished-moves path key r (finished_kept.finished_read bytes d stands text is) = finished_kept.finished_read bytes d (text-moves path bytes stands) text is
  finished-moves path key r (finished_kept.finished_not_there {e} b) = finished_kept.finished_not_there (blames-move path _ e b)
  finished-moves path key r (finished_kept.finished_bad bytes stands b) = finished_kept.finished_bad bytes (text-moves path bytes stands) b
  finished-moves path key r (finished_kept.finished_other bytes d stands text b) = finished_kept.finished_other bytes d (text-moves path bytes stands) text b

  -- what is answered of a work folder
  pub opens-move : (work : List ℕ) (paths : List (List ℕ)) (key : RunKey) (r : Result Opened JournalErr) → Opens work paths key at r → Opens work paths key old r
  opens-move work paths key r opens.opens_memory = opens.opens_memory
  opens-move work paths key r (opens.opens_empty a b) = opens.opens_empty a b
  opens-move work paths key r (opens.opens_plan a b kept) = opens.opens_plan a b (plan-moves _ key r kept)
  opens-move work paths key r (opens.opens_finished a kept) = opens.opens_finished a (finished-moves _ key r kept)

  file-moves : (path bytes : List ℕ) (mode : ℕ) → FileStands at path bytes mode → FileStands old path bytes mode
  file-moves path bytes mode h = record { is = λ t. subst (λ (m : TreeMap). stands_at m path file_limit ≡ found.File bytes mode) (same-map t) (h.is (at-tells t)) }

  module _ (v : MakerView) (refuses : ℕ → List ℕ → Refusal → Type 0) where
    changed-moves : (j : ℕ) (planned : List ℕ) (digest : Option (List ℕ)) → IsChanged v at j planned digest → IsChanged v old j planned digest
    changed-moves j planned digest (changes.no_file is none) =
        changes.no_file is (record { is = λ t. subst (λ (m : TreeMap). is_file (stands_at m (v.source j) file_limit) ≡ false) (same-map t) (none.is (at-tells t)) })
    changed-moves j planned digest (changes.other_file bytes mode stands other) = changes.other_file bytes mode (file-moves (v.source j) bytes mode stands) other

    refused-moves : (j : ℕ) (r : Refusal) → IsRefused v refuses at j r → IsRefused v refuses old j r
    refused-moves j r h = record { bytes = h.bytes; mode = h.mode; stands = file-moves (v.source j) h.bytes h.mode h.stands; refused = h.refused; planned = h.planned }

    -- why a run of jobs ends
    pub run-blames-move : (e : JournalErr) → RunBlames v refuses at e → RunBlames v refuses old e
    run-blames-move (journal.Changed path planned digest) h = (h.0, h.1, h.2, changed-moves h.0 planned digest h.3)
    run-blames-move (journal.Refused path r) h = (h.0, h.1, h.2, refused-moves h.0 r h.3)
    run-blames-move journal.Tree h = tt
    run-blames-move journal.NoMemory h = tt
    run-blames-move (journal.PlanText file place) h = h
    run-blames-move (journal.OtherRun field kept given) h = h

-- ### Each step

walks-since : (root : List ℕ) (at old new : Seen) (e : PlanErr) → now_of at ≡ now_of old → old.faults ≤ at.faults → WalkEnds at new root e → WalkEnds old new root e
walks-since root at old new e now later (walk.absent h) = walk.absent (record { are = λ t here. h.are t (now ∙ here) })
walks-since root at old new e now later (walk.many h) = walk.many (record { many = λ t here. h.many t (now ∙ here) })
walks-since root at old new e now later (walk.failed rose) = walk.failed (rose-since old at new later rose)
walks-since root at old new e now later walk.memory = walk.memory

module _ (root : List ℕ) (s : Settings) (v : JudgeView) (fails : List ℕ → List ℕ → Refusal → Type 0) where
  path-since : (at old new : Seen) (path : List ℕ) (e : PlanErr) → now_of at ≡ now_of old → old.faults ≤ at.faults → PathEnds at new root s v fails path e
      → PathEnds old new root s v fails path e
  path-since at old new path e now later (path_ends.at_found {what} may stood x) =
      path_ends.at_found {what = what} may (record { is = λ t here. stood.is t (now ∙ here) }) x
  path-since at old new path e now later (path_ends.failed rose) = path_ends.failed (rose-since old at new later rose)
  path-since at old new path e now later path_ends.no_memory = path_ends.no_memory

  -- why there is no plan, as it was at an earlier moment that held the same
  pub ends-since : (at old new : Seen) (paths : List (List ℕ)) (e : PlanErr) → now_of at ≡ now_of old → old.faults ≤ at.faults → PlanEnds at new root paths s v fails e
      → PlanEnds old new root paths s v fails e
  ends-since at old new paths e now later (ends.many l) = ends.many l
  ends-since at old new paths e now later (ends.at_path {t} n few l ts x) =
      ends.at_path n few l (subst (λ (o : Option TreeMap). Tallies o root s v fails (take n paths) t) now ts) (path-since at old new (get_or paths n []) e now later x)
  ends-since at old new paths e now later (ends.at_new {t} tallied x) = ends.at_new (subst (λ (o : Option TreeMap). IsTallied o root paths s v fails t) now tallied) x
  ends-since at old new paths e now later (ends.at_text {t} tallied can long) =
      ends.at_text (subst (λ (o : Option TreeMap). IsTallied o root paths s v fails t) now tallied) can long
  ends-since at old new paths e now later (ends.at_look made is rose) =
      ends.at_look made (subst (λ (o : Option TreeMap). IsPlanOf o root paths s v fails made) now is) (rose-since old at new later rose)
  ends-since at old new paths e now later ends.no_memory = ends.no_memory

-- ### The jobs of a plan that was just made

-- the last target of a job is its file
last-target : (job : JobLine) → get_or (targets_of job) (length (new_paths_of job)) [] ≡ job.path
last-target job = get_or-append_seam (new_paths_of job) job.path [] []

last-in : (job : JobLine) → length (new_paths_of job) < length (targets_of job)
last-in job = omega (arith, length-append (new_paths_of job) (job.path ∷ []))

no-file : (bytes : List ℕ) (mode : ℕ) (x : Found) → x ≡ found.File bytes mode → is_file x ≡ false → ⊥
no-file bytes mode x e f = never (ap is_file (sym e) ∙ f)
  where
    never : true ≡ false → ⊥
    never g = cc

same-file : (b c : List ℕ) (m n : ℕ) → found.File b m ≡ found.File c n → b ≡ c
same-file b c m n e = cc

module _ (root : List ℕ) (s : Settings) (v : JudgeView) (fails : List ℕ → List ℕ → Refusal → Type 0) (paths : List (List ℕ)) (p : PlanData) where
  -- no source lies in the work folder, and no job makes another one's file
  pub sources-apart : (old : Option TreeMap) → AreInOrder paths → IsPlanOf old root paths s v fails p → AreSourcesApart (work_folder root) (plan_view root p.jobs)
  sources-apart old order is =
      let fit : AreFit root paths p.jobs = run-fit old root s v fails paths p order (run_plan old root s v fails paths p is) in
      record {
        outside = λ i l below. targets-outside root paths p.jobs fit i (length (new_paths_of (job_at p.jobs i))) (jobs-in p.jobs i l) (last-in (job_at p.jobs i))
            (subst (λ (x : List ℕ). IsTrue (is_below (work_folder root) (in_root root x))) (sym (last-target (job_at p.jobs i))) below);
        others = λ i j k l step same. (targets-differ root paths p.jobs fit j k i (length (new_paths_of (job_at p.jobs i))) (jobs-in p.jobs j step.job_in)
            (subst (λ (n : ℕ). k < n) (steps-at p.jobs j (jobs-in p.jobs j step.job_in)) step.step_in) (jobs-in p.jobs i l) (last-in (job_at p.jobs i))
            (same ∙ ap (in_root root) (sym (last-target (job_at p.jobs i))))).0;
      }

  module _ (t : TreeMap) (old : Seen) (here : now_of old ≡ Some t) (judge : IsJudge v) (limit : s.max_file ≤ file_limit) (is : IsPlanOf (now_of old) root paths s v fails p)
      (edit_fails : List ℕ → Refusal → Type 0) (split_fails : List ℕ → List ℕ → Refusal → Type 0) where
    all : AllMade t t root s v (λ q may. refl) limit judge p.jobs
    all = all-made t t root s v (λ q may. refl) limit judge p.jobs
        (subst (λ (o : Option TreeMap). All (HasFile o root s v) p.jobs) here (plan_serves (now_of old) root s v fails paths p is).files)

    job : (j : ℕ) → j < length (plan_view root p.jobs).steps → IsJobMade t root v (job_at p.jobs j) (nodes_at all.made j)
    job j l = all.are.each j (jobs-in p.jobs j l)

    stands : (j : ℕ) (l : j < length (plan_view root p.jobs).steps) → old.tells ≡ true
        → stands_at (map_now old.past) (in_root root (job_at p.jobs j).path) file_limit ≡ found.File (job j l).bytes (job j l).mode
    stands j l tells =
        subst (λ (m : TreeMap). stands_at m (in_root root (job_at p.jobs j).path) file_limit ≡ found.File (job j l).bytes (job j l).mode) (sym (holds old t tells here))
        (file-read t (in_root root (job_at p.jobs j).path) (job j l).bytes (job j l).mode file_limit (job j l).there (job j l).few)

    never-changed : (j : ℕ) (planned : List ℕ) (digest : Option (List ℕ)) → old.tells ≡ true → j < length (plan_view root p.jobs).steps → IsChanged (plan_view root p.jobs) old j planned digest → ⊥
    never-changed j planned digest tells l (changes.no_file is none) = no-file (job j l).bytes (job j l).mode _ (stands j l tells) (none.is tells)
    never-changed j planned digest tells l (changes.other_file bytes mode there other) =
        other.differs (ap (plan_view root p.jobs).digest (same-file bytes (job j l).bytes mode (job j l).mode (sym (there.is tells) ∙ stands j l tells)) ∙ (job j l).made.planned)

    never-refused : (j : ℕ) (r : Refusal) → old.tells ≡ true → j < length (plan_view root p.jobs).steps → IsRefused (plan_view root p.jobs) (JobRefuses v edit_fails split_fails p) old j r → ⊥
    never-refused j r tells l h =
        let same : h.bytes ≡ (job j l).bytes = same-file h.bytes (job j l).bytes h.mode (job j l).mode (sym (h.stands.is tells) ∙ stands j l tells) in
        h.refused.unmade (job j l).mode (nodes_at all.made j)
        (subst (λ (b : List ℕ). NodesOf v (job_at p.jobs j) b (job j l).mode (nodes_at all.made j)) (sym same) (job j l).made)

    -- over a tree that tells they are neither changed nor refused
    pub fresh-mild : (e : JournalErr) → old.tells ≡ true → RunBlames (plan_view root p.jobs) (JobRefuses v edit_fails split_fails p) old e → IsTrue (is_mild_run e)
    fresh-mild (journal.Changed path planned digest) tells h = absurd (never-changed h.0 planned digest tells h.1 h.3)
    fresh-mild (journal.Refused path r) tells h = absurd (never-refused h.0 r tells h.1 h.3)
    fresh-mild journal.Tree tells h = refl
    fresh-mild journal.NoMemory tells h = refl
    fresh-mild (journal.PlanText file at) tells h = absurd h
    fresh-mild (journal.OtherRun field kept given) tells h = absurd h

-- ### A run

not-mild : (e : JournalErr) → is_mild_run e ≡ false → IsTrue (is_mild_run e) → ⊥
not-mild e f g = never (sym g ∙ f)
  where
    never : true ≡ false → ⊥
    never h = cc

module _ (root work : List ℕ) (s : Settings) (v : JudgeView) (fails : List ℕ → List ℕ → Refusal → Type 0) (edit_fails : List ℕ → Refusal → Type 0)
    (split_fails : List ℕ → List ℕ → Refusal → Type 0) where
  abbrev Ends : Seen → Seen → RunErr → Type 0
  Ends old new e = RunEnds root work s v fails edit_fails split_fails old new e

  -- a settle, or another call that fails at once
  pub tree-ends : {A : Type 0} (old new : Seen) (e : TreeErr) → HasCause {T = A} old new (Err e) → Ends old new (tree_run e)
  tree-ends old new tree.Failed cause = run_ends.failed (cause.failed refl)
  tree-ends old new tree.NoMemory cause = run_ends.no_memory

  -- a mild end
  mild-by : (old mid new : Seen) (e : JournalErr) → old.faults ≤ mid.faults → (e ≡ journal.Tree → Rose mid.faults new.faults) → IsTrue (is_mild_run e) → Ends old new (run.Journal e)
  mild-by old mid new (journal.Changed path planned digest) later failed mild = cc
  mild-by old mid new (journal.Refused path r) later failed mild = cc
  mild-by old mid new journal.Tree later failed mild = run_ends.failed (rose-since old mid new later (failed refl))
  mild-by old mid new journal.NoMemory later failed mild = run_ends.no_memory
  mild-by old mid new (journal.PlanText file at) later failed mild = cc
  mild-by old mid new (journal.OtherRun field kept given) later failed mild = cc

  pub mild-ends : (old mid new : Seen) (e : JournalErr) → old.faults ≤ mid.faults → (e ≡ journal.Tree → Rose mid.faults new.faults) → IsTrue (is_mild_run e) → Ends old new (run.Journal e)
  mild-ends old mid new e later failed mild = mild-by old mid new e later failed mild

  -- where the end isn't mild, by a row of its own
  by-mild : (old mid new : Seen) (e : JournalErr) (b : Bool) → is_mild_run e ≡ b → old.faults ≤ mid.faults → (e ≡ journal.Tree → Rose mid.faults new.faults)
      → (is_mild_run e ≡ false → Ends old new (run.Journal e)) → Ends old new (run.Journal e)
  by-mild old mid new e true is later failed row = mild-by old mid new e later failed is
  by-mild old mid new e false is later failed row = row is

  -- the walk
  pub walking-ends : (at old new : Seen) (e : PlanErr) → now_of at ≡ now_of old → old.faults ≤ at.faults → WalkEnds at new root e → IsSame old new → Ends old new (run.Plan e)
  walking-ends at old new e now later ended same = run_ends.walking (walks-since root at old new e now later ended) same

  -- the texts of the work folder
  pub opening-ends : (at old new : Seen) (paths : List (List ℕ)) (e : JournalErr) → at.tells ≡ old.tells → now_of at ≡ now_of old → AreWalked (now_of old) root paths
      → Opens work paths (key_of s) at (Err e) → (e ≡ journal.Tree → Rose old.faults new.faults) → IsSame old new → Ends old new (run.Journal e)
  opening-ends at old new paths e tells now walked opened failed same =
      by-mild old old new e (is_mild_run e) refl (omega arith) failed (λ hard. run_ends.opening walked hard (opens-move at old tells now work paths (key_of s) (Err e) opened) same)

  -- the plan
  pub planning-ends : (at old new : Seen) (paths : List (List ℕ)) (e : PlanErr) → now_of at ≡ now_of old → old.faults ≤ at.faults → AreWalked (now_of old) root paths
      → Opens work paths (key_of s) old (Ok opened.Empty) → PlanEnds at new root paths s v fails e → IsSame old new → Ends old new (run.Plan e)
  planning-ends at old new paths e now later walked opened ended same = run_ends.planning walked opened (ends-since root s v fails at old new paths e now later ended) same

  -- the jobs of a plan that is there
  pub resumed-ends : (old mid new : Seen) (paths : List (List ℕ)) (p : PlanData) (e : JournalErr) → IsSame old mid → AreWalked (now_of old) root paths
      → Opens work paths (key_of s) old (Ok (opened.Resumed p)) → new.tells ≡ mid.tells → (e ≡ journal.Tree → Rose mid.faults new.faults)
      → RunBlames (plan_view root p.jobs) (JobRefuses v edit_fails split_fails p) new e
      → (AreSourcesApart work (plan_view root p.jobs) → RunBlames (plan_view root p.jobs) (JobRefuses v edit_fails split_fails p) mid e) → Ends old new (run.Journal e)
  resumed-ends old mid new paths p e same walked opened told failed blame stays =
      by-mild old mid new e (is_mild_run e) refl same.later failed (λ hard. run_ends.resumed p walked opened hard (told ∙ same.tells) blame
      (λ apart. run-blames-move mid old same.tells same.now (plan_view root p.jobs) (JobRefuses v edit_fails split_fails p) e (stays apart)))

-- those of a plan that was just made
module _ (root : List ℕ) (s : Settings) (v : JudgeView) (fails : List ℕ → List ℕ → Refusal → Type 0) (edit_fails : List ℕ → Refusal → Type 0)
    (split_fails : List ℕ → List ℕ → Refusal → Type 0) (judge : IsJudge v) (limit : s.max_file ≤ file_limit) where
  fresh-by : (old mid new : Seen) (paths : List (List ℕ)) (p : PlanData) (e : JournalErr) (b : Bool) → old.tells ≡ b → IsSame old mid → AreWalked (now_of old) root paths
      → Opens (work_folder root) paths (key_of s) old (Ok opened.Empty) → IsPlanOf (now_of old) root paths s v fails p
      → RunBlames (plan_view root p.jobs) (JobRefuses v edit_fails split_fails p) new e
      → (AreSourcesApart (work_folder root) (plan_view root p.jobs) → RunBlames (plan_view root p.jobs) (JobRefuses v edit_fails split_fails p) mid e)
      → is_mild_run e ≡ false → RunEnds root (work_folder root) s v fails edit_fails split_fails old new (run.Journal e)
  fresh-by old mid new paths p e true tells same walked opened is blame stays hard =
      let apart = sources-apart root s v fails paths p (now_of old) walked.in_order is in
      let was : RunBlames (plan_view root p.jobs) (JobRefuses v edit_fails split_fails p) old e =
      run-blames-move mid old same.tells same.now (plan_view root p.jobs) (JobRefuses v edit_fails split_fails p) e (stays apart) in
      absurd (not-mild e hard (fresh-mild root s v fails paths p (map_now old.past) old (told old tells) judge limit is edit_fails split_fails e tells was))
  fresh-by old mid new paths p e false tells same walked opened is blame stays hard = run_ends.planned p walked opened is tells hard blame

  pub fresh-ends : (old mid new : Seen) (paths : List (List ℕ)) (p : PlanData) (e : JournalErr) → IsSame old mid → AreWalked (now_of old) root paths
      → Opens (work_folder root) paths (key_of s) old (Ok opened.Empty) → IsPlanOf (now_of old) root paths s v fails p → (e ≡ journal.Tree → Rose mid.faults new.faults)
      → RunBlames (plan_view root p.jobs) (JobRefuses v edit_fails split_fails p) new e
      → (AreSourcesApart (work_folder root) (plan_view root p.jobs) → RunBlames (plan_view root p.jobs) (JobRefuses v edit_fails split_fails p) mid e)
      → RunEnds root (work_folder root) s v fails edit_fails split_fails old new (run.Journal e)
  fresh-ends old mid new paths p e same walked opened is failed blame stays =
      by-mild root (work_folder root) s v fails edit_fails split_fails old mid new e (is_mild_run e) refl same.later failed
      (fresh-by old mid new paths p e old.tells refl same walked opened is blame stays)
