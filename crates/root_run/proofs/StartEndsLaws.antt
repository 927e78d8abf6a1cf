-- Why a start of a run ends without a report, and that what it answers was due.
use Rattle.std.proofs.Common.{◌≡◌, ℕ, ◌≤◌, Bool, true, false, if◌then◌else◌, List, refl, sym, ap, subst, ◌∙◌, inl, ◌⊎◌, Result, Ok, Err, IfErr, arith}
use Rattle.std.specs.Prelude.{Option, Some, None, ⊤}
use Rattle.dw_base.specs.Layout.{file_limit}
use Rattle.dw_base.specs.declared.fault.Refusal.{Refusal}
use Rattle.file_tree.specs.Seen.{Seen, now_of, map_now}
use Rattle.file_tree.specs.Trees.{TreeMap}
use Rattle.job_types.specs.Settings.{Settings}
use Rattle.journal_core.specs.Table.{CoreState, closed_core, old_core}
use Rattle.work_texts.specs.declared.journal_err.JournalErr.{JournalErr}
use Rattle.work_texts.specs.declared.journal_err.JournalErr.TheVariants as journal
use Rattle.work_texts.specs.declared.plan.PlanData.{PlanData}
use Rattle.work_journal.specs.declared.opening.Opened.{Opened}
use Rattle.work_journal.specs.declared.opening.Opened.TheVariants as opened
use Rattle.work_journal.specs.Opening.{Opens}
use Rattle.work_journal.specs.Wanted.{Wanted}
use Rattle.root_plan.specs.Looks.{Looked}
use Rattle.root_plan.specs.Plans.{IsPlanOf, key_of}
use Rattle.root_plan.specs.Roots.{work_folder}
use Rattle.root_plan.specs.Verdicts.{JudgeView, IsJudge}
use Rattle.root_plan.specs.Walks.{AreWalked}
use Rattle.root_run.specs.declared.run_err.RunErr.{RunErr}
use Rattle.root_run.specs.declared.run_err.RunErr.TheVariants as run
use Rattle.root_run.specs.Dues.{RunDue, RunCut}
use Rattle.root_run.specs.RunEnds.{IsSame, RunEnds, status_of}
use Rattle.root_run.specs.RunEnds.{RunEnds as run_ends}
use Rattle.root_run.specs.Starts.{IsEarly, EarlyEnds, HasOpened, IsEndRun, ClearEnded, ClearRan, PlanRan, PlanWent, OpenedWent, StartRan, report_of}
use Rattle.root_run.specs.Starts.{EarlyEnds as early_ends, ClearEnded as over, PlanWent as plan_went, OpenedWent as went, StartRan as start}
use Rattle.root_run.proofs.DueLaws.{ends-due, due-exact, resumed-due, finished-due, planned-due}
use Rattle.root_run.proofs.EndsLaws.{opens-move, mild-ends, walking-ends, opening-ends, planning-ends, resumed-ends, fresh-ends}

-- ### Answers

at-err : {A : Type 0} (r : Result A RunErr) (e : RunErr) (P : RunErr → Type 0) → r ≡ Err e → P e → IfErr r P
at-err r e P is h = rw is h

ok-not-err : {A : Type 0} (a : A) (e : RunErr) → Ok a ≡ Err e → ⊥
ok-not-err a e is = cc

abbrev unit_err : JournalErr → Result (Unit {0}) JournalErr
unit_err e = Err e

fault-of : (e : JournalErr) → e ≡ journal.Tree → unit_err e ≡ unit_err journal.Tree
fault-of e f = ap unit_err f

looked-same : (old mid new : Seen) → IsSame old mid → Looked mid new → IsSame old new
looked-same old mid new same l = record { now = l.now ∙ same.now; later = omega (arith, same.later, l.later); tells = l.tells ∙ same.tells }

early-same : (old new : Seen) → IsEarly old new → IsSame old new
early-same old new is = record { now = is.now; later = is.later; tells = is.tells }

module _ (root : List ℕ) (s : Settings) (v : JudgeView) (fails : List ℕ → List ℕ → Refusal → Type 0) (edit_fails : List ℕ → Refusal → Type 0)
    (split_fails : List ℕ → List ℕ → Refusal → Type 0) (in_flight : ℕ) (judge : IsJudge v) (limit : s.max_file ≤ file_limit) where
  abbrev Ends : Seen → Seen → RunErr → Type 0
  Ends old new e = RunEnds root (work_folder root) s v fails edit_fails split_fails old new e

  -- ### Before the tree is changed

  early-ended : (old new : Seen) (e : RunErr) → IsEarly old new → EarlyEnds root s old new e → Ends old new e
  early-ended old new e is (early_ends.failed rose) = run_ends.failed rose
  early-ended old new e is early_ends.no_memory = run_ends.no_memory
  early-ended old new e is (early_ends.walking {e = d} at now later ended) =
      walking-ends root (work_folder root) s v fails edit_fails split_fails at old new d now later ended (early-same old new is)
  early-ended old new e is (early_ends.opening {e = d} at paths tells now walked o failed) =
      opening-ends root (work_folder root) s v fails edit_fails split_fails at old new paths d tells now walked o failed (early-same old new is)

  module _ (old mid : Seen) (paths : List (List ℕ)) (o : Opened) (has : HasOpened root s paths o old mid) where
    same-mid : IsSame old mid
    same-mid = looked-same old has.first.mid mid (record { now = has.first.now; later = has.first.later; tells = has.first.tells }) has.first.looked

    opens-old : Opens (work_folder root) paths (key_of s) old (Ok o)
    opens-old = opens-move has.at old has.at_tells has.at_now (work_folder root) paths (key_of s) (Ok o) has.opens

  -- ### By what the work folder holds

  module _ (old mid new : Seen) (paths : List (List ℕ)) (same : IsSame old mid) (walked : AreWalked (now_of old) root paths) where
    cleared-ended : (report : List ℕ) (result : Result (List ℕ) RunErr) (may : Wanted → Type 0) (n : ℕ) (c : CoreState) (r : Result (Unit {0}) JournalErr)
        → ClearRan (work_folder root) may n c mid new r → result ≡ report_of r report → IfErr result (Ends old new)
    cleared-ended report result may n c (Ok u) ran is = rw is tt
    cleared-ended report result may n c (Err e) ran is =
        at-err result (run.Journal e) (Ends old new) is
        (mild-ends root (work_folder root) s v fails edit_fails split_fails old mid new e same.later (λ f. ran.ran.came.failed (fault-of e f)) ran.mild)

    over-ended : (report : List ℕ) (earlier : Bool) (result : Result (List ℕ) RunErr) → ClearEnded (work_folder root) (key_of s) report mid new result earlier → IfErr result (Ends old new)
    over-ended report earlier result (over.no_text none is) = at-err result (run.Journal journal.NoMemory) (Ends old new) is run_ends.no_memory
    over-ended report earlier result (over.renewed r ran is) = cleared-ended report result (IsEndRun (key_of s) report) 2 old_core r ran is
    over-ended report earlier result (over.cleared r ran is) = cleared-ended report result (λ w. ⊤) 1 closed_core r ran is

    resumed-ended : (p : PlanData) (c : CoreState) (result : Result (List ℕ) RunErr) → Opens (work_folder root) paths (key_of s) old (Ok (opened.Resumed p))
        → PlanWent root (work_folder root) v edit_fails split_fails p in_flight c mid new result → IfErr result (Ends old new)
    resumed-ended p c result o (plan_went.no_start none is) = at-err result (run.Journal journal.NoMemory) (Ends old new) is run_ends.no_memory
    resumed-ended p c result o (plan_went.started r ran is) = by-end r ran is
      where
        by-end : (r : Result (Unit {0}) JournalErr) → PlanRan root (work_folder root) v edit_fails split_fails p in_flight c mid new r → result ≡ report_of r p.report → IfErr result (Ends old new)
        by-end (Ok u) ran is = rw is tt
        by-end (Err e) ran is =
            at-err result (run.Journal e) (Ends old new) is
            (resumed-ends root (work_folder root) s v fails edit_fails split_fails old mid new paths p e same walked o ran.ran.came.tells (λ f. ran.ran.came.failed (fault-of e f)) ran.blame ran.stays)

    planned-ended : (p : PlanData) (c : CoreState) (result : Result (List ℕ) RunErr) → Opens (work_folder root) paths (key_of s) old (Ok opened.Empty)
        → IsPlanOf (now_of old) root paths s v fails p → PlanWent root (work_folder root) v edit_fails split_fails p in_flight c mid new result → IfErr result (Ends old new)
    planned-ended p c result o is_plan (plan_went.no_start none is) = at-err result (run.Journal journal.NoMemory) (Ends old new) is run_ends.no_memory
    planned-ended p c result o is_plan (plan_went.started r ran is) = by-end r ran is
      where
        by-end : (r : Result (Unit {0}) JournalErr) → PlanRan root (work_folder root) v edit_fails split_fails p in_flight c mid new r → result ≡ report_of r p.report → IfErr result (Ends old new)
        by-end (Ok u) ran is = rw is tt
        by-end (Err e) ran is =
            at-err result (run.Journal e) (Ends old new) is
            (fresh-ends root s v fails edit_fails split_fails judge limit old mid new paths p e same walked o is_plan (λ f. ran.ran.came.failed (fault-of e f)) ran.blame ran.stays)

  opened-ended : (old mid new : Seen) (paths : List (List ℕ)) (o : Opened) (result : Result (List ℕ) RunErr) → HasOpened root s paths o old mid
      → OpenedWent root (work_folder root) s v fails edit_fails split_fails in_flight paths mid new result o → IfErr result (Ends old new)
  opened-ended old mid new paths o result has (went.finished {report} {earlier} ended) = over-ended old mid new paths (same-mid old mid paths o has) has.walked report earlier result ended
  opened-ended old mid new paths o result has (went.resumed {p} ran) = resumed-ended old mid new paths (same-mid old mid paths o has) has.walked p _ result (opens-old old mid paths o has) ran
  opened-ended old mid new paths o result has (went.unplanned e looked ended is) =
      at-err result (run.Plan e) (Ends old new) is
      (planning-ends root (work_folder root) s v fails edit_fails split_fails mid old new paths e (same-mid old mid paths o has).now (same-mid old mid paths o has).later has.walked
      (opens-old old mid paths o has) ended (looked-same old mid new (same-mid old mid paths o has) looked))
  opened-ended old mid new paths o result has (went.planned p far looked is serves ran) =
      planned-ended old far new paths (looked-same old mid far (same-mid old mid paths o has) looked) has.walked p _ result (opens-old old mid paths o has)
      (subst (λ (x : Option TreeMap). IsPlanOf x root paths s v fails p) (same-mid old mid paths o has).now is) ran

  -- why a start ends without a report
  pub start-ends : (old new : Seen) (result : Result (List ℕ) RunErr) → StartRan root s v fails edit_fails split_fails in_flight old new result → IfErr result (Ends old new)
  start-ends old new result (start.early e is ended answer) = at-err result e (Ends old new) answer (early-ended old new e is ended)
  start-ends old new result (start.entered paths o mid has ran) = opened-ended old mid new paths o result has ran

  -- ### What is due

  module _ (t : TreeMap) (old : Seen) (here : now_of old ≡ Some t) (tells : old.tells ≡ true) where
    opened-due : (mid new : Seen) (paths : List (List ℕ)) (o : Opened) (report : List ℕ) (result : Result (List ℕ) RunErr) → HasOpened root s paths o old mid
        → OpenedWent root (work_folder root) s v fails edit_fails split_fails in_flight paths mid new result o → result ≡ Ok report → RunDue root (work_folder root) s v fails t 0
    opened-due mid new paths o report result has (went.finished {report = kept} {earlier = earlier} ended) ok =
        finished-due root (work_folder root) s v fails t old here paths has.walked tells kept earlier (opens-old old mid paths o has)
    opened-due mid new paths o report result has (went.resumed {p} ran) ok =
        resumed-due root (work_folder root) s v fails t old here paths has.walked tells p (opens-old old mid paths o has)
    opened-due mid new paths o report result has (went.unplanned e looked ended is) ok = absurd (ok-not-err report (run.Plan e) (sym ok ∙ is))
    opened-due mid new paths o report result has (went.planned p far looked is serves ran) ok =
        planned-due root (work_folder root) s v fails t old here paths has.walked tells p (opens-old old mid paths o has)
        (subst (λ (x : Option TreeMap). IsPlanOf x root paths s v fails p) (same-mid old mid paths o has).now is)

    ok-due : (new : Seen) (report : List ℕ) (result : Result (List ℕ) RunErr) → StartRan root s v fails edit_fails split_fails in_flight old new result → result ≡ Ok report
        → RunDue root (work_folder root) s v fails t 0
    ok-due new report result (start.early e is ended answer) ok = absurd (ok-not-err report e (sym ok ∙ answer))
    ok-due new report result (start.entered paths o mid has ran) ok = opened-due mid new paths o report result has ran ok

  tells-by : (old : Seen) (t : TreeMap) (b : Bool) → old.tells ≡ b → now_of old ≡ Some t → old.tells ≡ true
  tells-by old t true e here = e
  tells-by old t false e here = absurd (silent old.tells e here)
    where
      silent : (b : Bool) → b ≡ false → (if b then Some (map_now old.past) else None) ≡ Some t → ⊥
      silent true f h = cc
      silent false f h = cc

  -- its status is one that is due, or one that may come in its place
  pub start-due : (old new : Seen) (result : Result (List ℕ) RunErr) → StartRan root s v fails edit_fails split_fails in_flight old new result → (t : TreeMap) → now_of old ≡ Some t
      → RunDue root (work_folder root) s v fails t (status_of result) ⊎ RunCut root (work_folder root) s v fails t (status_of result)
  start-due old new (Ok report) ran t here = inl (ok-due t old here (tells-by old t old.tells refl here) new report (Ok report) ran refl)
  start-due old new (Err e) ran t here = ends-due root (work_folder root) s v fails t edit_fails split_fails judge old new here e (start-ends old new (Err e) ran)

  -- and it is that of each status that is due, or may come in its place
  pub start-exact : (old new : Seen) (result : Result (List ℕ) RunErr) → StartRan root s v fails edit_fails split_fails in_flight old new result → (t : TreeMap) (n : ℕ) → now_of old ≡ Some t
      → RunDue root (work_folder root) s v fails t n → (status_of result ≡ n) ⊎ RunCut root (work_folder root) s v fails t (status_of result)
  start-exact old new result ran t n here asked =
      due-exact root (work_folder root) s v fails t edit_fails split_fails judge old new here n (status_of result) (start-due old new result ran t here) asked
