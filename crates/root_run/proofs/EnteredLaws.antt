-- What a start did, by the way on which it ended: a journal went on by a plan of the root, or nothing was changed.
use Rattle.std.proofs.Common.{◌≡◌, ℕ, ◌+◌, ◌<◌, ◌≤◌, ◌^◌, Bool, true, false, List, length, refl, sym, ap, subst, ◌∙◌, arith, Result, Ok, Err}
use Rattle.std.specs.Prelude.{Option, Some, IsTrue, ⊤}
use Rattle.std.proofs.lemmas.List.{length-map}
use Rattle.dw_base.specs.Layout.{file_limit}
use Rattle.dw_base.specs.Paths.{IsPathMap}
use Rattle.dw_base.specs.declared.fault.Refusal.{Refusal}
use Rattle.file_tree.specs.Images.{state_of}
use Rattle.file_tree.specs.Moments.{LooksOnly}
use Rattle.file_tree.specs.Seen.{Seen, map_now, now_of}
use Rattle.file_tree.specs.Trees.{TreeMap}
use Rattle.file_tree.proofs.ImageLaws.{image_now}
use Rattle.job_types.specs.Settings.{HasKey, Settings, IsWithin}
use Rattle.journal_core.specs.Names.{plan, final}
use Rattle.journal_core.specs.Starts.{shown_core}
use Rattle.journal_core.specs.Table.{new_core}
use Rattle.work_texts.specs.declared.journal_err.JournalErr.{JournalErr}
use Rattle.work_texts.specs.declared.journal_err.JournalErr.TheVariants as journal
use Rattle.work_texts.specs.declared.key.RunKey.{RunKey}
use Rattle.work_texts.specs.declared.plan.JobLine.{JobLine}
use Rattle.work_texts.specs.declared.plan.PlanData.{PlanData}
use Rattle.work_texts.specs.Rules.{IsKey, IsPlan}
use Rattle.work_texts.proofs.SizeLaws.{no_longer}
use Rattle.work_journal.specs.declared.opening.Opened.{Opened}
use Rattle.work_journal.specs.declared.opening.Opened.TheVariants as opened
use Rattle.work_journal.specs.Ending.{text_file}
use Rattle.work_journal.specs.Keeps.{Keeps}
use Rattle.work_journal.specs.Opening.{Opens, PlanKept, FinishedKept}
use Rattle.work_journal.specs.Opening.{Opens as opens, PlanKept as plan_kept, FinishedKept as finished_kept}
use Rattle.work_journal.specs.Rounds.{rounds_of}
use Rattle.work_journal.specs.Spares.{InWork, IsHit}
use Rattle.work_journal.specs.Wanted.{Wanted, IsPartway}
use Rattle.work_journal.specs.Work.{work_path, has_path, presence}
use Rattle.root_plan.specs.Makers.{plan_view}
use Rattle.root_plan.specs.Plans.{IsPlanOf, key_of}
use Rattle.root_plan.specs.Roots.{work_folder}
use Rattle.root_plan.specs.Targets.{targets_of}
use Rattle.root_plan.specs.Verdicts.{JudgeView, IsJudge}
use Rattle.root_plan.specs.Walks.{AreWalked}
use Rattle.root_run.specs.declared.run_err.RunErr.{RunErr}
use Rattle.root_run.specs.declared.run_err.RunErr.TheVariants as run
use Rattle.root_run.specs.Cores.{is_old_end}
use Rattle.root_run.specs.Begun.{Begun}
use Rattle.root_run.specs.Begun.{Begun as begun}
use Rattle.root_run.specs.Starts.{SettledFirst, EarlyEnds, HasOpened, report_of, core_from, end_text, IsEndRun, ClearEnded, ClearRan, PlanRan, PlanWent, OpenedWent, StartRan, IsPlanRun, FewJobs}
use Rattle.root_run.specs.Starts.{EarlyEnds as early, ClearEnded as over, PlanWent as went, OpenedWent as way, StartRan as ran}
use Rattle.root_run.specs.RootRuns.{IsPartwayRun}
use Rattle.root_run.specs.Underway.{IsUnderway, is_mild_end}
use Rattle.root_run.specs.Wholes.{IsRootPlan, wanted_of, steps_of, finished_text}
use Rattle.root_run.proofs.FirstLaws.{now-tells, maps-same, looked-first}
use Rattle.root_run.proofs.GivenLaws.{wanted-given}
use Rattle.root_run.proofs.JournaledLaws.{Journaled}
use Rattle.root_run.proofs.MildLaws.{opens-mild}
use Rattle.root_run.proofs.OldLaws.{root-texts}
use Rattle.root_run.proofs.RootStartLaws.{finished-found, resumed-found, fresh-found, fresh-keeps, root-names, root-run, root-plan-fits}
use Rattle.root_run.proofs.TextLaws.{resumed-own, finished-own}
use Rattle.root_run.proofs.WaysLaws.{over_core, shown_over, shown_new, shown_resumed}

-- ### What was opened

abbrev ok_of : Opened → Result Opened JournalErr
ok_of o = Ok o

no-err : (o : Opened) (e : JournalErr) → Err e ≡ ok_of o → ⊥
no-err o e h = cc

not-empty-finished : (report : List ℕ) (old : Bool) → ok_of opened.Empty ≡ ok_of (opened.Finished report old) → ⊥
not-empty-finished report old e = cc

not-resumed-finished : (p : PlanData) (report : List ℕ) (old : Bool) → ok_of (opened.Resumed p) ≡ ok_of (opened.Finished report old) → ⊥
not-resumed-finished p report old e = cc

not-empty-resumed : (p : PlanData) → ok_of opened.Empty ≡ ok_of (opened.Resumed p) → ⊥
not-empty-resumed p e = cc

not-finished-resumed : (report : List ℕ) (old : Bool) (p : PlanData) → ok_of (opened.Finished report old) ≡ ok_of (opened.Resumed p) → ⊥
not-finished-resumed report old p e = cc

not-finished-empty : (report : List ℕ) (old : Bool) → ok_of (opened.Finished report old) ≡ ok_of opened.Empty → ⊥
not-finished-empty report old e = cc

not-resumed-empty : (p : PlanData) → ok_of (opened.Resumed p) ≡ ok_of opened.Empty → ⊥
not-resumed-empty p e = cc

module _ (work : List ℕ) (paths : List (List ℕ)) (key : RunKey) (seen : Seen) where
  -- a finished text was read
  pub record FinishedOpened (report : List ℕ) (old : Bool) : Type 0 where
    pub there : has_path paths (work_path work (final 3)) ≡ true
    pub kept : FinishedKept seen (work_path work (final 3)) key (Ok (opened.Finished report old))
    pub fits : IsKey key

  finished-kept : (r : Result Opened JournalErr) (report : List ℕ) (old : Bool) → r ≡ ok_of (opened.Finished report old) → FinishedKept seen (work_path work (final 3)) key r → IsKey key
  finished-kept r report old e (finished_kept.finished_read bytes d stands text same) = subst IsKey same text.finished.key
  finished-kept r report old e (finished_kept.finished_not_there {e = x} h) = absurd (no-err (opened.Finished report old) x e)
  finished-kept r report old e (finished_kept.finished_bad {e = x} bytes stands h) = absurd (no-err (opened.Finished report old) x e)
  finished-kept r report old e (finished_kept.finished_other {e = x} bytes d stands text h) = absurd (no-err (opened.Finished report old) x e)

  plan-not-finished : (r : Result Opened JournalErr) (report : List ℕ) (old : Bool) → r ≡ ok_of (opened.Finished report old) → PlanKept seen (work_path work plan) key r → ⊥
  plan-not-finished r report old e (plan_kept.plan_read bytes p stands text same) = not-resumed-finished p report old e
  plan-not-finished r report old e (plan_kept.plan_not_there {e = x} h) = no-err (opened.Finished report old) x e
  plan-not-finished r report old e (plan_kept.plan_bad {e = x} bytes stands h) = no-err (opened.Finished report old) x e
  plan-not-finished r report old e (plan_kept.plan_other {e = x} bytes p stands text h) = no-err (opened.Finished report old) x e

  finished-by : (r : Result Opened JournalErr) (report : List ℕ) (old : Bool) → r ≡ ok_of (opened.Finished report old) → Opens work paths key seen r → FinishedOpened report old
  finished-by r report old e opens.opens_memory = absurd (no-err (opened.Finished report old) journal.NoMemory e)
  finished-by r report old e (opens.opens_empty none other) = absurd (not-empty-finished report old e)
  finished-by r report old e (opens.opens_plan none has kept) = absurd (plan-not-finished r report old e kept)
  finished-by r report old e (opens.opens_finished has kept) = record {
    there = has;
    kept = subst (FinishedKept seen (work_path work (final 3)) key) e kept;
    fits = finished-kept r report old e kept;
  }

  pub finished-opened : (report : List ℕ) (old : Bool) → Opens work paths key seen (Ok (opened.Finished report old)) → FinishedOpened report old
  finished-opened report old o = finished-by (ok_of (opened.Finished report old)) report old refl o

  -- a plan was read
  pub record PlanOpened (p : PlanData) : Type 0 where
    pub none : has_path paths (work_path work (final 3)) ≡ false
    pub there : has_path paths (work_path work plan) ≡ true
    pub kept : PlanKept seen (work_path work plan) key (Ok (opened.Resumed p))
    pub key_fits : IsKey key
    pub few : length p.jobs < 2 ^ 32

  pub record PlanFits (p : PlanData) : Type 0 where
    pub key_fits : IsKey key
    pub few : length p.jobs < 2 ^ 32

  same-plan : (p q : PlanData) → ok_of (opened.Resumed p) ≡ ok_of (opened.Resumed q) → p ≡ q
  same-plan p q e = cc

  plan-kept : (r : Result Opened JournalErr) (p : PlanData) → r ≡ ok_of (opened.Resumed p) → PlanKept seen (work_path work plan) key r → PlanFits p
  plan-kept r p e (plan_kept.plan_read bytes q stands text same) = record {
    key_fits = subst IsKey same text.plan.key;
    few = subst (λ (x : PlanData). length x.jobs < 2 ^ 32) (same-plan q p e) text.plan.job_count;
  }
  plan-kept r p e (plan_kept.plan_not_there {e = x} h) = absurd (no-err (opened.Resumed p) x e)
  plan-kept r p e (plan_kept.plan_bad {e = x} bytes stands h) = absurd (no-err (opened.Resumed p) x e)
  plan-kept r p e (plan_kept.plan_other {e = x} bytes q stands text h) = absurd (no-err (opened.Resumed p) x e)

  finished-not-plan : (r : Result Opened JournalErr) (p : PlanData) → r ≡ ok_of (opened.Resumed p) → FinishedKept seen (work_path work (final 3)) key r → ⊥
  finished-not-plan r p e (finished_kept.finished_read bytes d stands text same) = not-finished-resumed d.report d.old p e
  finished-not-plan r p e (finished_kept.finished_not_there {e = x} h) = no-err (opened.Resumed p) x e
  finished-not-plan r p e (finished_kept.finished_bad {e = x} bytes stands h) = no-err (opened.Resumed p) x e
  finished-not-plan r p e (finished_kept.finished_other {e = x} bytes d stands text h) = no-err (opened.Resumed p) x e

  plan-by : (r : Result Opened JournalErr) (p : PlanData) → r ≡ ok_of (opened.Resumed p) → Opens work paths key seen r → PlanOpened p
  plan-by r p e opens.opens_memory = absurd (no-err (opened.Resumed p) journal.NoMemory e)
  plan-by r p e (opens.opens_empty none other) = absurd (not-empty-resumed p e)
  plan-by r p e (opens.opens_plan none has kept) =
      let fits = plan-kept r p e kept in
      record { none = none; there = has; kept = subst (PlanKept seen (work_path work plan) key) e kept; key_fits = fits.key_fits; few = fits.few }
  plan-by r p e (opens.opens_finished has kept) = absurd (finished-not-plan r p e kept)

  pub plan-opened : (p : PlanData) → Opens work paths key seen (Ok (opened.Resumed p)) → PlanOpened p
  plan-opened p o = plan-by (ok_of (opened.Resumed p)) p refl o

  -- neither text is there
  pub record NoneOpened : Type 0 where
    pub none : has_path paths (work_path work (final 3)) ≡ false
    pub other : has_path paths (work_path work plan) ≡ false

  plan-not-empty : (r : Result Opened JournalErr) → r ≡ ok_of opened.Empty → PlanKept seen (work_path work plan) key r → ⊥
  plan-not-empty r e (plan_kept.plan_read bytes q stands text same) = not-resumed-empty q e
  plan-not-empty r e (plan_kept.plan_not_there {e = x} h) = no-err opened.Empty x e
  plan-not-empty r e (plan_kept.plan_bad {e = x} bytes stands h) = no-err opened.Empty x e
  plan-not-empty r e (plan_kept.plan_other {e = x} bytes q stands text h) = no-err opened.Empty x e

  finished-not-empty : (r : Result Opened JournalErr) → r ≡ ok_of opened.Empty → FinishedKept seen (work_path work (final 3)) key r → ⊥
  finished-not-empty r e (finished_kept.finished_read bytes d stands text same) = not-finished-empty d.report d.old e
  finished-not-empty r e (finished_kept.finished_not_there {e = x} h) = no-err opened.Empty x e
  finished-not-empty r e (finished_kept.finished_bad {e = x} bytes stands h) = no-err opened.Empty x e
  finished-not-empty r e (finished_kept.finished_other {e = x} bytes d stands text h) = no-err opened.Empty x e

  none-by : (r : Result Opened JournalErr) → r ≡ ok_of opened.Empty → Opens work paths key seen r → NoneOpened
  none-by r e opens.opens_memory = absurd (no-err opened.Empty journal.NoMemory e)
  none-by r e (opens.opens_empty none other) = record { none = none; other = other }
  none-by r e (opens.opens_plan none has kept) = absurd (plan-not-empty r e kept)
  none-by r e (opens.opens_finished has kept) = absurd (finished-not-empty r e kept)

  pub none-opened : Opens work paths key seen (Ok opened.Empty) → NoneOpened
  none-opened o = none-by (ok_of opened.Empty) refl o

-- so jobs of a plan that is there can be numbered
pub few-opened : (work : List ℕ) (paths : List (List ℕ)) (key : RunKey) (seen : Seen) (o : Opened) → Opens work paths key seen (Ok o) → FewJobs o
few-opened work paths key seen opened.Empty is = tt
few-opened work paths key seen (opened.Resumed p) is = (plan-opened work paths key seen p is).few
few-opened work paths key seen (opened.Finished report old) is = tt

pub few-resumed : (o : Opened) (p : PlanData) → o ≡ opened.Resumed p → FewJobs o → length p.jobs < 2 ^ 32
few-resumed o p is few = subst FewJobs is few

-- ### A start

rounds-same : (p : PlanData) (root : List ℕ) (in_flight : ℕ) → rounds_of (length (plan_view root p.jobs).steps) in_flight + 3 ≤ rounds_of (length p.jobs) in_flight + 3
rounds-same p root in_flight =
    subst (λ (n : ℕ). rounds_of n in_flight + 3 ≤ rounds_of (length p.jobs) in_flight + 3) (sym (length-map p.jobs (λ (job : JobLine). length (targets_of job)))) (omega arith)

pub limit-few : (n : ℕ) → IsWithin n → n ≤ file_limit
limit-few n w = omega (arith, w.greatest)

once-more : (n : ℕ) → 1 ≤ n + 3
once-more n = omega arith

twice-more : (n : ℕ) → 2 ≤ n + 3
twice-more n = omega arith

-- the finished text of a plan is the one that is put anew
pub end-wanted : (p : PlanData) (key : RunKey) (report : List ℕ) → p.key ≡ key → report ≡ p.report → finished_text p ≡ end_text key report
end-wanted p key report same is = ap (λ (k : RunKey). end_text k p.report) same ∙ ap (λ (r : List ℕ). end_text key r) (sym is)

-- a key that a text says can be said
key-kept : (s : Settings) → IsKey (key_of s) → HasKey s
key-kept s key = record { seed = key.seed }

module _ (start : TreeMap) (root : List ℕ) (s : Settings) (v : JudgeView) (fails : List ℕ → List ℕ → Refusal → Type 0) (edit_fails : List ℕ → Refusal → Type 0)
    (split_fails : List ℕ → List ℕ → Refusal → Type 0) (judge : IsJudge v) (maps : IsPathMap s.maps) (within : IsWithin s.max_file) (in_flight : ℕ)
    (old new : Seen) (u : IsUnderway start root (work_folder root) s v fails old) where
  -- nothing was changed, or a journal went on by a plan of the root
  pub data Entered (result : Result (List ℕ) RunErr) : Type 1 where
    unbegun : Begun old.past new.past → (e : RunErr) → (HasKey s → IsTrue (is_mild_end e)) → result ≡ Err e → Entered result
    by_journal : Journaled start root s v fails judge in_flight old new u result → Entered result

  module _ (mid : Seen) (paths : List (List ℕ)) (f : SettledFirst old mid) (walked : AreWalked (now_of old) root paths) where
    mid-tells : mid.tells ≡ true
    mid-tells = f.looked.tells ∙ f.tells ∙ u.tells

    mid-now : now_of mid ≡ now_of old
    mid-now = f.looked.now ∙ f.now

    mid-looks : LooksOnly f.mid.past mid.past
    mid-looks = f.looked.looks (f.tells ∙ u.tells)

    mid-walked : AreWalked (Some (map_now mid.past)) root paths
    mid-walked = subst (λ (o : Option TreeMap). AreWalked o root paths) (sym mid-now ∙ now-tells mid mid-tells) walked

    -- looks change nothing
    mid-begun : Begun old.past mid.past
    mid-begun = begun.settled_first {mid = f.mid.past} (f.settled u.tells) mid-looks

    module _ (at : Seen) (at_tells : at.tells ≡ old.tells) (at_now : now_of at ≡ now_of old) where
      at-same : map_now mid.past ≡ map_now at.past
      at-same = maps-same mid at mid-tells (at_tells ∙ u.tells) (mid-now ∙ sym at_now)

      -- a run that is over
      over-went : (report : List ℕ) (earlier : Bool) (result : Result (List ℕ) RunErr) → Opens (work_folder root) paths (key_of s) at (Ok (opened.Finished report earlier))
          → (runs : Wanted → Type 0) → ((w : Wanted) → IsEndRun (key_of s) report w → runs w) → (n : ℕ) → ((rounds : ℕ) → n ≤ rounds + 3) → (r : Result (Unit {0}) JournalErr)
          → ClearRan (work_folder root) runs n (over_core earlier) mid new r → result ≡ report_of r report → Journaled start root s v fails judge in_flight old new u result
      over-went report earlier result o runs run n few r c answer =
          let x = finished-opened (work_folder root) paths (key_of s) at report earlier o in
          let g = finished-found start root s v fails u.clean old.past f.mid.past mid paths u.partway (f.settled u.tells) mid-looks mid-walked x.there in
          let fits : IsPlan g.p = root-plan-fits start root s v fails u.clean g.p g.made judge maps within (key-kept s x.fits) g.planned in
          let own = finished-own (wanted_of start root (work_folder root) g.p g.made) g.p (root-texts start root (work_folder root) g.p g.made) at (at_tells ∙ u.tells) fits
          (subst (IsPartway (wanted_of start root (work_folder root) g.p g.made)) at-same g.partway) (key_of s) report earlier x.kept in
          let is_old : is_old_end (map_now mid.past) (work_folder root) ≡ earlier = ap (λ (t : TreeMap). is_old_end t (work_folder root)) at-same ∙ sym own.old_is in
          record {
            p = g.p;
            made = g.made;
            planned = g.planned;
            first_ = f.mid.past;
            mid = mid;
            paths = paths;
            settled = f.settled u.tells;
            looks = mid-looks;
            walked = mid-walked;
            tells = mid-tells;
            runs = runs;
            run = run (wanted_of start root (work_folder root) g.p g.made) (ap (λ (t : List ℕ). text_file t) (end-wanted g.p (key_of s) report own.key_is own.report_is));
            settles = n;
            few = few (rounds_of (length g.p.jobs) in_flight);
            hits = InWork (work_folder root);
            core = over_core earlier;
            shown = ap (λ (b : Bool). shown_core (steps_of g.p) (presence b (work_folder root) paths)) is_old ∙ shown_over earlier (steps_of g.p) (work_folder root) paths x.there;
            keeps = subst (λ (b : Bool). Keeps (wanted_of start root (work_folder root) g.p g.made) (over_core b) (state_of mid.past)) is_old g.keeps;
            ended = r;
            ran = c.ran;
            cleared = c.cleared;
            mild = c.mild;
            answer = answer ∙ ap (report_of r) own.report_is;
          }

      finished-went : (report : List ℕ) (earlier : Bool) (result : Result (List ℕ) RunErr) → Opens (work_folder root) paths (key_of s) at (Ok (opened.Finished report earlier))
          → ClearEnded (work_folder root) (key_of s) report mid new result earlier → Entered result
      finished-went report earlier result o (over.no_text same is) = unbegun (subst (λ (x : Seen). Begun old.past x.past) (sym same) mid-begun) (run.Journal journal.NoMemory) (λ seed. refl) is
      finished-went report earlier result o (over.renewed r c is) = by_journal (over-went report true result o (IsEndRun (key_of s) report) (λ w run. run) 2 twice-more r c is)
      finished-went report earlier result o (over.cleared r c is) = by_journal (over-went report false result o (λ w. ⊤) (λ w run. tt) 1 once-more r c is)

      -- a plan that was there
      resumed-went : (p : PlanData) (result : Result (List ℕ) RunErr) → Opens (work_folder root) paths (key_of s) at (Ok (opened.Resumed p))
          → (r : Result (Unit {0}) JournalErr) → PlanRan root (work_folder root) v edit_fails split_fails p in_flight (core_from false (work_folder root) paths (steps_of p)) mid new r
          → result ≡ report_of r p.report → Journaled start root s v fails judge in_flight old new u result
      resumed-went p result o r ran answer =
          let x = plan-opened (work_folder root) paths (key_of s) at p o in
          let g = resumed-found start root s v fails u.clean old.past f.mid.past mid paths u.partway (f.settled u.tells) mid-looks mid-walked x.none x.there in
          let fits : IsPlan g.p = root-plan-fits start root s v fails u.clean g.p g.made judge maps within (key-kept s x.key_fits) g.planned in
          let own = resumed-own (wanted_of start root (work_folder root) g.p g.made) g.p (root-texts start root (work_folder root) g.p g.made) at (at_tells ∙ u.tells) fits
          (subst (IsPartway (wanted_of start root (work_folder root) g.p g.made)) at-same g.partway) (key_of s) p x.kept in
          let planned : IsRootPlan start root s v fails p g.made = subst (λ (q : PlanData). IsRootPlan start root s v fails q g.made) (sym own.0) g.planned in
          let keeps : Keeps (wanted_of start root (work_folder root) p g.made) (core_from false (work_folder root) paths (steps_of p)) (state_of mid.past) =
          subst (λ (q : PlanData). Keeps (wanted_of start root (work_folder root) q g.made) (core_from false (work_folder root) paths (steps_of q)) (state_of mid.past)) (sym own.0) g.keeps in
          let run : IsPlanRun root v p (wanted_of start root (work_folder root) p g.made) =
          root-run start root s v fails u.clean old.past f.mid.past mid paths u.partway (f.settled u.tells) mid-looks mid-walked p g.made planned in
          record {
            p = p;
            made = g.made;
            planned = planned;
            first_ = f.mid.past;
            mid = mid;
            paths = paths;
            settled = f.settled u.tells;
            looks = mid-looks;
            walked = mid-walked;
            tells = mid-tells;
            runs = IsPlanRun root v p;
            run = run;
            settles = rounds_of (length (plan_view root p.jobs).steps) in_flight + 3;
            few = rounds-same p root in_flight;
            hits = IsHit (work_folder root) (plan_view root p.jobs) (λ j. ⊤);
            core = core_from false (work_folder root) paths (steps_of p);
            shown = shown_resumed (is_old_end (map_now mid.past) (work_folder root)) (steps_of p) (work_folder root) paths x.none x.there;
            keeps = keeps;
            ended = r;
            ran = ran.ran;
            cleared = ran.cleared;
            mild = ran.mild (wanted_of start root (work_folder root) p g.made) (wanted-given start root s v fails p g.made planned u.clean) run mid-tells keeps;
            answer = answer;
          }

  -- a plan that was just made
  planned-went : (mid at : Seen) (paths : List (List ℕ)) → SettledFirst old mid → AreWalked (now_of old) root paths → (p : PlanData) (result : Result (List ℕ) RunErr)
      → Opens (work_folder root) paths (key_of s) at (Ok opened.Empty)
      → IsPlanOf (now_of old) root paths s v fails p
      → (r : Result (Unit {0}) JournalErr) → PlanRan root (work_folder root) v edit_fails split_fails p in_flight (core_from true (work_folder root) paths (steps_of p)) mid new r
      → result ≡ report_of r p.report → Journaled start root s v fails judge in_flight old new u result
  planned-went mid at paths f walked p result o is r ran answer =
      let x = none-opened (work_folder root) paths (key_of s) at o in
      let tells : mid.tells ≡ true = mid-tells mid paths f walked in
      let looks : LooksOnly f.mid.past mid.past = mid-looks mid paths f walked in
      let here : AreWalked (Some (map_now mid.past)) root paths = mid-walked mid paths f walked in
      let planned_now : IsPlanOf (Some (map_now mid.past)) root paths s v fails p =
      subst (λ (m : Option TreeMap). IsPlanOf m root paths s v fails p) (sym (mid-now mid paths f walked) ∙ now-tells mid tells) is in
      let g = fresh-found start root s v fails u.clean old.past f.mid.past mid paths u.partway (f.settled u.tells) looks here x.none x.other (limit-few s.max_file within) judge p planned_now in
      let keeps : Keeps (wanted_of start root (work_folder root) p g.made) (new_core (steps_of p)) (state_of mid.past) =
      fresh-keeps start root s v fails u.clean old.past f.mid.past mid paths u.partway (f.settled u.tells) looks here x.none x.other p g.made g.is in
      let run : IsPlanRun root v p (wanted_of start root (work_folder root) p g.made) =
      root-run start root s v fails u.clean old.past f.mid.past mid paths u.partway (f.settled u.tells) looks here p g.made g.is in
      record {
        p = p;
        made = g.made;
        planned = g.is;
        first_ = f.mid.past;
        mid = mid;
        paths = paths;
        settled = f.settled u.tells;
        looks = looks;
        walked = here;
        tells = tells;
        runs = IsPlanRun root v p;
        run = run;
        settles = rounds_of (length (plan_view root p.jobs).steps) in_flight + 3;
        few = rounds-same p root in_flight;
        hits = IsHit (work_folder root) (plan_view root p.jobs) (λ j. ⊤);
        core = new_core (steps_of p);
        shown = shown_new (is_old_end (map_now mid.past) (work_folder root)) (steps_of p) (work_folder root) paths x.none x.other;
        keeps = keeps;
        ended = r;
        ran = ran.ran;
        cleared = ran.cleared;
        mild = ran.mild (wanted_of start root (work_folder root) p g.made) (wanted-given start root s v fails p g.made g.is u.clean) run tells keeps;
        answer = answer;
      }

  begun-at : (mid : Seen) (paths : List (List ℕ)) → SettledFirst old mid → AreWalked (now_of old) root paths → new ≡ mid → Begun old.past new.past
  begun-at mid paths f walked same = subst (λ (x : Seen). Begun old.past x.past) (sym same) (mid-begun mid paths f walked)

  resumed-entered : (mid : Seen) (paths : List (List ℕ)) → SettledFirst old mid → AreWalked (now_of old) root paths → (at : Seen) → at.tells ≡ old.tells → now_of at ≡ now_of old
      → (p : PlanData) (result : Result (List ℕ) RunErr) → Opens (work_folder root) paths (key_of s) at (Ok (opened.Resumed p))
      → PlanWent root (work_folder root) v edit_fails split_fails p in_flight (core_from false (work_folder root) paths (steps_of p)) mid new result → Entered result
  resumed-entered mid paths f walked at tells now p result o (went.no_start same is) = unbegun (begun-at mid paths f walked same) (run.Journal journal.NoMemory) (λ seed. refl) is
  resumed-entered mid paths f walked at tells now p result o (went.started r ran is) = by_journal (resumed-went mid paths f walked at tells now p result o r ran is)

  planned-entered : (mid at : Seen) (paths : List (List ℕ)) → SettledFirst old mid → AreWalked (now_of old) root paths → (p : PlanData) (result : Result (List ℕ) RunErr)
      → Opens (work_folder root) paths (key_of s) at (Ok opened.Empty) → IsPlanOf (now_of old) root paths s v fails p
      → PlanWent root (work_folder root) v edit_fails split_fails p in_flight (core_from true (work_folder root) paths (steps_of p)) mid new result → Entered result
  planned-entered mid at paths f walked p result o is (went.no_start same e) = unbegun (begun-at mid paths f walked same) (run.Journal journal.NoMemory) (λ seed. refl) e
  planned-entered mid at paths f walked p result o is (went.started r ran e) = by_journal (planned-went mid at paths f walked p result o is r ran e)

  opened-entered : (mid : Seen) (paths : List (List ℕ)) (o : Opened) (result : Result (List ℕ) RunErr) → HasOpened root s paths o old mid
      → OpenedWent root (work_folder root) s v fails edit_fails split_fails in_flight paths mid new result o → Entered result
  opened-entered mid paths o result h (way.finished {report = report} {earlier = earlier} c) = finished-went mid paths h.first h.walked h.at h.at_tells h.at_now report earlier result h.opens c
  opened-entered mid paths o result h (way.resumed {p = p} w) = resumed-entered mid paths h.first h.walked h.at h.at_tells h.at_now p result h.opens w
  opened-entered mid paths o result h (way.unplanned e looked ends is) =
      unbegun (mid-begun new paths (looked-first old mid new h.first looked) h.walked) (run.Plan e) (λ seed. refl) is
  opened-entered mid paths o result h (way.planned p more looked is serves w) =
      planned-entered more h.at paths (looked-first old mid more h.first looked) h.walked p result h.opens
      (subst (λ (m : Option TreeMap). IsPlanOf m root paths s v fails p) (mid-now mid paths h.first h.walked) is) w

  -- no text of a tree that is partway is bad, or of another run
  early-mild : (e : RunErr) → HasKey s → EarlyEnds root s old new e → IsTrue (is_mild_end e)
  early-mild e seed (early.failed rose) = refl
  early-mild e seed early.no_memory = refl
  early-mild e seed (early.walking at now later ends) = refl
  early-mild e seed (early.opening {e = d} at paths tells now walked opens rose) =
      let told : at.tells ≡ true = tells ∙ u.tells in
      let same : map_now old.past ≡ map_now at.past = maps-same old at u.tells told (sym now) in
      let partway : IsPartwayRun start root (work_folder root) s v fails (map_now at.past) =
      subst (IsPartwayRun start root (work_folder root) s v fails) same (u.partway.each (map_now old.past) (image_now old.past)) in
      let here : AreWalked (Some (map_now at.past)) root paths = subst (λ (m : Option TreeMap). AreWalked m root paths) (sym now ∙ now-tells at told) walked in
      opens-mild start root s v fails u.clean (λ p made planned. root-plan-fits start root s v fails u.clean p made judge maps within seed planned) no_longer at paths told partway
      (root-names start root s v fails u.clean (map_now at.past) paths here) d opens

  pub start-entered : (result : Result (List ℕ) RunErr) → StartRan root s v fails edit_fails split_fails in_flight old new result → Entered result
  start-entered result (ran.early e a ends is) = unbegun (a.begun u.tells) e (λ seed. early-mild e seed ends) is
  start-entered result (ran.entered paths o mid h w) = opened-entered mid paths o result h w

-- the work folder by the code's own word for it
pub entered-by : (root given : List ℕ) (s : Settings) (v : JudgeView) (fails : List ℕ → List ℕ → Refusal → Type 0) (edit_fails : List ℕ → Refusal → Type 0)
    (split_fails : List ℕ → List ℕ → Refusal → Type 0) (in_flight : ℕ) (old mid new : Seen) (paths : List (List ℕ)) (o : Opened) (result : Result (List ℕ) RunErr)
    → given ≡ work_folder root → HasOpened root s paths o old mid → OpenedWent root given s v fails edit_fails split_fails in_flight paths mid new result o
    → StartRan root s v fails edit_fails split_fails in_flight old new result
entered-by root given s v fails edit_fails split_fails in_flight old mid new paths o result is h w =
    ran.entered paths o mid h (subst (λ (x : List ℕ). OpenedWent root x s v fails edit_fails split_fails in_flight paths mid new result o) is w)

-- the way on by what was opened, with the code's own words for the work folder and its paths
module _ (root given work : List ℕ) (s : Settings) (v : JudgeView) (fails : List ℕ → List ℕ → Refusal → Type 0) (edit_fails : List ℕ → Refusal → Type 0)
    (split_fails : List ℕ → List ℕ → Refusal → Type 0) (in_flight : ℕ) (seen paths : List (List ℕ)) (old new : Seen) (result : Result (List ℕ) RunErr) (o : Opened)
    (work_is : given ≡ work) (paths_are : seen ≡ paths) where
  abbrev Went : List ℕ → List (List ℕ) → Opened → Type 0
  Went w ps x = OpenedWent root w s v fails edit_fails split_fails in_flight ps old new result x

  as-said : (x : Opened) → o ≡ x → Went given seen x → Went work paths o
  as-said x is w = subst (Went work paths) (sym is) (subst (λ (d : List ℕ). Went d paths x) work_is (subst (λ (ps : List (List ℕ)). Went given ps x) paths_are w))

  pub go-finished : (report : List ℕ) (earlier : Bool) → o ≡ opened.Finished report earlier → ClearEnded given (key_of s) report old new result earlier → Went work paths o
  go-finished report earlier is c = as-said (opened.Finished report earlier) is (way.finished c)

  pub go-resumed : (p : PlanData) → o ≡ opened.Resumed p → PlanWent root given v edit_fails split_fails p in_flight (core_from false given seen (steps_of p)) old new result → Went work paths o
  go-resumed p is w = as-said (opened.Resumed p) is (way.resumed w)

  pub go-empty : o ≡ opened.Empty → Went given seen opened.Empty → Went work paths o
  go-empty is w = as-said opened.Empty is w
