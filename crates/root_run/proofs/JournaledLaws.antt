-- A start by a journal, on whichever way in: what it leaves at every moment, what it has done at `Ok`, and which steps it made.
use Rattle.std.proofs.Common.{◌≡◌, ℕ, ◌+◌, ◌≤◌, ◌^◌, Bool, true, false, if◌then◌else◌, List, length, get_or, refl, sym, ap, subst, ◌∙◌, lit≤, Result, Ok, Err}
use Rattle.std.specs.Prelude.{Some, OnOk, IfOk, IfErr, IsTrue}
use Rattle.std.specs.List.{range_with_len}
use Rattle.std.proofs.lemmas.List.{length-map, length-replicate}
use Rattle.std.proofs.lemmas.List.FromFn.{length-range_with_len}
use Rattle.dw_base.specs.declared.fault.Refusal.{Refusal}
use Rattle.file_tree.specs.declared.call.Call.TheVariants as call
use Rattle.file_tree.specs.declared.call.Effect.TheVariants as effect
use Rattle.file_tree.specs.declared.node.Node.{Node}
use Rattle.file_tree.specs.Images.{LeavesOnly, state_of}
use Rattle.file_tree.specs.Moments.{LooksOnly}
use Rattle.file_tree.specs.Seen.{Seen, Past, adds, map_now}
use Rattle.file_tree.specs.Trees.{TreeMap, keys_below}
use Rattle.job_types.specs.Settings.{Settings}
use Rattle.journal_core.specs.declared.event.Event.TheVariants.{Settle}
use Rattle.journal_core.specs.declared.event.JobState.{JobState}
use Rattle.journal_core.specs.declared.event.JobState.TheVariants.{Fresh}
use Rattle.journal_core.specs.declared.event.Phase.TheVariants.{Closed}
use Rattle.journal_core.specs.Marks.{Marking, is_any, is_earlier}
use Rattle.journal_core.specs.Starts.{shown_core, shown_state, shown_states}
use Rattle.journal_core.specs.Table.{CoreState, after, closed_core, new_core, old_core, resumed_core}
use Rattle.work_texts.specs.declared.journal_err.JournalErr.{JournalErr}
use Rattle.work_texts.specs.declared.plan.PlanData.{PlanData}
use Rattle.work_journal.specs.Blames.{is_mild_run}
use Rattle.work_journal.specs.Clearing.{IsCleared}
use Rattle.work_journal.specs.Finishing.{FinishRan}
use Rattle.work_journal.specs.Keeps.{Keeps}
use Rattle.work_journal.specs.Rounds.{rounds_of}
use Rattle.work_journal.specs.Wanted.{Wanted}
use Rattle.work_journal.specs.Work.{presence}
use Rattle.root_plan.specs.Roots.{work_folder}
use Rattle.root_plan.specs.Verdicts.{JudgeView, IsJudge}
use Rattle.root_plan.specs.Walks.{AreWalked}
use Rattle.root_run.specs.declared.run_err.RunErr.{RunErr}
use Rattle.root_run.specs.Cores.{ShowsCore, LeadsTo, SettlesFew, is_old_end}
use Rattle.root_run.specs.Cores.{ShowsCore as shows}
use Rattle.root_run.specs.Finals.{IsDone}
use Rattle.root_run.specs.RootRuns.{IsPartwayRun}
use Rattle.root_run.specs.Starts.{report_of}
use Rattle.root_run.specs.Underway.{IsUnderway, is_mild_end}
use Rattle.root_run.specs.Wholes.{IsRootPlan, wanted_of, steps_of}
use Rattle.root_run.proofs.BegunLaws.{settled_stored}
use Rattle.root_run.proofs.CoreLaws.{shows-calm}
use Rattle.root_run.proofs.GivenLaws.{plan-targets-apart}
use Rattle.root_run.proofs.RootLaws.{shows-one}
use Rattle.root_run.proofs.RootStartLaws.{root-leaves, root-done, root-leads, root-settles}

-- ### The core that a tree shows has a state for each job

shown-length : (steps : List ℕ) (m : Marking) → length (shown_states steps m) ≡ length steps
shown-length steps m =
    length-map (range_with_len 0 (length steps)) (λ j. shown_state (get_or steps j 0) (m.commit j) (m.temp j)) ∙ length-range_with_len 0 (length steps)

few-by : (a e b : Bool) (steps : List ℕ) (states : List JobState) → length states ≡ length steps → length steps ≤ 2 ^ 32
    → length (if a then (if e then old_core else closed_core) else (if b then resumed_core steps states else new_core steps)).states ≤ 2 ^ 32
few-by true true b steps states same few = lit≤ tt
few-by true false b steps states same few = lit≤ tt
few-by false e true steps states same few = subst (λ (n : ℕ). n ≤ 2 ^ 32) (sym same) few
few-by false e false steps states same few = subst (λ (n : ℕ). n ≤ 2 ^ 32) (sym (length-replicate (length steps) (Fresh 0))) few

pub shown-few : (steps : List ℕ) (m : Marking) → length steps ≤ 2 ^ 32 → length (shown_core steps m).states ≤ 2 ^ 32
shown-few steps m few = few-by (is_any (m.final 3)) (is_earlier (m.final 3)) (is_any m.plan) steps (shown_states steps m) (shown-length steps m) few

pub shows-few : (start : TreeMap) (root : List ℕ) (s : Settings) (v : JudgeView) (fails : List ℕ → List ℕ → Refusal → Type 0) (t : TreeMap) (c : CoreState)
    → ShowsCore start root (work_folder root) s v fails t c → length c.states ≤ 2 ^ 32
shows-few start root s v fails t c (shows.by_plan {p} {made} planned partway) =
    shown-few (steps_of p) (presence (is_old_end t (work_folder root)) (work_folder root) (keys_below t root)) (plan-targets-apart start root s v fails p made planned).jobs
shows-few start root s v fails t c (shows.by_none u none) = lit≤ tt

-- ### The answer of a start

ended-ok : (r : Result (Unit {0}) JournalErr) (report : List ℕ) (D : List ℕ → Type 0) → ((a : Unit {0}) → r ≡ Ok a → D report) → IfOk (report_of r report) D
ended-ok (Ok a) report D f = f a refl
ended-ok (Err e) report D f = tt

ended-closed : (r : Result (Unit {0}) JournalErr) (report : List ℕ) (X : Type 0) → OnOk r X → OnOk (report_of r report) X
ended-closed (Ok a) report X h = h
ended-closed (Err e) report X h = tt

ended-mild : (r : Result (Unit {0}) JournalErr) (report : List ℕ) → IfErr r (λ e. IsTrue (is_mild_run e)) → IfErr (report_of r report) (λ e. IsTrue (is_mild_end e))
ended-mild (Ok a) report h = tt
ended-mild (Err e) report h = h

pub at-ok : {A : Type 0} (r : Result A JournalErr) (a : A) (X : Type 0) → r ≡ Ok a → OnOk r X → X
at-ok (Ok b) a X e h = h
at-ok (Err d) a X e h = absurd (no-ok d a e)
  where
    no-ok : {A : Type 0} (d : JournalErr) (a : A) → ◌≡◌ {A = Result A JournalErr} (Err d) (Ok a) → ⊥
    no-ok d a h = cc

module _ (start : TreeMap) (root : List ℕ) (s : Settings) (v : JudgeView) (fails : List ℕ → List ℕ → Refusal → Type 0) (judge : IsJudge v) (in_flight : ℕ)
    (old new : Seen) (u : IsUnderway start root (work_folder root) s v fails old) where
  -- a journal went on from a tree that had been settled and looked at, by a plan of the root, from the core that the tree shows
  pub record Journaled (result : Result (List ℕ) RunErr) : Type 1 where
    pub p : PlanData
    pub made : List (List Node)
    pub planned : IsRootPlan start root s v fails p made
    pub first_ : Past
    pub mid : Seen
    pub paths : List (List ℕ)
    pub settled : first_ ≡ adds old.past call.Settle effect.Settled
    pub looks : LooksOnly first_ mid.past
    pub walked : AreWalked (Some (map_now mid.past)) root paths
    pub tells : mid.tells ≡ true
    pub runs : Wanted → Type 0
    pub run : runs (wanted_of start root (work_folder root) p made)
    pub settles : ℕ
    pub few : settles ≤ rounds_of (length p.jobs) in_flight + 3
    pub hits : List ℕ → Type 0
    pub core : CoreState
    pub shown : shown_core (steps_of p) (presence (is_old_end (map_now mid.past) (work_folder root)) (work_folder root) paths) ≡ core
    pub keeps : Keeps (wanted_of start root (work_folder root) p made) core (state_of mid.past)
    pub ended : Result (Unit {0}) JournalErr
    pub ran : FinishRan hits settles (work_folder root) runs core mid new ended
    pub cleared : OnOk ended (IsCleared (work_folder root) new)
    pub mild : IfErr ended (λ e. IsTrue (is_mild_run e))
    pub answer : result ≡ report_of ended p.report

  module _ (result : Result (List ℕ) RunErr) (g : Journaled result) where
    -- at every moment a stop leaves the run partway
    pub journaled-leaves : LeavesOnly (IsPartwayRun start root (work_folder root) s v fails) old.past new.past
    journaled-leaves =
        root-leaves start root s v fails u.clean old.past g.first_ g.mid g.paths u.partway g.settled g.looks g.walked g.p g.made g.planned g.runs g.run g.settles g.hits g.core new g.ended
        g.tells g.keeps g.ran

    -- at `Ok` it is done
    pub journaled-done : IfOk result (λ report. IsDone start root (work_folder root) s v fails report new)
    journaled-done =
        subst (λ (r : Result (List ℕ) RunErr). IfOk r (λ report. IsDone start root (work_folder root) s v fails report new)) (sym g.answer)
        (ended-ok g.ended g.p.report (λ report. IsDone start root (work_folder root) s v fails report new) (λ a ok.
        root-done start root s v fails u.clean old.past g.first_ g.mid g.paths u.partway g.settled g.looks g.walked g.p g.made g.planned g.runs g.run g.settles g.hits g.core new g.ended
        g.tells g.keeps g.ran a ok (at-ok g.ended a (IsCleared (work_folder root) new) ok g.cleared)))

    -- the core that the tree showed is the one that the journal went on from
    core-is : (c : CoreState) → ShowsCore start root (work_folder root) s v fails (map_now old.past) c → c ≡ g.core
    core-is c is =
        let same : map_now old.past ≡ map_now g.mid.past = sym (settled_stored old.past g.first_ g.mid.past g.settled g.looks).0 in
        shows-one start root (work_folder root) s v fails g.p g.made (map_now old.past) c judge g.planned is
        ∙ ap (λ (t : TreeMap). shown_core (steps_of g.p) (presence (is_old_end t (work_folder root)) (work_folder root) (keys_below t root))) same
        ∙ ap (λ (ps : List (List ℕ)). shown_core (steps_of g.p) (presence (is_old_end (map_now g.mid.past) (work_folder root)) (work_folder root) ps))
        (sym (g.walked.all.are (map_now g.mid.past) refl))
        ∙ g.shown

    pub journaled-leads : (c : CoreState) → ShowsCore start root (work_folder root) s v fails (map_now old.past) c → LeadsTo (work_folder root) c old.past new.past result
    journaled-leads c is =
        let same : c ≡ g.core = core-is c is in
        let led : LeadsTo (work_folder root) g.core old.past new.past g.ended =
        root-leads start root s v fails u.clean old.past g.first_ g.mid g.paths u.partway g.settled g.looks g.walked g.p g.made g.planned g.runs g.run g.settles g.hits g.core new g.ended
        g.tells g.keeps g.ran
        (subst (λ (x : CoreState). after x Settle ≡ x) same (shows-calm start root (work_folder root) s v fails (map_now old.past) c is))
        (subst (λ (x : CoreState). length x.states ≤ 2 ^ 32) same (shows-few start root s v fails (map_now old.past) c is)) in
        subst (λ (x : CoreState). LeadsTo (work_folder root) x old.past new.past result) (sym same) (record {
          rest = led.rest;
          last = led.last;
          first = led.first;
          log = led.log;
          runs = led.runs;
          only = led.only;
          closed = subst (λ (r : Result (List ℕ) RunErr). OnOk r (led.last.phase ≡ Closed)) (sym g.answer) (ended-closed g.ended g.p.report (led.last.phase ≡ Closed) led.closed);
        })

    pub journaled-settles : SettlesFew start root s v fails in_flight old.past new.past
    journaled-settles =
        root-settles start root s v fails u.clean old.past g.first_ g.mid g.paths u.partway g.settled g.looks g.walked g.p g.made g.planned g.runs g.run g.settles g.hits g.core new g.ended
        g.tells g.keeps g.ran judge in_flight g.few

    pub journaled-mild : IfErr result (λ e. IsTrue (is_mild_end e))
    journaled-mild = subst (λ (r : Result (List ℕ) RunErr). IfErr r (λ e. IsTrue (is_mild_end e))) (sym g.answer) (ended-mild g.ended g.p.report g.mild)
