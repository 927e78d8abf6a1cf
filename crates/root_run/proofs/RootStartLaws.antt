-- A whole start over a build root, on each of the three ways in: at every moment of it a stop leaves the run partway, and at `Ok` it is done.
use Rattle.std.proofs.Common.{◌≡◌, ℕ, ◌+◌, ◌≤◌, ◌^◌, Bool, true, false, List, length, refl, sym, ap, subst, ◌∙◌, arith, Result, Ok, Err}
use Rattle.std.specs.Prelude.{Some, OnOk}
use Rattle.dw_base.specs.Layout.{file_limit}
use Rattle.dw_base.specs.Paths.{IsPathMap}
use Rattle.dw_base.specs.declared.fault.Refusal.{Refusal}
use Rattle.file_tree.specs.declared.call.Call.TheVariants as call
use Rattle.file_tree.specs.declared.call.Effect.TheVariants as effect
use Rattle.file_tree.specs.declared.node.Node.{Node}
use Rattle.file_tree.specs.Images.{Images, LeavesOnly, state_of}
use Rattle.file_tree.specs.Moments.{LooksOnly}
use Rattle.file_tree.specs.Seen.{Seen, Past, adds, map_now, settles_of}
use Rattle.file_tree.specs.Trees.{TreeMap, keys_below}
use Rattle.job_types.specs.Settings.{HasKey, Settings, IsWithin}
use Rattle.journal_core.specs.declared.event.Event.TheVariants.{Settle}
use Rattle.journal_core.specs.declared.event.Phase.TheVariants.{Closed}
use Rattle.journal_core.specs.Marks.{is_earlier}
use Rattle.journal_core.specs.Names.{plan, final}
use Rattle.journal_core.specs.Starts.{shown_states}
use Rattle.journal_core.specs.Table.{CoreState, after, new_core, resumed_core}
use Rattle.work_texts.specs.declared.journal_err.JournalErr.{JournalErr}
use Rattle.work_texts.specs.declared.plan.JobLine.{JobLine}
use Rattle.work_texts.specs.declared.plan.PlanData.{PlanData}
use Rattle.work_texts.specs.Rules.{IsPlan}
use Rattle.work_journal.specs.Clearing.{IsCleared}
use Rattle.work_journal.specs.Ending.{end_nodes}
use Rattle.work_journal.specs.Finishing.{FinishRan, IsRun, plan_node}
use Rattle.work_journal.specs.Keeps.{Keeps}
use Rattle.work_journal.specs.Rounds.{rounds_of}
use Rattle.work_journal.specs.Runs.{IsGiven}
use Rattle.work_journal.specs.Wanted.{Wanted, IsPartway}
use Rattle.work_journal.specs.Work.{work_path, has_path, presence}
use Rattle.root_plan.specs.Jobs.{AreAsked}
use Rattle.root_plan.specs.Makers.{plan_view, plan_makes}
use Rattle.root_plan.specs.Plans.{IsPlanOf}
use Rattle.root_plan.specs.Roots.{work_folder}
use Rattle.root_plan.specs.Verdicts.{JudgeView, IsJudge}
use Rattle.root_plan.specs.Walks.{AreWalked}
use Rattle.root_run.specs.Begun.{Begun as begun}
use Rattle.root_run.specs.Cores.{LeadsTo, SettlesFew, is_old_end}
use Rattle.root_run.specs.Finals.{IsFinalRun, IsDone}
use Rattle.root_run.specs.RootRuns.{IsRootWanted, IsPartwayRun}
use Rattle.root_run.specs.Wholes.{IsClean, IsRootPlan, wanted_of, steps_of, lists_of, finished_text}
use Rattle.root_run.proofs.GivenLaws.{wanted-given}
use Rattle.root_run.proofs.KeysLaws.{keys-order, keys-have, root-below, work-below}
use Rattle.root_run.proofs.OldLaws.{marked-old, root-texts}
use Rattle.root_run.proofs.PlanLaws.{run-fits}
use Rattle.root_run.proofs.RootLaws.{HasRootPlan, root-planned, plan-wanted, plan-final, same-jobs}
use Rattle.root_run.proofs.StartLaws.{HasNames, way-finished, way-resumed, way-unstarted, way-fresh, settled-partway, start-leaves}
use Rattle.root_run.proofs.BegunLaws.{settled_stored}
use Rattle.root_run.proofs.CoreLaws.{begun-stays, leads}
use Rattle.root_run.proofs.SettleLaws.{settled-once}
use Rattle.root_run.proofs.WantedLaws.{wanted_run}
use Rattle.root_run.proofs.WaysLaws.{over_core, run-ended}

pub closed-by : {A E : Type 0} (r : Result A E) (c d : CoreState) → OnOk r (c ≡ d) → OnOk r (d.phase ≡ Closed) → OnOk r (c.phase ≡ Closed)
closed-by (Ok a) c d same closed = ap (λ (x : CoreState). x.phase) same ∙ closed
closed-by (Err e) c d same closed = tt

pub settles-by : (now then_ old n rounds : ℕ) → now ≤ then_ + n → then_ ≡ old + 1 → n ≤ rounds + 3 → now ≤ old + (rounds + 4)
settles-by now then_ old n rounds a b c = omega (arith, a, b, c)

module _ (start : TreeMap) (root : List ℕ) (s : Settings) (v : JudgeView) (fails : List ℕ → List ℕ → Refusal → Type 0) (clean : IsClean start root (work_folder root)) where
  abbrev Root : Wanted → Type 0
  Root w = IsRootWanted start root (work_folder root) s v fails w

  abbrev wanted : PlanData → List (List Node) → Wanted
  wanted p made = wanted_of start root (work_folder root) p made

  root-fits : (w : Wanted) → Root w → IsGiven w (work_folder root)
  root-fits w is = subst (λ (x : Wanted). IsGiven x (work_folder root)) (sym is.is) (wanted-given start root s v fails is.plan is.made is.planned clean)

  root-starts : (w : Wanted) → Root w → w.start ≡ start
  root-starts w is = ap (λ (x : Wanted). x.start) is.is

  -- its finished text is an earlier program's where its mark says so
  root-old : (w : Wanted) → Root w → (t : TreeMap) (p : IsPartway w t) → is_earlier (p.marking.final 3) ≡ is_old_end t (work_folder root)
  root-old w is =
      subst (λ (x : Wanted). (t : TreeMap) (p : IsPartway x t) → is_earlier (p.marking.final 3) ≡ is_old_end t (work_folder root)) (sym is.is)
      (marked-old (wanted is.plan is.made) is.plan (root-texts start root (work_folder root) is.plan is.made))

  pub root-names : (t : TreeMap) (paths : List (List ℕ)) → AreWalked (Some t) root paths → HasNames (work_folder root) t paths
  root-names t paths walked = subst (HasNames (work_folder root) t) (sym (walked.all.are t refl))
      (record { named = λ n. keys-have t root (work_path (work_folder root) n) (work-below root (work_folder root) n (root-below root)) })

  -- ### A plan of the root

  root-asked : IsJudge v → IsPathMap s.maps → IsWithin s.max_file → HasKey s → AreAsked root (keys_below start root) s v
  root-asked judge maps limit key = record {
    judge = judge;
    map = maps;
    limit = limit;
    key = key;
    order = keys-order start root;
    paths = record { plain = λ path c may. clean.plain path c };
  }

  -- a plan of the root is one that the work folder may have
  pub root-plan-fits : (p : PlanData) (made : List (List Node)) → IsJudge v → IsPathMap s.maps → IsWithin s.max_file → HasKey s → IsRootPlan start root s v fails p made → IsPlan p
  root-plan-fits p made judge maps limit key planned =
      run-fits (Some start) root s v fails (keys_below start root) p (root-asked judge maps limit key) planned.plan_is

  -- ### What a start finds

  pub record FoundRoot (core : Wanted → CoreState) (mid : Seen) : Type 0 where
    pub p : PlanData
    pub made : List (List Node)
    pub planned : IsRootPlan start root s v fails p made
    pub partway : IsPartway (wanted p made) (map_now mid.past)
    pub keeps : Keeps (wanted p made) (core (wanted p made)) (state_of mid.past)

  found-by : (core : Wanted → CoreState) (mid : Seen) (w : Wanted) (is : Root w) → IsPartway w (map_now mid.past) → Keeps w (core w) (state_of mid.past) → FoundRoot core mid
  found-by core mid w is partway keeps = record {
    p = is.plan;
    made = is.made;
    planned = is.planned;
    partway = subst (λ (x : Wanted). IsPartway x (map_now mid.past)) is.is partway;
    keeps = subst (λ (x : Wanted). Keeps x (core x) (state_of mid.past)) is.is keeps;
  }

  module _ (old first_ : Past) (mid : Seen) (paths : List (List ℕ)) (images : Images (IsPartwayRun start root (work_folder root) s v fails) (state_of old))
      (settled : first_ ≡ adds old call.Settle effect.Settled) (looks : LooksOnly first_ mid.past) (walked : AreWalked (Some (map_now mid.past)) root paths) where
    partway-now : IsPartwayRun start root (work_folder root) s v fails (map_now mid.past)
    partway-now = settled-partway start (work_folder root) Root clean.none_below root-fits root-starts old first_ mid.past images settled looks

    -- a finished text, of this program or of an earlier one
    pub finished-found : has_path paths (work_path (work_folder root) (final 3)) ≡ true → FoundRoot (λ w. over_core (is_old_end (map_now mid.past) (work_folder root))) mid
    finished-found has =
        let earlier : Bool = is_old_end (map_now mid.past) (work_folder root) in
        let f = way-finished start (work_folder root) Root clean.none_below root-fits root-starts mid paths partway-now (settled_stored old first_ mid.past settled looks).1 (root-names (map_now mid.past) paths walked)
        earlier (λ w is p. root-old w is (map_now mid.past) p) has in
        found-by (λ w. over_core earlier) mid f.w f.is f.partway f.keeps

    -- a plan
    pub resumed-found : has_path paths (work_path (work_folder root) (final 3)) ≡ false → has_path paths (work_path (work_folder root) plan) ≡ true
        → FoundRoot (λ w. resumed_core w.steps (shown_states w.steps (presence false (work_folder root) paths))) mid
    resumed-found none has =
        let f = way-resumed start (work_folder root) Root clean.none_below root-fits root-starts mid paths partway-now (settled_stored old first_ mid.past settled looks).1 (root-names (map_now mid.past) paths walked) none has in
        found-by (λ w. resumed_core w.steps (shown_states w.steps (presence false (work_folder root) paths))) mid f.w f.is f.partway f.keeps

    -- neither: a plan that is made now is one of the root before the run, and its core agrees with the tree
    pub fresh-found : has_path paths (work_path (work_folder root) (final 3)) ≡ false → has_path paths (work_path (work_folder root) plan) ≡ false → s.max_file ≤ file_limit → IsJudge v
        → (p : PlanData) → IsPlanOf (Some (map_now mid.past)) root paths s v fails p → HasRootPlan start root s v fails p
    fresh-found none other limit judge p is =
        root-planned start (map_now mid.past) root s v fails p clean
        (way-unstarted start (work_folder root) Root clean.none_below root-fits root-starts mid paths partway-now (settled_stored old first_ mid.past settled looks).1 (root-names (map_now mid.past) paths walked) none other)
        limit judge (subst (λ (ps : List (List ℕ)). IsPlanOf (Some (map_now mid.past)) root ps s v fails p) (walked.all.are (map_now mid.past) refl) is)

    pub fresh-keeps : has_path paths (work_path (work_folder root) (final 3)) ≡ false → has_path paths (work_path (work_folder root) plan) ≡ false
        → (p : PlanData) (made : List (List Node)) → IsRootPlan start root s v fails p made → Keeps (wanted p made) (new_core (steps_of p)) (state_of mid.past)
    fresh-keeps none other p made planned =
        way-fresh start (work_folder root) Root clean.none_below root-fits root-starts mid paths partway-now (settled_stored old first_ mid.past settled looks).1 (root-names (map_now mid.past) paths walked)
        (wanted p made) (plan-wanted start root (work_folder root) s v fails p made planned) none other

    -- ### What a start leaves

    module _ {A : Type 0} (p : PlanData) (made : List (List Node)) (planned : IsRootPlan start root s v fails p made) (runs : Wanted → Type 0) (run : runs (wanted p made))
        (n : ℕ) (hits : List ℕ → Type 0) (c : CoreState) (new : Seen) (r : Result A JournalErr) (tells : mid.tells ≡ true) (keeps : Keeps (wanted p made) c (state_of mid.past))
        (ran : FinishRan hits n (work_folder root) runs c mid new r) where
      -- whatever is answered, at every moment of it a stop leaves the run partway
      pub root-leaves : LeavesOnly (IsPartwayRun start root (work_folder root) s v fails) old new.past
      root-leaves =
          start-leaves start (work_folder root) Root clean.none_below root-fits root-starts runs (wanted p made) n hits c old first_ mid new r images settled looks
          (plan-wanted start root (work_folder root) s v fails p made planned) run tells keeps ran

      -- at `Ok` it is done, with the plan's report
      pub root-final : (a : A) → r ≡ Ok a → IsCleared (work_folder root) new → IsFinalRun start root (work_folder root) s v fails p.report (map_now new.past)
      root-final a ok cleared =
          plan-final start root (work_folder root) s v fails p made (map_now new.past) planned
          (run-ended (wanted p made) runs n hits c mid new r a ok run (wanted-given start root s v fails p made planned clean) tells keeps ran cleared)

      -- and all of it is stored
      pub root-done : (a : A) → r ≡ Ok a → IsCleared (work_folder root) new → IsDone start root (work_folder root) s v fails p.report new
      root-done a ok cleared = record { final_is = root-final a ok cleared; stored = cleared.stored (ran.came.tells ∙ tells) }

      -- its calls lead the core that the tree showed to one core alone
      pub root-leads : after c Settle ≡ c → length c.states ≤ 2 ^ 32 → LeadsTo (work_folder root) c old new.past r
      root-leads calm few =
          let went = (ran.came.goes tells).ran in
          leads (work_folder root) c ran.last old mid.past new.past r few (begun-stays (work_folder root) c old mid.past calm (begun.settled_first settled looks)) went
          (closed-by r went.last ran.last went.ends ran.closed)

      -- and it settles the tree once for each round of jobs, and four times beside
      pub root-settles : IsJudge v → (in_flight : ℕ) → n ≤ rounds_of (length p.jobs) in_flight + 3 → SettlesFew start root s v fails in_flight old new.past
      root-settles judge in_flight le = record {
        few = λ q other is.
            subst (λ (jobs : List JobLine). settles_of new.past ≤ settles_of old + (rounds_of (length jobs) in_flight + 4))
            (same-jobs start root (work_folder root) s v fails p q made other judge planned is).0
            (settles-by (settles_of new.past) (settles_of mid.past) (settles_of old) n (rounds_of (length p.jobs) in_flight) (ran.came.spares.most tells)
            (settled-once old first_ mid.past settled looks) le);
        none = λ never. absurd (never p made planned);
      }

    -- what a plan's run wants of a journal: its maker, its text and its lists
    pub root-run : (p : PlanData) (made : List (List Node)) → IsRootPlan start root s v fails p made
        → IsRun (wanted p made) (plan_view root p.jobs) (plan_makes p.jobs v) (plan_node p) (end_nodes (lists_of p) (finished_text p))
    root-run p made planned = wanted_run start root (work_folder root) s v fails p made planned
