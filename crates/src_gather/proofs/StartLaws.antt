-- A whole start of a gather that is underway, on each of the three ways in: at every moment of it a stop leaves the gather partway, at `Ok` it
-- is done, and no text of its work folder and no source ends it.
use Rattle.std.proofs.Common.{◌≡◌, ℕ, ◌+◌, ◌≤◌, Bool, true, false, List, length, refl, sym, ap, subst, ◌∙◌, arith, Result, Ok, Err}
use Rattle.std.specs.Prelude.{Option, Some, IfErr, IfOk, IsTrue, OnOk, ⊤}
use Rattle.std.proofs.lemmas.List.{length-map}
use Rattle.file_tree.specs.declared.call.Call.TheVariants as call
use Rattle.file_tree.specs.declared.call.Effect.TheVariants as effect
use Rattle.file_tree.specs.Images.{Images, state_of}
use Rattle.file_tree.specs.Moments.{LooksOnly}
use Rattle.file_tree.specs.Seen.{Past, Seen, adds, map_now, now_of}
use Rattle.file_tree.specs.Trees.{TreeMap, is_below, keys_below}
use Rattle.file_tree.proofs.ImageLaws.{image_now}
use Rattle.journal_core.specs.Marks.{is_earlier}
use Rattle.journal_core.specs.Names.{final, plan}
use Rattle.journal_core.specs.Starts.{shown_core, shown_states}
use Rattle.journal_core.specs.Table.{CoreState, new_core, resumed_core}
use Rattle.work_texts.specs.declared.journal_err.JournalErr.{JournalErr}
use Rattle.work_texts.specs.declared.journal_err.JournalErr.TheVariants as journal
use Rattle.work_texts.specs.declared.plan.PlanData.{PlanData}
use Rattle.work_texts.proofs.SizeLaws.{no_longer}
use Rattle.work_journal.specs.declared.opening.Opened.{Opened}
use Rattle.work_journal.specs.declared.opening.Opened.TheVariants as opened
use Rattle.work_journal.specs.Blames.{is_mild_run}
use Rattle.work_journal.specs.Clearing.{IsCleared}
use Rattle.work_journal.specs.Ending.{text_file}
use Rattle.work_journal.specs.Finishing.{FinishRan}
use Rattle.work_journal.specs.Keeps.{Keeps}
use Rattle.work_journal.specs.Rounds.{rounds_of}
use Rattle.work_journal.specs.Runs.{IsGiven}
use Rattle.work_journal.specs.Spares.{InWork, IsHit}
use Rattle.work_journal.specs.Wanted.{IsPartway, Wanted}
use Rattle.work_journal.specs.Work.{has_path, presence, work_path}
use Rattle.root_paths.specs.Walks.{AreWalked}
use Rattle.root_run.specs.Begun.{Begun}
use Rattle.root_run.specs.Begun.{Begun as begun}
use Rattle.root_run.specs.Cores.{is_old_end}
use Rattle.root_run.specs.Starts.{ClearRan, IsEndRun, SettledFirst, core_from}
use Rattle.root_run.proofs.BegunLaws.{begun_leaves, settled_stored}
use Rattle.root_run.proofs.EnteredLaws.{end-wanted, finished-opened, none-opened, plan-opened}
use Rattle.root_run.proofs.FirstLaws.{looked-first, maps-same, now-tells}
use Rattle.root_run.proofs.JournaledLaws.{at-ok}
use Rattle.root_run.proofs.KeysLaws.{in-root-below, keys-have}
use Rattle.root_run.proofs.KeysLaws.{work-below as name-below}
use Rattle.root_run.proofs.MildLaws.{IsTold, told-mild}
use Rattle.root_run.proofs.OldLaws.{HasTexts, marked-old}
use Rattle.root_run.proofs.StartLaws.{HasNames, settled-partway, start-leaves, way-finished, way-fresh, way-resumed, way-unstarted}
use Rattle.root_run.proofs.TextLaws.{finished-own, resumed-own}
use Rattle.root_run.proofs.WaysLaws.{over_core, run-ended, shown_new, shown_over, shown_resumed}
use Rattle.src_gather.specs.declared.gather_err.GatherErr.{GatherErr}
use Rattle.src_gather.specs.declared.gather_err.GatherErr.TheVariants as err
use Rattle.src_gather.specs.Asked.{IsAsked}
use Rattle.src_gather.specs.Errors.{is_mild, journal_ends}
use Rattle.src_gather.specs.Gathering.{IsGatherPlan, gather_key}
use Rattle.src_gather.specs.GatherEnds.{GatherOpens, OrStopped, PlanEnds}
use Rattle.src_gather.specs.GatherEnds.{OrStopped as or_stopped, RootEnds as root_end}
use Rattle.src_gather.specs.Listed.{copy_folder}
use Rattle.src_gather.specs.Makers.{copy_view, gather_folder, one_step}
use Rattle.src_gather.specs.Partways.{IsDone, IsPartwayGather, IsUnderway, StaysPartway}
use Rattle.src_gather.specs.Starts.{ClearEnded, CopyRan, CopyWent, EarlyEnds, HasOpened, IsCopyRun, OpenedWent, StartRan, copy_steps, report_of}
use Rattle.src_gather.specs.Starts.{ClearEnded as over, CopyWent as went, EarlyEnds as early, OpenedWent as way, StartRan as ran}
use Rattle.src_gather.specs.Wholes.{IsClean, IsGatherWanted, IsPlanned, wanted_of}
use Rattle.src_gather.proofs.BeforeLaws.{plan-before}
use Rattle.src_gather.proofs.EndsLaws.{of_journal, plan-plain}
use Rattle.src_gather.proofs.FitLaws.{plan-fits}
use Rattle.src_gather.proofs.WantedLaws.{plan-have, plan-planned, wanted-given, wanted-run}

-- an end that is no journal's is mild
plain-mild : (e : GatherErr) → of_journal e ≡ false → IsTrue (is_mild e)
plain-mild (err.Absent p) h = refl
plain-mild err.Entries h = refl
plain-mild (err.PathTooLong p) h = refl
plain-mild (err.FileTooLarge p size) h = refl
plain-mild err.PlanTooLarge h = refl
plain-mild (err.Taken p) h = refl
plain-mild (err.Journal e) h = cc
plain-mild err.Tree h = cc
plain-mild err.NoMemory h = cc

rounds-same : (p : PlanData) (in_flight : ℕ) → rounds_of (length (copy_steps p)) in_flight + 3 ≤ rounds_of (length p.jobs) in_flight + 3
rounds-same p in_flight = subst (λ (n : ℕ). rounds_of n in_flight + 3 ≤ rounds_of (length p.jobs) in_flight + 3) (sym (length-map p.jobs one_step)) (omega arith)

pub folder-below : (root : List ℕ) → is_below root (gather_folder root) ≡ true
unfolding gather_folder
folder-below root = in-root-below root _

gather-texts : (start : TreeMap) (root dest : List ℕ) (p : PlanData) (sources : List (List ℕ)) → HasTexts (wanted_of start root dest p sources) p
gather-texts start root dest p sources = record { plan_is = refl; plan_old = refl; end_is = refl; end_old = refl }

gather-names : (root : List ℕ) (t : TreeMap) (paths : List (List ℕ)) → AreWalked (Some t) root paths → HasNames (gather_folder root) t paths
gather-names root t paths walked = subst (HasNames (gather_folder root) t) (sym (walked.all.are t refl))
    (record { named = λ n. keys-have t root (work_path (gather_folder root) n) (name-below root (gather_folder root) n (folder-below root)) })

module _ (start : TreeMap) (root from dest : List ℕ) (asked : IsAsked root from dest) (clean : IsClean start root) where
  abbrev May : Wanted → Type 0
  May w = IsGatherWanted start root from dest w

  abbrev wanted : PlanData → List (List ℕ) → Wanted
  wanted p sources = wanted_of start root dest p sources

  may-fits : (w : Wanted) → May w → IsGiven w (gather_folder root)
  may-fits w is = subst (λ (x : Wanted). IsGiven x (gather_folder root)) (sym is.is) (wanted-given start root from dest asked is.plan is.sources is.planned clean)

  may-starts : (w : Wanted) → May w → w.start ≡ start
  may-starts w is = ap (λ (x : Wanted). x.start) is.is

  may-old : (w : Wanted) → May w → (t : TreeMap) (p : IsPartway w t) → is_earlier (p.marking.final 3) ≡ is_old_end t (gather_folder root)
  may-old w is =
      subst (λ (x : Wanted). (t : TreeMap) (p : IsPartway x t) → is_earlier (p.marking.final 3) ≡ is_old_end t (gather_folder root)) (sym is.is)
      (marked-old (wanted is.plan is.sources) is.plan (gather-texts start root dest is.plan is.sources))

  may-told : (w : Wanted) → May w → IsTold (gather_folder root) (gather_key from dest) w
  may-told w is = record {
    plan_of = is.plan;
    texts = subst (λ (x : Wanted). HasTexts x is.plan) (sym is.is) (gather-texts start root dest is.plan is.sources);
    work_is = ap (λ (x : Wanted). x.work) is.is;
    fits = plan-fits (Some start) root from dest (keys_below start root) is.plan asked is.planned.plan_is;
    key_is = ap (λ (x : PlanData). x.key) is.planned.plan_is.is;
    within = is.planned.plan_is.within;
  }

  by-plan : (p : PlanData) (sources : List (List ℕ)) → IsPlanned start root from dest p sources → May (wanted p sources)
  by-plan p sources planned = record { plan = p; sources = sources; planned = planned; is = refl }

  -- ### What a start finds

  pub record FoundGather (core : Wanted → CoreState) (mid : Seen) : Type 0 where
    pub p : PlanData
    pub sources : List (List ℕ)
    pub planned : IsPlanned start root from dest p sources
    pub partway : IsPartway (wanted p sources) (map_now mid.past)
    pub keeps : Keeps (wanted p sources) (core (wanted p sources)) (state_of mid.past)

  found-by : (core : Wanted → CoreState) (mid : Seen) (w : Wanted) (is : May w) → IsPartway w (map_now mid.past) → Keeps w (core w) (state_of mid.past) → FoundGather core mid
  found-by core mid w is partway keeps = record {
    p = is.plan;
    sources = is.sources;
    planned = is.planned;
    partway = subst (λ (x : Wanted). IsPartway x (map_now mid.past)) is.is partway;
    keeps = subst (λ (x : Wanted). Keeps x (core x) (state_of mid.past)) is.is keeps;
  }

  module _ (old first_ : Past) (mid : Seen) (paths : List (List ℕ)) (images : Images (IsPartwayGather start root from dest) (state_of old))
      (settled : first_ ≡ adds old call.Settle effect.Settled) (looks : LooksOnly first_ mid.past) (walked : AreWalked (Some (map_now mid.past)) root paths) where
    partway-now : IsPartwayGather start root from dest (map_now mid.past)
    partway-now = settled-partway start (gather_folder root) May clean.none_below may-fits may-starts old first_ mid.past images settled looks

    finished-found : has_path paths (work_path (gather_folder root) (final 3)) ≡ true → FoundGather (λ w. over_core (is_old_end (map_now mid.past) (gather_folder root))) mid
    finished-found has =
        let earlier : Bool = is_old_end (map_now mid.past) (gather_folder root) in
        let f = way-finished start (gather_folder root) May clean.none_below may-fits may-starts mid paths partway-now (settled_stored old first_ mid.past settled looks).1
        (gather-names root (map_now mid.past) paths walked) earlier (λ w is p. may-old w is (map_now mid.past) p) has in
        found-by (λ w. over_core earlier) mid f.w f.is f.partway f.keeps

    resumed-found : has_path paths (work_path (gather_folder root) (final 3)) ≡ false → has_path paths (work_path (gather_folder root) plan) ≡ true
        → FoundGather (λ w. resumed_core w.steps (shown_states w.steps (presence false (gather_folder root) paths))) mid
    resumed-found none has =
        let f = way-resumed start (gather_folder root) May clean.none_below may-fits may-starts mid paths partway-now (settled_stored old first_ mid.past settled looks).1
        (gather-names root (map_now mid.past) paths walked) none has in
        found-by (λ w. resumed_core w.steps (shown_states w.steps (presence false (gather_folder root) paths))) mid f.w f.is f.partway f.keeps

    -- neither: a plan that is made now is one of the tree before, and its core agrees with the tree
    fresh-plan : has_path paths (work_path (gather_folder root) (final 3)) ≡ false → has_path paths (work_path (gather_folder root) plan) ≡ false
        → (p : PlanData) → IsGatherPlan (Some (map_now mid.past)) root from dest paths p → IsGatherPlan (Some start) root from dest (keys_below start root) p
    fresh-plan none other p is =
        plan-before start (map_now mid.past) root from dest asked clean
        (way-unstarted start (gather_folder root) May clean.none_below may-fits may-starts mid paths partway-now (settled_stored old first_ mid.past settled looks).1
        (gather-names root (map_now mid.past) paths walked) none other) p
        (subst (λ (ps : List (List ℕ)). IsGatherPlan (Some (map_now mid.past)) root from dest ps p) (walked.all.are (map_now mid.past) refl) is)

    fresh-keeps : has_path paths (work_path (gather_folder root) (final 3)) ≡ false → has_path paths (work_path (gather_folder root) plan) ≡ false
        → (p : PlanData) (sources : List (List ℕ)) → IsPlanned start root from dest p sources → Keeps (wanted p sources) (new_core (wanted p sources).steps) (state_of mid.past)
    fresh-keeps none other p sources planned =
        way-fresh start (gather_folder root) May clean.none_below may-fits may-starts mid paths partway-now (settled_stored old first_ mid.past settled looks).1
        (gather-names root (map_now mid.past) paths walked) (wanted p sources) (by-plan p sources planned) none other

  -- ### A start by a journal

  -- a journal went on from a tree that had been settled and looked at, by a plan of the tree before, from the core that the tree shows
  pub record Journaled (in_flight : ℕ) (old new : Seen) (result : Result (List ℕ) GatherErr) : Type 1 where
    pub p : PlanData
    pub sources : List (List ℕ)
    pub planned : IsPlanned start root from dest p sources
    pub first_ : Past
    pub mid : Seen
    pub paths : List (List ℕ)
    pub settled : first_ ≡ adds old.past call.Settle effect.Settled
    pub looks : LooksOnly first_ mid.past
    pub walked : AreWalked (Some (map_now mid.past)) root paths
    pub tells : mid.tells ≡ true
    pub runs : Wanted → Type 0
    pub run : runs (wanted p sources)
    pub settles : ℕ
    pub few : settles ≤ rounds_of (length p.jobs) in_flight + 3
    pub hits : List ℕ → Type 0
    pub core : CoreState
    pub shown : shown_core (copy_steps p) (presence (is_old_end (map_now mid.past) (gather_folder root)) (gather_folder root) paths) ≡ core
    pub keeps : Keeps (wanted p sources) core (state_of mid.past)
    pub ended : Result (Unit {0}) JournalErr
    pub ran : FinishRan hits settles (gather_folder root) runs core mid new ended
    pub cleared : OnOk ended (IsCleared (gather_folder root) new)
    pub mild : IfErr ended (λ e. IsTrue (is_mild_run e))
    pub answer : result ≡ report_of ended p.report

  -- nothing was changed, or such a journal went on
  pub data Entered (in_flight : ℕ) (old new : Seen) (result : Result (List ℕ) GatherErr) : Type 1 where
    unbegun : Begun old.past new.past → (e : GatherErr) → IsTrue (is_mild e) → result ≡ Err e → Entered in_flight old new result
    by_journal : Journaled in_flight old new result → Entered in_flight old new result

  ended-ok : (r : Result (Unit {0}) JournalErr) (report : List ℕ) (D : List ℕ → Type 0) → ((a : Unit {0}) → r ≡ Ok a → D report) → IfOk (report_of r report) D
  ended-ok (Ok a) report D f = f a refl
  ended-ok (Err e) report D f = tt

  mild-end : (e : JournalErr) → IsTrue (is_mild_run e) → IsTrue (is_mild (journal_ends e))
  mild-end (journal.Changed path was digest) m = cc
  mild-end (journal.Refused path r) m = cc
  mild-end journal.Tree m = refl
  mild-end journal.NoMemory m = refl
  mild-end (journal.PlanText file at) m = cc
  mild-end (journal.OtherRun field kept given) m = cc

  ended-mild : (r : Result (Unit {0}) JournalErr) (report : List ℕ) → IfErr r (λ e. IsTrue (is_mild_run e)) → IfErr (report_of r report) (λ e. IsTrue (is_mild e))
  ended-mild (Ok a) report h = tt
  ended-mild (Err e) report h = mild-end e h

  no-ok : (e : GatherErr) (result : Result (List ℕ) GatherErr) (P : List ℕ → Type 0) → result ≡ Err e → IfOk result P
  no-ok e result P is = subst (λ (r : Result (List ℕ) GatherErr). IfOk r P) (sym is) tt

  module _ (in_flight : ℕ) (old new : Seen) (u : IsUnderway start root from dest old) (result : Result (List ℕ) GatherErr) where
    -- at every moment a stop leaves the gather partway
    pub entered-leaves : Entered in_flight old new result → StaysPartway start root from dest old new
    entered-leaves (unbegun b e mild is) = begun_leaves (IsPartwayGather start root from dest) old.past new.past u.partway b
    entered-leaves (by_journal g) =
        start-leaves start (gather_folder root) May clean.none_below may-fits may-starts g.runs (wanted g.p g.sources) g.settles g.hits g.core old.past g.first_ g.mid new g.ended u.partway
        g.settled g.looks (by-plan g.p g.sources g.planned) g.run g.tells g.keeps g.ran

    done-by : (g : Journaled in_flight old new result) (a : Unit {0}) → g.ended ≡ Ok a → IsDone start root from dest g.p.report new
    done-by g a ok =
        let cleared : IsCleared (gather_folder root) new = at-ok g.ended a (IsCleared (gather_folder root) new) ok g.cleared in
        record {
          final_is = record {
            plan = g.p;
            sources = g.sources;
            planned = g.planned;
            reports = refl;
            ended = run-ended (wanted g.p g.sources) g.runs g.settles g.hits g.core g.mid new g.ended a ok g.run (wanted-given start root from dest asked g.p g.sources g.planned clean) g.tells
                g.keeps g.ran cleared;
          };
          stored = cleared.stored (g.ran.came.tells ∙ g.tells);
        }

    -- at `Ok` it is done
    pub entered-done : Entered in_flight old new result → IfOk result (λ report. IsDone start root from dest report new)
    entered-done (unbegun b e mild is) = no-ok e result (λ report. IsDone start root from dest report new) is
    entered-done (by_journal g) =
        subst (λ (r : Result (List ℕ) GatherErr). IfOk r (λ report. IsDone start root from dest report new)) (sym g.answer)
        (ended-ok g.ended g.p.report (λ report. IsDone start root from dest report new) (λ a ok. done-by g a ok))

    -- and no text and no source ends it
    pub entered-mild : Entered in_flight old new result → IfErr result (λ e. IsTrue (is_mild e))
    entered-mild (unbegun b e mild is) = subst (λ (r : Result (List ℕ) GatherErr). IfErr r (λ x. IsTrue (is_mild x))) (sym is) mild
    entered-mild (by_journal g) = subst (λ (r : Result (List ℕ) GatherErr). IfErr r (λ x. IsTrue (is_mild x))) (sym g.answer) (ended-mild g.ended g.p.report g.mild)

  -- ### From what a start did

  module _ (in_flight : ℕ) (old new : Seen) (u : IsUnderway start root from dest old) where
    module _ (mid : Seen) (paths : List (List ℕ)) (f : SettledFirst old mid) (walked : AreWalked (now_of old) root paths) where
      mid-tells : mid.tells ≡ true
      mid-tells = f.looked.tells ∙ f.tells ∙ u.tells

      mid-now : now_of mid ≡ now_of old
      mid-now = f.looked.now ∙ f.now

      mid-looks : LooksOnly f.mid.past mid.past
      mid-looks = f.looked.looks (f.tells ∙ u.tells)

      mid-walked : AreWalked (Some (map_now mid.past)) root paths
      mid-walked = subst (λ (o : Option TreeMap). AreWalked o root paths) (sym mid-now ∙ now-tells mid mid-tells) walked

      -- looks change nothing
      mid-begun : Begun old.past mid.past
      mid-begun = begun.settled_first {mid = f.mid.past} (f.settled u.tells) mid-looks

      module _ (at : Seen) (at_tells : at.tells ≡ old.tells) (at_now : now_of at ≡ now_of old) where
        at-same : map_now mid.past ≡ map_now at.past
        at-same = maps-same mid at mid-tells (at_tells ∙ u.tells) (mid-now ∙ sym at_now)

        -- a gather that is over
        over-went : (report : List ℕ) (earlier : Bool) (result : Result (List ℕ) GatherErr) → GatherOpens root from dest paths at (Ok (opened.Finished report earlier))
            → (runs : Wanted → Type 0) → ((w : Wanted) → IsEndRun (gather_key from dest) report w → runs w) → (n : ℕ) → ((m : ℕ) → n ≤ m + 3) → (r : Result (Unit {0}) JournalErr)
            → ClearRan (gather_folder root) runs n (over_core earlier) mid new r → result ≡ report_of r report → Journaled in_flight old new result
        over-went report earlier result o runs run n few r c answer =
            let x = finished-opened (gather_folder root) paths (gather_key from dest) at report earlier o in
            let g = finished-found old.past f.mid.past mid paths u.partway (f.settled u.tells) mid-looks mid-walked x.there in
            let own = finished-own (wanted g.p g.sources) g.p (gather-texts start root dest g.p g.sources) at (at_tells ∙ u.tells)
            (plan-fits (Some start) root from dest (keys_below start root) g.p asked g.planned.plan_is) (subst (IsPartway (wanted g.p g.sources)) at-same g.partway) (gather_key from dest) report earlier x.kept in
            let is_old : is_old_end (map_now mid.past) (gather_folder root) ≡ earlier = ap (λ (t : TreeMap). is_old_end t (gather_folder root)) at-same ∙ sym own.old_is in
            record {
              p = g.p;
              sources = g.sources;
              planned = g.planned;
              first_ = f.mid.past;
              mid = mid;
              paths = paths;
              settled = f.settled u.tells;
              looks = mid-looks;
              walked = mid-walked;
              tells = mid-tells;
              runs = runs;
              run = run (wanted g.p g.sources) (ap (λ (t : List ℕ). text_file t) (end-wanted g.p (gather_key from dest) report own.key_is own.report_is));
              settles = n;
              few = few (rounds_of (length g.p.jobs) in_flight);
              hits = InWork (gather_folder root);
              core = over_core earlier;
              shown = ap (λ (b : Bool). shown_core (copy_steps g.p) (presence b (gather_folder root) paths)) is_old ∙ shown_over earlier (copy_steps g.p) (gather_folder root) paths x.there;
              keeps = subst (λ (b : Bool). Keeps (wanted g.p g.sources) (over_core b) (state_of mid.past)) is_old g.keeps;
              ended = r;
              ran = c.ran;
              cleared = c.cleared;
              mild = c.mild;
              answer = answer ∙ ap (report_of r) own.report_is;
            }

        finished-went : (report : List ℕ) (earlier : Bool) (result : Result (List ℕ) GatherErr) → GatherOpens root from dest paths at (Ok (opened.Finished report earlier))
            → ClearEnded (gather_folder root) (gather_key from dest) report mid new result earlier → Entered in_flight old new result
        finished-went report earlier result o (over.no_text same is) = unbegun (subst (λ (x : Seen). Begun old.past x.past) (sym same) mid-begun) err.NoMemory refl is
        finished-went report earlier result o (over.renewed r c is) = by_journal (over-went report true result o (IsEndRun (gather_key from dest) report) (λ w run. run) 2 (λ m. omega arith) r c is)
        finished-went report earlier result o (over.cleared r c is) = by_journal (over-went report false result o (λ w. ⊤) (λ w run. tt) 1 (λ m. omega arith) r c is)

        -- a plan that was there
        resumed-went : (p : PlanData) (result : Result (List ℕ) GatherErr) → GatherOpens root from dest paths at (Ok (opened.Resumed p)) → (r : Result (Unit {0}) JournalErr)
            → CopyRan (copy_folder root dest) from (gather_folder root) p in_flight (core_from false (gather_folder root) paths (copy_steps p)) mid new r → result ≡ report_of r p.report
            → Journaled in_flight old new result
        resumed-went p result o r x answer =
            let q = plan-opened (gather_folder root) paths (gather_key from dest) at p o in
            let g = resumed-found old.past f.mid.past mid paths u.partway (f.settled u.tells) mid-looks mid-walked q.none q.there in
            let own = resumed-own (wanted g.p g.sources) g.p (gather-texts start root dest g.p g.sources) at (at_tells ∙ u.tells)
            (plan-fits (Some start) root from dest (keys_below start root) g.p asked g.planned.plan_is) (subst (IsPartway (wanted g.p g.sources)) at-same g.partway) (gather_key from dest) p q.kept in
            let planned : IsPlanned start root from dest p g.sources = subst (λ (y : PlanData). IsPlanned start root from dest y g.sources) (sym own.0) g.planned in
            let keeps : Keeps (wanted p g.sources) (core_from false (gather_folder root) paths (copy_steps p)) (state_of mid.past) =
            subst (λ (y : PlanData). Keeps (wanted y g.sources) (core_from false (gather_folder root) paths (copy_steps y)) (state_of mid.past)) (sym own.0) g.keeps in
            let run : IsCopyRun (copy_folder root dest) from p (wanted p g.sources) = wanted-run start root from dest asked p g.sources planned in
            record {
              p = p;
              sources = g.sources;
              planned = planned;
              first_ = f.mid.past;
              mid = mid;
              paths = paths;
              settled = f.settled u.tells;
              looks = mid-looks;
              walked = mid-walked;
              tells = mid-tells;
              runs = IsCopyRun (copy_folder root dest) from p;
              run = run;
              settles = rounds_of (length (copy_view (copy_folder root dest) from p.jobs).steps) in_flight + 3;
              few = rounds-same p in_flight;
              hits = IsHit (gather_folder root) (copy_view (copy_folder root dest) from p.jobs) (λ j. ⊤);
              core = core_from false (gather_folder root) paths (copy_steps p);
              shown = shown_resumed (is_old_end (map_now mid.past) (gather_folder root)) (copy_steps p) (gather_folder root) paths q.none q.there;
              keeps = keeps;
              ended = r;
              ran = x.ran;
              cleared = x.cleared;
              mild = x.mild (wanted p g.sources) (wanted-given start root from dest asked p g.sources planned clean) run mid-tells keeps;
              answer = answer;
            }

      -- a plan that was just made
      planned-went : (at : Seen) (p : PlanData) (result : Result (List ℕ) GatherErr) → GatherOpens root from dest paths at (Ok opened.Empty) → IsGatherPlan (now_of old) root from dest paths p
          → (r : Result (Unit {0}) JournalErr) → CopyRan (copy_folder root dest) from (gather_folder root) p in_flight (core_from true (gather_folder root) paths (copy_steps p)) mid new r
          → result ≡ report_of r p.report → Journaled in_flight old new result
      planned-went at p result o is r x answer =
          let q = none-opened (gather_folder root) paths (gather_key from dest) at o in
          let now_plan : IsGatherPlan (Some (map_now mid.past)) root from dest paths p =
          subst (λ (m : Option TreeMap). IsGatherPlan m root from dest paths p) (sym mid-now ∙ now-tells mid mid-tells) is in
          let before = fresh-plan old.past f.mid.past mid paths u.partway (f.settled u.tells) mid-looks mid-walked q.none q.other p now_plan in
          let planned = plan-planned start root from dest p before in
          let sources : List (List ℕ) = (plan-have start root from dest (keys_below start root) p before).sources in
          let keeps = fresh-keeps old.past f.mid.past mid paths u.partway (f.settled u.tells) mid-looks mid-walked q.none q.other p sources planned in
          let run : IsCopyRun (copy_folder root dest) from p (wanted p sources) = wanted-run start root from dest asked p sources planned in
          record {
            p = p;
            sources = sources;
            planned = planned;
            first_ = f.mid.past;
            mid = mid;
            paths = paths;
            settled = f.settled u.tells;
            looks = mid-looks;
            walked = mid-walked;
            tells = mid-tells;
            runs = IsCopyRun (copy_folder root dest) from p;
            run = run;
            settles = rounds_of (length (copy_view (copy_folder root dest) from p.jobs).steps) in_flight + 3;
            few = rounds-same p in_flight;
            hits = IsHit (gather_folder root) (copy_view (copy_folder root dest) from p.jobs) (λ j. ⊤);
            core = new_core (copy_steps p);
            shown = shown_new (is_old_end (map_now mid.past) (gather_folder root)) (copy_steps p) (gather_folder root) paths q.none q.other;
            keeps = keeps;
            ended = r;
            ran = x.ran;
            cleared = x.cleared;
            mild = x.mild (wanted p sources) (wanted-given start root from dest asked p sources planned clean) run mid-tells keeps;
            answer = answer;
          }

      begun-at : new ≡ mid → Begun old.past new.past
      begun-at same = subst (λ (x : Seen). Begun old.past x.past) (sym same) mid-begun

      resumed-entered : (at : Seen) → at.tells ≡ old.tells → now_of at ≡ now_of old → (p : PlanData) (result : Result (List ℕ) GatherErr) → GatherOpens root from dest paths at (Ok (opened.Resumed p))
          → CopyWent (copy_folder root dest) from (gather_folder root) p in_flight (core_from false (gather_folder root) paths (copy_steps p)) mid new result → Entered in_flight old new result
      resumed-entered at tells now p result o (went.no_start same is) = unbegun (begun-at same) err.NoMemory refl is
      resumed-entered at tells now p result o (went.started r x is) = by_journal (resumed-went at tells now p result o r x is)

      planned-entered : (at : Seen) (p : PlanData) (result : Result (List ℕ) GatherErr) → GatherOpens root from dest paths at (Ok opened.Empty) → IsGatherPlan (now_of old) root from dest paths p
          → CopyWent (copy_folder root dest) from (gather_folder root) p in_flight (core_from true (gather_folder root) paths (copy_steps p)) mid new result → Entered in_flight old new result
      planned-entered at p result o is (went.no_start same e) = unbegun (begun-at same) err.NoMemory refl e
      planned-entered at p result o is (went.started r x e) = by_journal (planned-went at p result o is r x e)

    unplanned-mild : (from_ to : Seen) (paths : List (List ℕ)) (e : GatherErr) → OrStopped (PlanEnds (now_of from_) root from dest paths) from_ to e → IsTrue (is_mild e)
    unplanned-mild from_ to paths e (or_stopped.told ended) = plain-mild e (plan-plain (now_of from_) root from dest paths e ended)
    unplanned-mild from_ to paths e (or_stopped.failed rose) = refl
    unplanned-mild from_ to paths e or_stopped.no_memory = refl

    opened-entered : (mid : Seen) (paths : List (List ℕ)) (o : Opened) (result : Result (List ℕ) GatherErr) → HasOpened root from dest paths o old mid
        → OpenedWent root from dest (gather_folder root) in_flight paths mid new result o → Entered in_flight old new result
    opened-entered mid paths o result h (way.finished {report} {earlier} c) = finished-went mid paths h.first h.walked h.at h.at_tells h.at_now report earlier result h.opens c
    opened-entered mid paths o result h (way.resumed {p} w) = resumed-entered mid paths h.first h.walked h.at h.at_tells h.at_now p result h.opens w
    opened-entered mid paths o result h (way.unplanned e looked ends is) =
        unbegun (mid-begun new paths (looked-first old mid new h.first looked) h.walked) e (unplanned-mild mid new paths e ends) is
    opened-entered mid paths o result h (way.planned p more looked is w) =
        planned-entered more paths (looked-first old mid more h.first looked) h.walked h.at p result h.opens
        (subst (λ (m : Option TreeMap). IsGatherPlan m root from dest paths p) (mid-now mid paths h.first h.walked) is) w

    -- no text of a tree that is partway is bad, or of another run
    early-mild : (e : GatherErr) → EarlyEnds root from dest old new e → IsTrue (is_mild e)
    early-mild e (early.failed rose) = refl
    early-mild e early.no_memory = refl
    early-mild e (early.walking at now later (root_end.absent none)) = refl
    early-mild e (early.walking at now later (root_end.many m)) = refl
    early-mild e (early.walking at now later (root_end.failed rose)) = refl
    early-mild e (early.walking at now later root_end.no_memory) = refl
    early-mild e (early.opening {e = d} at paths tells now walked o rose) =
        let told : at.tells ≡ true = tells ∙ u.tells in
        let same : map_now old.past ≡ map_now at.past = maps-same old at u.tells told (sym now) in
        let partway : IsPartwayGather start root from dest (map_now at.past) = subst (IsPartwayGather start root from dest) same (u.partway.each (map_now old.past) (image_now old.past)) in
        let here : AreWalked (Some (map_now at.past)) root paths = subst (λ (m : Option TreeMap). AreWalked m root paths) (sym now ∙ now-tells at told) walked in
        mild-end d (told-mild start (gather_folder root) (gather_key from dest) May clean.none_below may-told no_longer at paths told partway (gather-names root (map_now at.past) paths here) d o)

    pub start-entered : (result : Result (List ℕ) GatherErr) → StartRan root from dest in_flight old new result → Entered in_flight old new result
    start-entered result (ran.early e a ends is) = unbegun (a.begun u.tells) e (early-mild e ends) is
    start-entered result (ran.entered paths o mid h w) = opened-entered mid paths o result h w

    -- ### The clauses

    pub start-stays : (result : Result (List ℕ) GatherErr) → StartRan root from dest in_flight old new result → StaysPartway start root from dest old new
    start-stays result r = entered-leaves in_flight old new u result (start-entered result r)

    pub start-done : (result : Result (List ℕ) GatherErr) → StartRan root from dest in_flight old new result → IfOk result (λ report. IsDone start root from dest report new)
    start-done result r = entered-done in_flight old new u result (start-entered result r)

    pub start-mild : (result : Result (List ℕ) GatherErr) → StartRan root from dest in_flight old new result → IfErr result (λ e. IsTrue (is_mild e))
    start-mild result r = entered-mild in_flight old new u result (start-entered result r)
