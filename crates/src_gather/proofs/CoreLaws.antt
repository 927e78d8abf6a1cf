-- The calls of a gather lead the core that the tree shows to one core alone: the first settle and looks leave it as it is, and then come the
-- journal's own steps. It settles the tree once for each round of copies, and four times beside.
use Rattle.std.proofs.Common.{◌≡◌, ℕ, ◌+◌, ◌≤◌, ◌^◌, List, length, map, refl, sym, ap, subst, ◌∙◌, lit≤, Result, Ok, Err}
use Rattle.std.specs.Prelude.{OnOk}
use Rattle.file_tree.specs.Seen.{Happened, Seen, map_now, settles_of}
use Rattle.file_tree.specs.Trees.{TreeMap, keys_below}
use Rattle.journal_core.specs.declared.event.Event.TheVariants.{Settle}
use Rattle.journal_core.specs.declared.event.Phase.TheVariants.{Closed}
use Rattle.journal_core.specs.Starts.{shown_core}
use Rattle.journal_core.specs.Table.{CoreState, after}
use Rattle.work_texts.specs.declared.journal_err.JournalErr.{JournalErr}
use Rattle.work_texts.specs.declared.plan.PlanData.{PlanData}
use Rattle.work_journal.specs.Rounds.{rounds_of}
use Rattle.work_journal.specs.Work.{presence}
use Rattle.work_journal.proofs.RunLaws.{run_one}
use Rattle.root_run.specs.Begun.{Begun as begun}
use Rattle.root_run.specs.Cores.{LeadsTo, is_old_end}
use Rattle.root_run.proofs.BegunLaws.{settled_stored}
use Rattle.root_run.proofs.CoreLaws.{Stays, begun-stays, core-calm, leads}
use Rattle.root_run.proofs.JournaledLaws.{shown-few}
use Rattle.root_run.proofs.RootStartLaws.{closed-by, settles-by}
use Rattle.root_run.proofs.RunLaws.{begun-settles, more-settles}
use Rattle.root_run.proofs.SettleLaws.{settled-once}
use Rattle.src_gather.specs.declared.gather_err.GatherErr.{GatherErr}
use Rattle.src_gather.specs.Asked.{IsAsked}
use Rattle.src_gather.specs.Cores.{SettlesFew, ShowsCore}
use Rattle.src_gather.specs.Cores.{ShowsCore as shows}
use Rattle.src_gather.specs.Gathering.{Gathering, plan_of}
use Rattle.src_gather.specs.Makers.{gather_folder}
use Rattle.src_gather.specs.Partways.{IsUnderway}
use Rattle.src_gather.specs.Starts.{StartRan, copy_steps, report_of}
use Rattle.src_gather.specs.Wholes.{IsPlanned}
use Rattle.src_gather.proofs.OneLaws.{gathering-one}
use Rattle.src_gather.proofs.StartLaws.{Entered, Journaled, start-entered}
use Rattle.src_gather.proofs.StartLaws.{Entered as entered}
use Rattle.src_gather.proofs.WantedLaws.{targets-apart}

no-close : (e : GatherErr) (result : Result (List ℕ) GatherErr) (X : Type 0) → result ≡ Err e → OnOk result X
no-close e result X is = subst (λ (r : Result (List ℕ) GatherErr). OnOk r X) (sym is) tt

ended-closed : (r : Result (Unit {0}) JournalErr) (report : List ℕ) (X : Type 0) → OnOk r X → OnOk (report_of r report) X
ended-closed (Ok a) report X h = h
ended-closed (Err e) report X h = tt

-- ### The core that a tree shows

module _ (start : TreeMap) (root from dest : List ℕ) where
  abbrev core_of_plan : PlanData → TreeMap → CoreState
  core_of_plan p t = shown_core (copy_steps p) (presence (is_old_end t (gather_folder root)) (gather_folder root) (keys_below t root))

  -- a tree before a gather has one plan
  plans-one : (p q : PlanData) (sources other : List (List ℕ)) → IsPlanned start root from dest p sources → IsPlanned start root from dest q other → p ≡ q
  plans-one p q sources other a b =
      a.plan_is.is
      ∙ ap (λ (g : Gathering). plan_of from dest g) (gathering-one start root from dest a.plan_is.gathering b.plan_is.gathering a.plan_is.gathers b.plan_is.gathers)
      ∙ sym b.plan_is.is

  -- so all cores that a tree shows are one
  shows-one : (p : PlanData) (sources : List (List ℕ)) (t : TreeMap) (c : CoreState) → IsPlanned start root from dest p sources → ShowsCore start root from dest t c → c ≡ core_of_plan p t
  shows-one p sources t c planned (shows.by_plan {p = q} {sources = other} is partway) = ap (λ (x : PlanData). core_of_plan x t) (plans-one q p other sources is planned)
  shows-one p sources t c planned (shows.by_none u none) = absurd (none p sources planned)

  -- a settle changes nothing of it
  shows-calm : (t : TreeMap) (c : CoreState) → ShowsCore start root from dest t c → after c Settle ≡ c
  shows-calm t c (shows.by_plan {p} {sources} is partway) = core-calm (copy_steps p) (presence (is_old_end t (gather_folder root)) (gather_folder root) (keys_below t root))
  shows-calm t c (shows.by_none u none) = refl

  -- and it has a state for each copy
  shows-few : IsAsked root from dest → (t : TreeMap) (c : CoreState) → ShowsCore start root from dest t c → length c.states ≤ 2 ^ 32
  shows-few asked t c (shows.by_plan {p} {sources} is partway) =
      shown-few (copy_steps p) (presence (is_old_end t (gather_folder root)) (gather_folder root) (keys_below t root)) (targets-apart start root from dest asked p sources is).jobs
  shows-few asked t c (shows.by_none u none) = lit≤ tt

-- ### A start

module _ (start : TreeMap) (root from dest : List ℕ) (asked : IsAsked root from dest) (in_flight : ℕ) (old new : Seen) (u : IsUnderway start root from dest old)
    (result : Result (List ℕ) GatherErr) where
  module _ (g : Journaled start root from dest asked u.clean in_flight old new result) where
    -- the core that the tree showed is the one that the journal went on from
    core-is : (c : CoreState) → ShowsCore start root from dest (map_now old.past) c → c ≡ g.core
    core-is c is =
        shows-one start root from dest g.p g.sources (map_now old.past) c g.planned is
        ∙ ap (λ (t : TreeMap). core_of_plan start root from dest g.p t) (sym (settled_stored old.past g.first_ g.mid.past g.settled g.looks).0)
        ∙ ap (λ (ps : List (List ℕ)). shown_core (copy_steps g.p) (presence (is_old_end (map_now g.mid.past) (gather_folder root)) (gather_folder root) ps))
        (sym (g.walked.all.are (map_now g.mid.past) refl))
        ∙ g.shown

    journal-leads : after g.core Settle ≡ g.core → length g.core.states ≤ 2 ^ 32 → LeadsTo (gather_folder root) g.core old.past new.past g.ended
    journal-leads calm few =
        let went = (g.ran.came.goes g.tells).ran in
        leads (gather_folder root) g.core g.ran.last old.past g.mid.past new.past g.ended few
        (begun-stays (gather_folder root) g.core old.past g.mid.past calm (begun.settled_first g.settled g.looks)) went (closed-by g.ended went.last g.ran.last went.ends g.ran.closed)

    journaled-leads : (c : CoreState) → ShowsCore start root from dest (map_now old.past) c → LeadsTo (gather_folder root) c old.past new.past result
    journaled-leads c is =
        let same : c ≡ g.core = core-is c is in
        let led : LeadsTo (gather_folder root) g.core old.past new.past g.ended =
        journal-leads (subst (λ (x : CoreState). after x Settle ≡ x) same (shows-calm start root from dest (map_now old.past) c is))
        (subst (λ (x : CoreState). length x.states ≤ 2 ^ 32) same (shows-few start root from dest asked (map_now old.past) c is)) in
        subst (λ (x : CoreState). LeadsTo (gather_folder root) x old.past new.past result) (sym same) (record {
          rest = led.rest;
          last = led.last;
          first = led.first;
          log = led.log;
          runs = led.runs;
          only = led.only;
          closed = subst (λ (r : Result (List ℕ) GatherErr). OnOk r (led.last.phase ≡ Closed)) (sym g.answer) (ended-closed g.ended g.p.report (led.last.phase ≡ Closed) led.closed);
        })

    journaled-settles : SettlesFew start root from dest in_flight old.past new.past
    journaled-settles = record {
      few = λ q other is.
          subst (λ (p : PlanData). settles_of new.past ≤ settles_of old.past + (rounds_of (length p.jobs) in_flight + 4))
          (plans-one start root from dest g.p q g.sources other g.planned is)
          (settles-by (settles_of new.past) (settles_of g.mid.past) (settles_of old.past) g.settles (rounds_of (length g.p.jobs) in_flight) (g.ran.came.spares.most g.tells)
          (settled-once old.past g.first_ g.mid.past g.settled g.looks) g.few);
      none = λ never. absurd (never g.p g.sources g.planned);
    }

  stays-leads : (c : CoreState) → length c.states ≤ 2 ^ 32 → Stays (gather_folder root) c old.past new.past → (e : GatherErr) → result ≡ Err e → LeadsTo (gather_folder root) c old.past new.past result
  stays-leads c few st e is = record {
    rest = st.rest;
    last = c;
    first = st.first;
    log = st.log;
    runs = st.runs;
    only = λ d other. run_one (gather_folder root) c d c (map (λ (h : Happened). h.call) st.rest) (map (λ (h : Happened). h.call) st.rest) refl few other st.runs;
    closed = no-close e result (c.phase ≡ Closed) is;
  }

  leads-by : Entered start root from dest asked u.clean in_flight old new result → (c : CoreState) → ShowsCore start root from dest (map_now old.past) c
      → LeadsTo (gather_folder root) c old.past new.past result
  leads-by (entered.unbegun b e mild is) c shown =
      stays-leads c (shows-few start root from dest asked (map_now old.past) c shown)
      (begun-stays (gather_folder root) c old.past new.past (shows-calm start root from dest (map_now old.past) c shown) b) e is
  leads-by (entered.by_journal g) c shown = journaled-leads g c shown

  few-settles : Entered start root from dest asked u.clean in_flight old new result → SettlesFew start root from dest in_flight old.past new.past
  few-settles (entered.unbegun b e mild is) = record {
    few = λ p sources planned. more-settles (settles_of new.past) (settles_of old.past) (rounds_of (length p.jobs) in_flight) (begun-settles old.past new.past b);
    none = λ never. begun-settles old.past new.past b;
  }
  few-settles (entered.by_journal g) = journaled-settles g

  -- ### The clauses

  pub start-leads : StartRan root from dest in_flight old new result → (c : CoreState) → ShowsCore start root from dest (map_now old.past) c → LeadsTo (gather_folder root) c old.past new.past result
  start-leads r c shown = leads-by (start-entered start root from dest asked u.clean in_flight old new u result r) c shown

  pub start-settles : StartRan root from dest in_flight old new result → SettlesFew start root from dest in_flight old.past new.past
  start-settles r = few-settles (start-entered start root from dest asked u.clean in_flight old new u result r)
