-- The clauses of a run over a build root, of what a start did.
use Rattle.std.proofs.Common.{◌≡◌, ℕ, ◌+◌, ◌≤◌, ◌^◌, List, length, map, refl, sym, ap, subst, arith, Result, Ok, Err}
use Rattle.std.specs.Prelude.{IfErr, IfOk, IsTrue, OnOk}
use Rattle.dw_base.specs.Layout.{file_limit}
use Rattle.dw_base.specs.Paths.{IsPathMap}
use Rattle.dw_base.specs.declared.fault.Refusal.{Refusal}
use Rattle.file_tree.specs.declared.call.Effect.TheVariants as effect
use Rattle.file_tree.specs.Causes.{Rose}
use Rattle.file_tree.specs.Images.{LeavesOnly}
use Rattle.file_tree.specs.Seen.{Seen, Past, Happened, map_now, settles_of}
use Rattle.file_tree.specs.Trees.{TreeMap}
use Rattle.file_tree.proofs.ImageLaws.{image_now}
use Rattle.job_types.specs.Settings.{HasKey, Settings, IsWithin}
use Rattle.journal_core.specs.declared.event.Phase.TheVariants.{Closed}
use Rattle.journal_core.specs.Table.{CoreState}
use Rattle.work_journal.specs.Rounds.{rounds_of}
use Rattle.work_journal.proofs.RunLaws.{run_one}
use Rattle.root_plan.specs.Roots.{work_folder}
use Rattle.root_plan.specs.Verdicts.{JudgeView, IsJudge}
use Rattle.root_run.specs.declared.run_err.RunErr.{RunErr}
use Rattle.root_run.specs.Begun.{Begun}
use Rattle.root_run.specs.Begun.{Begun as begun}
use Rattle.root_run.specs.Cores.{ShowsCore, LeadsTo, SettlesFew}
use Rattle.root_run.specs.Dues.{IsUnopposed}
use Rattle.root_run.specs.Finals.{IsDone}
use Rattle.root_run.specs.RunEnds.{RunEnds, run_status}
use Rattle.root_run.specs.RootRuns.{IsPartwayRun}
use Rattle.root_run.specs.Starts.{StartRan}
use Rattle.root_run.specs.Underway.{IsUnderway, is_mild_end}
use Rattle.root_run.proofs.BegunLaws.{begun_leaves}
use Rattle.root_run.proofs.CompleteLaws.{complete}
use Rattle.root_run.proofs.CoreLaws.{Stays, begun-stays, shows-calm}
use Rattle.root_run.proofs.EnteredLaws.{Entered, start-entered}
use Rattle.root_run.proofs.EnteredLaws.{Entered as entered}
use Rattle.root_run.proofs.FirstLaws.{now-tells}
use Rattle.root_run.proofs.JournaledLaws.{journaled-leaves, journaled-done, journaled-leads, journaled-mild, journaled-settles, shows-few}
use Rattle.root_run.proofs.SettleLaws.{settled-by, settled-once}
use Rattle.root_run.proofs.StartEndsLaws.{start-ends}

-- ### A start that changed nothing settles at most once

pub begun-settles : (old new : Past) → Begun old new → settles_of new ≤ settles_of old + 1
begun-settles old new (begun.not_yet e) = let same : settles_of new ≡ settles_of old = ap settles_of e in omega (arith, same)
begun-settles old new (begun.settling_failed e) = let more : settles_of new ≡ settles_of old + 1 = settled-by old new effect.Same e in omega (arith, more)
begun-settles old new (begun.settled_first {mid = m} e l) = let more : settles_of new ≡ settles_of old + 1 = settled-once old m new e l in omega (arith, more)

pub more-settles : (now then_ rounds : ℕ) → now ≤ then_ + 1 → now ≤ then_ + (rounds + 4)
more-settles now then_ rounds le = omega (arith, le)

-- ### The clauses

err-both : (r : Result (List ℕ) RunErr) (P Q R : RunErr → Type 0) → ((e : RunErr) → P e → Q e → R e) → IfErr r P → IfErr r Q → IfErr r R
err-both (Ok a) P Q R f p q = tt
err-both (Err e) P Q R f p q = f e p q

no-ok : (e : RunErr) (result : Result (List ℕ) RunErr) (P : List ℕ → Type 0) → result ≡ Err e → IfOk result P
no-ok e result P is = subst (λ (r : Result (List ℕ) RunErr). IfOk r P) (sym is) tt

no-close : (e : RunErr) (result : Result (List ℕ) RunErr) (X : Type 0) → result ≡ Err e → OnOk result X
no-close e result X is = subst (λ (r : Result (List ℕ) RunErr). OnOk r X) (sym is) tt

module _ (start : TreeMap) (root : List ℕ) (s : Settings) (v : JudgeView) (fails : List ℕ → List ℕ → Refusal → Type 0) (edit_fails : List ℕ → Refusal → Type 0)
    (split_fails : List ℕ → List ℕ → Refusal → Type 0) (judge : IsJudge v) (in_flight : ℕ) (old new : Seen) (u : IsUnderway start root (work_folder root) s v fails old) where
  module _ (maps : IsPathMap s.maps) (within : IsWithin s.max_file) (result : Result (List ℕ) RunErr) where
    leaves-by : Entered start root s v fails edit_fails split_fails judge maps within in_flight old new u result → LeavesOnly (IsPartwayRun start root (work_folder root) s v fails) old.past new.past
    leaves-by (entered.unbegun b e mild is) = begun_leaves (IsPartwayRun start root (work_folder root) s v fails) old.past new.past u.partway b
    leaves-by (entered.by_journal g) = journaled-leaves start root s v fails judge in_flight old new u result g

    done-by : Entered start root s v fails edit_fails split_fails judge maps within in_flight old new u result → IfOk result (λ report. IsDone start root (work_folder root) s v fails report new)
    done-by (entered.unbegun b e mild is) = no-ok e result (λ report. IsDone start root (work_folder root) s v fails report new) is
    done-by (entered.by_journal g) = journaled-done start root s v fails judge in_flight old new u result g

    stays-leads : (c : CoreState) → length c.states ≤ 2 ^ 32 → Stays (work_folder root) c old.past new.past → (e : RunErr) → result ≡ Err e → LeadsTo (work_folder root) c old.past new.past result
    stays-leads c few st e is = record {
      rest = st.rest;
      last = c;
      first = st.first;
      log = st.log;
      runs = st.runs;
      only = λ d other. run_one (work_folder root) c d c (map (λ (h : Happened). h.call) st.rest) (map (λ (h : Happened). h.call) st.rest) refl few other st.runs;
      closed = no-close e result (c.phase ≡ Closed) is;
    }

    leads-by : Entered start root s v fails edit_fails split_fails judge maps within in_flight old new u result
        → (c : CoreState) → ShowsCore start root (work_folder root) s v fails (map_now old.past) c → LeadsTo (work_folder root) c old.past new.past result
    leads-by (entered.unbegun b e mild is) c shown =
        stays-leads c (shows-few start root s v fails (map_now old.past) c shown)
        (begun-stays (work_folder root) c old.past new.past (shows-calm start root (work_folder root) s v fails (map_now old.past) c shown) b) e is
    leads-by (entered.by_journal g) c shown = journaled-leads start root s v fails judge in_flight old new u result g c shown

    settles-by : Entered start root s v fails edit_fails split_fails judge maps within in_flight old new u result → SettlesFew start root s v fails in_flight old.past new.past
    settles-by (entered.unbegun b e mild is) =
        let once : settles_of new.past ≤ settles_of old.past + 1 = begun-settles old.past new.past b in
        record { few = λ p made planned. more-settles (settles_of new.past) (settles_of old.past) (rounds_of (length p.jobs) in_flight) once; none = λ never. once }
    settles-by (entered.by_journal g) = journaled-settles start root s v fails judge in_flight old new u result g

    mild-by : HasKey s → Entered start root s v fails edit_fails split_fails judge maps within in_flight old new u result → IfErr result (λ e. IsTrue (is_mild_end e))
    mild-by seed (entered.unbegun b e mild is) = subst (λ (r : Result (List ℕ) RunErr). IfErr r (λ e. IsTrue (is_mild_end e))) (sym is) (mild seed)
    mild-by seed (entered.by_journal g) = journaled-mild start root s v fails judge in_flight old new u result g

    module _ (r : StartRan root s v fails edit_fails split_fails in_flight old new result) where
      way : Entered start root s v fails edit_fails split_fails judge maps within in_flight old new u result
      way = start-entered start root s v fails edit_fails split_fails judge maps within in_flight old new u result r

      pub ran-leaves : LeavesOnly (IsPartwayRun start root (work_folder root) s v fails) old.past new.past
      ran-leaves = leaves-by way

      pub ran-done : IfOk result (λ report. IsDone start root (work_folder root) s v fails report new)
      ran-done = done-by way

      pub ran-leads : (c : CoreState) → ShowsCore start root (work_folder root) s v fails (map_now old.past) c → LeadsTo (work_folder root) c old.past new.past result
      ran-leads c shown = leads-by way c shown

      pub ran-settles : SettlesFew start root s v fails in_flight old.past new.past
      ran-settles = settles-by way

      pub ran-mild : HasKey s → IfErr result (λ e. IsTrue (is_mild_end e))
      ran-mild seed = mild-by seed way

      -- and where nothing is opposed to the run, it ends for want of memory alone
      pub ran-completes : s.max_file ≤ file_limit → HasKey s → IsUnopposed start root s v fails → (Rose old.faults new.faults → ⊥)
          → IfErr result (λ e. run_status e ≡ 13)
      ran-completes limit seed unopposed calm =
          err-both result (RunEnds root (work_folder root) s v fails edit_fails split_fails old new) (λ e. IsTrue (is_mild_end e)) (λ e. run_status e ≡ 13)
          (λ e ended mild.
          complete start root s v fails judge u.clean (map_now old.past) (u.partway.each (map_now old.past) (image_now old.past)) unopposed edit_fails split_fails old new
          (now-tells old u.tells) u.tells calm e ended (λ d is. subst (λ (x : RunErr). IsTrue (is_mild_end x)) is mild))
          (start-ends root s v fails edit_fails split_fails in_flight judge limit old new result r) (ran-mild seed)
