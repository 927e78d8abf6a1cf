-- Of each way on which a start of a gather ends: whether the tree tells stays, its count of faults doesn't fall, and no path is changed but
-- those below the root.
use Rattle.std.proofs.Common.{◌≡◌, ℕ, Bool, true, List, refl, sym, subst, arith, Result}
use Rattle.std.specs.Prelude.{⊤}
use Rattle.file_tree.specs.Seen.{Seen}
use Rattle.file_tree.specs.Trees.{is_below}
use Rattle.journal_core.specs.Table.{CoreState}
use Rattle.work_texts.specs.declared.key.RunKey.{RunKey}
use Rattle.work_texts.specs.declared.plan.PlanData.{PlanData}
use Rattle.work_journal.specs.declared.opening.Opened.{Opened}
use Rattle.work_journal.specs.Spares.{IsHit, InWork}
use Rattle.work_journal.specs.Spares.{IsHit as hit}
use Rattle.root_run.specs.Starts.{SettledFirst}
use Rattle.root_run.proofs.CauseLaws.{Kept, kept-now, kept-ran, kept-then}
use Rattle.root_run.proofs.FirstLaws.{first-later, first-now, first-tells}
use Rattle.src_gather.specs.declared.gather_err.GatherErr.{GatherErr}
use Rattle.src_gather.specs.Asked.{IsDest}
use Rattle.src_gather.specs.Gathering.{gather_key}
use Rattle.src_gather.specs.Listed.{copy_folder}
use Rattle.src_gather.specs.Makers.{copy_view, gather_folder}
use Rattle.src_gather.specs.Starts.{ClearEnded, CopyWent, OpenedWent, StartRan}
use Rattle.src_gather.specs.Starts.{ClearEnded as over, CopyWent as went, OpenedWent as way, StartRan as ran}
use Rattle.src_gather.proofs.FolderLaws.{copy-below, work-below}

module _ (root from dest : List ℕ) (is : IsDest dest) (in_flight : ℕ) where
  hit-below : (p : PlanData) (q : List ℕ) → IsHit (gather_folder root) (copy_view (copy_folder root dest) from p.jobs) (λ j. ⊤) q → is_below root q ≡ true
  hit-below p q (hit.in_work below) = work-below root q below
  hit-below p q (hit.is_target j k step moves e) = subst (λ (x : List ℕ). is_below root x ≡ true) e (copy-below root dest _ is)

  went-kept : (p : PlanData) (c : CoreState) (old new : Seen) (result : Result (List ℕ) GatherErr) → CopyWent (copy_folder root dest) from (gather_folder root) p in_flight c old new result
      → Kept root old new
  went-kept p c old new result (went.no_start same e) = subst (λ (x : Seen). Kept root old x) (sym same) (kept-now root old old refl (omega arith) refl)
  went-kept p c old new result (went.started r x e) = kept-ran root (gather_folder root) _ _ _ c old new r (λ q h. hit-below p q h) x.ran

  over-kept : (key : RunKey) (report : List ℕ) (old new : Seen) (result : Result (List ℕ) GatherErr) (earlier : Bool) → ClearEnded (gather_folder root) key report old new result earlier → Kept root old new
  over-kept key report old new result earlier (over.no_text same e) = subst (λ (x : Seen). Kept root old x) (sym same) (kept-now root old old refl (omega arith) refl)
  over-kept key report old new result earlier (over.renewed r x e) = kept-ran root (gather_folder root) (InWork (gather_folder root)) 2 _ _ old new r (λ q h. work-below root q h) x.ran
  over-kept key report old new result earlier (over.cleared r x e) = kept-ran root (gather_folder root) (InWork (gather_folder root)) 1 _ _ old new r (λ q h. work-below root q h) x.ran

  opened-kept : (paths : List (List ℕ)) (old new : Seen) (o : Opened) (result : Result (List ℕ) GatherErr) → OpenedWent root from dest (gather_folder root) in_flight paths old new result o
      → Kept root old new
  opened-kept paths old new o result (way.finished {report} {earlier} x) = over-kept (gather_key from dest) report old new result earlier x
  opened-kept paths old new o result (way.resumed {p} w) = went-kept p _ old new result w
  opened-kept paths old new o result (way.unplanned e looked f at) = kept-now root old new looked.tells looked.later looked.now
  opened-kept paths old new o result (way.planned p mid looked at w) =
      kept-then root old mid new (kept-now root old mid looked.tells looked.later looked.now) (went-kept p _ mid new result w)

  first-kept : (old new : Seen) → SettledFirst old new → Kept root old new
  first-kept old new f = kept-now root old new (first-tells old new f) (first-later old new f) (first-now old new f)

  pub start-kept : (old new : Seen) (result : Result (List ℕ) GatherErr) → StartRan root from dest in_flight old new result → Kept root old new
  start-kept old new result (ran.early e a f at) = kept-now root old new a.tells a.later a.now
  start-kept old new result (ran.entered paths o mid h w) = kept-then root old mid new (first-kept old mid h.first) (opened-kept paths mid new o result w)
