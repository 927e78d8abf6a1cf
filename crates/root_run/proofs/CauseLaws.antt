-- Of each way on which a start ends: whether the tree tells stays, its count of faults doesn't fall, and no path is changed but those
-- below the root.
use Rattle.std.proofs.Common.{◌≡◌, ℕ, ◌≤◌, Bool, true, false, List, refl, sym, ap, subst, ◌∙◌, arith, Result}
use Rattle.std.specs.Prelude.{⊤}
use Rattle.std.specs.FinMap as fin
use Rattle.dw_base.specs.declared.fault.Refusal.{Refusal}
use Rattle.file_tree.specs.Seen.{Seen, map_now, now_of}
use Rattle.file_tree.specs.Trees.{TreeMap, is_below}
use Rattle.job_types.specs.Settings.{Settings}
use Rattle.journal_core.specs.Table.{CoreState}
use Rattle.work_texts.specs.declared.journal_err.JournalErr.{JournalErr}
use Rattle.work_texts.specs.declared.plan.PlanData.{PlanData}
use Rattle.work_journal.specs.declared.opening.Opened.{Opened}
use Rattle.work_journal.specs.Finishing.{FinishRan}
use Rattle.work_journal.specs.Spares.{IsHit, InWork}
use Rattle.work_journal.specs.Spares.{IsHit as hit}
use Rattle.work_journal.specs.Wanted.{Wanted}
use Rattle.root_plan.specs.Makers.{plan_view}
use Rattle.root_plan.specs.Plans.{key_of}
use Rattle.root_plan.specs.Roots.{work_folder}
use Rattle.root_plan.specs.Verdicts.{JudgeView}
use Rattle.root_run.specs.declared.run_err.RunErr.{RunErr}
use Rattle.root_run.specs.Starts.{SettledFirst, ClearEnded, PlanWent, OpenedWent, StartRan}
use Rattle.root_run.specs.Starts.{ClearEnded as over, PlanWent as went, OpenedWent as way, StartRan as ran}
use Rattle.root_run.proofs.FirstLaws.{first-tells, first-later, first-now, maps-same}
use Rattle.root_run.proofs.KeysLaws.{work-in-root, in-root-below}

hit-below : (root : List ℕ) (p : PlanData) (q : List ℕ) → IsHit (work_folder root) (plan_view root p.jobs) (λ j. ⊤) q → is_below root q ≡ true
hit-below root p q (hit.in_work below) = work-in-root root q below
hit-below root p q (hit.is_target j k step moves e) = subst (λ (x : List ℕ). is_below root x ≡ true) e (in-root-below root _)

not-both : (b : Bool) → b ≡ false → b ≡ true → ⊥
not-both true x y = cc
not-both false x y = cc

-- between two moments whether the tree tells is as before, its count of faults didn't fall, and no path is changed but those below the root
pub record Kept (root : List ℕ) (old new : Seen) : Type 0 where
  pub tells : new.tells ≡ old.tells
  pub later : old.faults ≤ new.faults
  pub others : old.tells ≡ true → (q : List ℕ) → is_below root q ≡ false → fin.get (map_now new.past) q ≡ fin.get (map_now old.past) q

pub kept-then : (root : List ℕ) (a b c : Seen) → Kept root a b → Kept root b c → Kept root a c
kept-then root a b c x y = record {
  tells = y.tells ∙ x.tells;
  later = omega (arith, x.later, y.later);
  others = λ t q out. y.others (x.tells ∙ t) q out ∙ x.others t q out;
}

pub kept-now : (root : List ℕ) (old new : Seen) → new.tells ≡ old.tells → old.faults ≤ new.faults → now_of new ≡ now_of old → Kept root old new
kept-now root old new tells later now = record {
  tells = tells;
  later = later;
  others = λ t q out. ap (λ (m : TreeMap). fin.get m q) (maps-same new old (tells ∙ t) t now);
}

pub kept-ran : {A : Type 0} (root work : List ℕ) (hits : List ℕ → Type 0) (n : ℕ) (may : Wanted → Type 0) (c : CoreState) (old new : Seen) (r : Result A JournalErr)
    → ((q : List ℕ) → hits q → is_below root q ≡ true) → FinishRan hits n work may c old new r → Kept root old new
kept-ran root work hits n may c old new r within f = record {
  tells = f.came.tells;
  later = f.came.later;
  others = λ t q out. f.came.spares.others t q (λ h. not-both (is_below root q) out (within q h));
}

module _ (root : List ℕ) (s : Settings) (v : JudgeView) (fails : List ℕ → List ℕ → Refusal → Type 0) (edit_fails : List ℕ → Refusal → Type 0)
    (split_fails : List ℕ → List ℕ → Refusal → Type 0) (in_flight : ℕ) where
  went-kept : (p : PlanData) (c : CoreState) (old new : Seen) (result : Result (List ℕ) RunErr) → PlanWent root (work_folder root) v edit_fails split_fails p in_flight c old new result
      → Kept root old new
  went-kept p c old new result (went.no_start same is) = subst (λ (x : Seen). Kept root old x) (sym same) (kept-now root old old refl (omega arith) refl)
  went-kept p c old new result (went.started r x is) = kept-ran root (work_folder root) _ _ _ c old new r (λ q h. hit-below root p q h) x.ran

  over-kept : (report : List ℕ) (earlier : Bool) (old new : Seen) (result : Result (List ℕ) RunErr) → ClearEnded (work_folder root) (key_of s) report old new result earlier → Kept root old new
  over-kept report earlier old new result (over.no_text same is) = subst (λ (x : Seen). Kept root old x) (sym same) (kept-now root old old refl (omega arith) refl)
  over-kept report earlier old new result (over.renewed r x is) = kept-ran root (work_folder root) (InWork (work_folder root)) 2 _ _ old new r (λ q h. work-in-root root q h) x.ran
  over-kept report earlier old new result (over.cleared r x is) = kept-ran root (work_folder root) (InWork (work_folder root)) 1 _ _ old new r (λ q h. work-in-root root q h) x.ran

  opened-kept : (paths : List (List ℕ)) (old new : Seen) (o : Opened) (result : Result (List ℕ) RunErr)
      → OpenedWent root (work_folder root) s v fails edit_fails split_fails in_flight paths old new result o → Kept root old new
  opened-kept paths old new o result (way.finished x) = over-kept _ _ old new result x
  opened-kept paths old new o result (way.resumed {p = p} w) = went-kept p _ old new result w
  opened-kept paths old new o result (way.unplanned e looked f is) = kept-now root old new looked.tells looked.later looked.now
  opened-kept paths old new o result (way.planned p mid looked is serves w) =
      kept-then root old mid new (kept-now root old mid looked.tells looked.later looked.now) (went-kept p _ mid new result w)

  first-kept : (old new : Seen) → SettledFirst old new → Kept root old new
  first-kept old new f = kept-now root old new (first-tells old new f) (first-later old new f) (first-now old new f)

  pub start-kept : (old new : Seen) (result : Result (List ℕ) RunErr) → StartRan root s v fails edit_fails split_fails in_flight old new result → Kept root old new
  start-kept old new result (ran.early e a f is) = kept-now root old new a.tells a.later a.now
  start-kept old new result (ran.entered paths o mid h w) = kept-then root old mid new (first-kept old mid h.first) (opened-kept paths mid new o result w)
