-- A planned file that is read stood at its source before the run: what came before changed other paths.
use Rattle.std.proofs.Common.{◌≡◌, ◌⊎◌, inl, inr, ℕ, suc, ◌<◌, ◌≤◌, Bool, true, false, List, length, refl, sym, ◌∙◌, ap, subst, arith, IsTrue}
use Rattle.std.specs.Prelude.{Option, Some, None, Result, Ok, Err, IfErr}
use Rattle.std.specs.FinMap as fin
use Rattle.std.specs.List.{list_any}
use Rattle.std.proofs.lemmas.Bool.{cases_eq, cases_lt, cases_Bool}
use Rattle.file_tree.specs.declared.node.Node.{Node}
use Rattle.file_tree.specs.declared.node.Node.TheVariants as node
use Rattle.file_tree.specs.declared.node.Found.TheVariants as found
use Rattle.file_tree.specs.Trees.{TreeMap, is_below, found_of, stands_at}
use Rattle.file_tree.specs.Seen.{Seen, map_now}
use Rattle.journal_core.specs.declared.event.Event.TheVariants.{Settle}
use Rattle.journal_core.specs.declared.event.JobState.{JobState}
use Rattle.journal_core.specs.declared.event.JobState.TheVariants.{Fresh, Staged, Ready, Going, Done}
use Rattle.journal_core.specs.Calls.{is_uncommitted}
use Rattle.journal_core.specs.Table.{CoreState, state_of, settled_job, after, with_state}
use Rattle.journal_core.proofs.Rows.{settled_at}
use Rattle.work_journal.specs.Views.{MakerView}
use Rattle.work_journal.specs.Groups.{is_new, IsGroup}
use Rattle.work_journal.specs.Rounds.{is_moving, IsMoving, AreCalm, AreLater}
use Rattle.dw_base.specs.declared.fault.Refusal.{Refusal}
use Rattle.work_journal.specs.declared.job_err.JobErr.{JobErr}
use Rattle.work_journal.specs.declared.job_err.JobErr.TheVariants as errs
use Rattle.work_texts.specs.declared.journal_err.JournalErr.{JournalErr}
use Rattle.work_texts.specs.declared.journal_err.JournalErr.TheVariants as run
use Rattle.work_journal.specs.Blames.{is_file, IsChanged, no_file, other_file, IsRefused, IsOfJob, JobStood, RunBlames}
use Rattle.dw_base.specs.Layout.{file_limit}
use Rattle.work_journal.specs.Spares.{Spares, InWork, IsHit, in_work, is_target}
use Rattle.work_journal.specs.Planned.{HasPlanned, ArePlanned, AreSourcesApart}
use Rattle.work_journal.proofs.GroupLaws.{at_other}

-- ### A file that stood before

found_same : (o : Option Node) (a b : Bool) (limit : ℕ) (bytes : List ℕ) (mode : ℕ) → found_of o a limit ≡ found.File bytes mode → found_of o b limit ≡ found.File bytes mode
found_same (Some (node.File x m)) a b limit bytes mode e = e
found_same (Some (node.Link x)) a b limit bytes mode e = e
found_same None true b limit bytes mode e = let d : found.Folder ≡ found.File bytes mode = e in cc
found_same None false b limit bytes mode e = let d : found.Absent ≡ found.File bytes mode = e in cc

same_stands : (t u : TreeMap) (path bytes : List ℕ) (mode limit : ℕ) → fin.get u path ≡ fin.get t path → stands_at u path limit ≡ found.File bytes mode → stands_at t path limit ≡ found.File bytes mode
unfolding stands_at
same_stands t u path bytes mode limit same e =
    found_same (fin.get t path) (list_any (is_below path) (fin.keys u)) (list_any (is_below path) (fin.keys t)) limit bytes mode
    (subst (λ (o : Option Node). found_of o (list_any (is_below path) (fin.keys u)) limit ≡ found.File bytes mode) same e)

pub planned_before : (hits : List ℕ → Type 0) (n : ℕ) (v : MakerView) (old new : Seen) (j : ℕ) → new.tells ≡ old.tells → Spares hits n old new → (hits (v.source j) → ⊥) → HasPlanned v new j → HasPlanned v old j
planned_before hits n v old new j same spares out p = record {
  bytes = p.bytes;
  mode = p.mode;
  stands = record { is = λ tells. same_stands (map_now old.past) (map_now new.past) (v.source j) p.bytes p.mode file_limit (spares.others tells (v.source j) out) (p.stands.is (same ∙ tells)) };
  planned = p.planned;
}

pub source_spared : (work : List ℕ) (v : MakerView) (moves : ℕ → Type 0) (i : ℕ) → AreSourcesApart work v → i < length v.steps → (moves i → ⊥) → IsHit work v moves (v.source i) → ⊥
source_spared work v moves i a l none (in_work h) = a.outside i l h
source_spared work v moves i a l none (is_target j k is m at) = none (subst moves (a.others i j k l is at) m)

-- ### Jobs that are as before

pub later_same : (c d : CoreState) (from : ℕ) → d ≡ c → AreLater c d from
later_same c d from e = record { same = λ i l. ap (λ (x : CoreState). state_of x i) e }

pub later_set : (c d : CoreState) (job from : ℕ) (s : JobState) → job < from → d ≡ with_state c job s → AreLater c d from
later_set c d job from s l e = record { same = λ i m. ap (λ (x : CoreState). state_of x i) e ∙ at_other c job i s (λ (h : i ≡ job). omega (arith, h, l, m)) }

pub later_then : (c d e : CoreState) (from next : ℕ) → from ≤ next → AreLater c d from → AreLater d e next → AreLater c e next
later_then c d e from next l a b = record { same = λ i m. b.same i m ∙ a.same i (omega (arith, l, m)) }

new_settled : (s : JobState) → IsTrue (is_new s) → settled_job s ≡ s
new_settled (Fresh k) h = refl
new_settled Staged h = let d : false ≡ true = h in absurd (cc)
new_settled Ready h = refl
new_settled (Going k) h = refl
new_settled Done h = refl

pub later_settled : (v : MakerView) (c d : CoreState) (first job : ℕ) → IsGroup v c first job → d ≡ after c Settle → AreLater c d job
later_settled v c d first job g e = record {
  same = λ i l. ap (λ (x : CoreState). state_of x i) e ∙ settled_at c.states i ∙ new_settled (state_of c i) (g.rest i l);
}

-- ### Job by job

uncommitted_calm : (s : JobState) → IsTrue (is_uncommitted s) → is_moving s ≡ false
uncommitted_calm (Fresh k) h = refl
uncommitted_calm Staged h = refl
uncommitted_calm Ready h = refl
uncommitted_calm (Going k) h = let d : false ≡ true = h in absurd (cc)
uncommitted_calm Done h = refl

pub done_committed : {A : Type 0} (s : JobState) → s ≡ Done → IsTrue (is_uncommitted s) → A
done_committed s e h = let d : false ≡ true = rw e at h in absurd (cc)

pub none_planned : (v : MakerView) (c : CoreState) (seen : Seen) → ArePlanned v c seen 0
none_planned v c seen = record { each = λ j l. absurd (omega (arith, l)) }

-- a job more, whose file was found when the jobs before it were taken
pub planned_next : (work : List ℕ) (n : ℕ) (v : MakerView) (c now : CoreState) (begun seen : Seen) (job next : ℕ) → next ≡ suc job → job < length v.steps → AreSourcesApart work v → AreLater c now job
    → seen.tells ≡ begun.tells → Spares (IsHit work v (λ j. j < job)) n begun seen → ArePlanned v c begun job → (IsTrue (is_uncommitted (state_of now job)) → HasPlanned v seen job) → ArePlanned v c begun next
planned_next work n v c now begun seen job next at l apart later same spares before met = record {
  each = λ j m free. elim (cases_eq j job) [
    | inl here ↦ subst (λ (y : ℕ). HasPlanned v begun y) (sym here)
        (planned_before (IsHit work v (λ i. i < job)) n v begun seen job same spares (source_spared work v (λ i. i < job) job apart l (λ (x : job < job). omega (arith, x)))
        (met (subst (λ (s : JobState). IsTrue (is_uncommitted s)) (ap (λ (y : ℕ). state_of c y) here ∙ sym (later.same job (omega arith))) free)))
    | inr other ↦ before.each j (elim (cases_lt j job) [ inl h ↦ h | inr h ↦ absurd (other (omega (arith, h, m, at))) ]) free
  ];
}

-- all jobs, after those that an earlier start committed were moved
pub planned_first : (work : List ℕ) (n : ℕ) (v : MakerView) (c now : CoreState) (begun seen : Seen) (jobs : ℕ) → jobs ≡ length v.steps → AreSourcesApart work v → AreCalm c now
    → seen.tells ≡ begun.tells → Spares (IsHit work v (IsMoving c)) n begun seen → ArePlanned v now seen jobs → ArePlanned v c begun jobs
planned_first work n v c now begun seen jobs all apart calm same spares are = record {
  each = λ j l free. (
      let still : is_moving (state_of c j) ≡ false = uncommitted_calm (state_of c j) free in
      planned_before (IsHit work v (IsMoving c)) n v begun seen j same spares
      (source_spared work v (IsMoving c) j apart (omega (arith, l, all)) (λ (m : IsMoving c j). let d : true ≡ false = sym m ∙ still in cc))
      (are.each j l (subst (λ (s : JobState). IsTrue (is_uncommitted s)) (sym (calm.same j still)) free)));
}

-- ### An error that names a job, at the tree before

file_same : (o : Option Node) (a b : Bool) (limit : ℕ) → is_file (found_of o a limit) ≡ is_file (found_of o b limit)
file_same (Some (node.File x m)) a b limit = refl
file_same (Some (node.Link x)) a b limit = refl
file_same None true true limit = refl
file_same None true false limit = refl
file_same None false true limit = refl
file_same None false false limit = refl

same_file : (t u : TreeMap) (path : List ℕ) (limit : ℕ) → fin.get u path ≡ fin.get t path → is_file (stands_at t path limit) ≡ is_file (stands_at u path limit)
unfolding stands_at
same_file t u path limit same =
    file_same (fin.get t path) (list_any (is_below path) (fin.keys t)) (list_any (is_below path) (fin.keys u)) limit
    ∙ ap (λ (o : Option Node). is_file (found_of o (list_any (is_below path) (fin.keys u)) limit)) (sym same)

module _ (hits : List ℕ → Type 0) (n : ℕ) (v : MakerView) (refuses : ℕ → List ℕ → Refusal → Type 0) (old new : Seen) (same : new.tells ≡ old.tells) (spares : Spares hits n old new) where
  changed_before : (j : ℕ) (p : List ℕ) (f : Option (List ℕ)) → (hits (v.source j) → ⊥) → IsChanged v new j p f → IsChanged v old j p f
  changed_before j p f out (no_file at none) = no_file at (record {
    is = λ tells. same_file (map_now old.past) (map_now new.past) (v.source j) file_limit (spares.others tells (v.source j) out) ∙ none.is (same ∙ tells);
  })
  changed_before j p f out (other_file bytes mode stands change) = other_file bytes mode (record {
    is = λ tells. same_stands (map_now old.past) (map_now new.past) (v.source j) bytes mode file_limit (spares.others tells (v.source j) out) (stands.is (same ∙ tells));
  }) change

  refused_before : (j : ℕ) (r : Refusal) → (hits (v.source j) → ⊥) → IsRefused v refuses new j r → IsRefused v refuses old j r
  refused_before j r out h = record {
    bytes = h.bytes;
    mode = h.mode;
    stands = record { is = λ tells. same_stands (map_now old.past) (map_now new.past) (v.source j) h.bytes h.mode file_limit (spares.others tells (v.source j) out) (h.stands.is (same ∙ tells)) };
    refused = h.refused;
    planned = h.planned;
  }

  -- of a job whose source isn't changed, and that wasn't committed before
  stood_before : (c d : CoreState) (x : JobErr) → ((j : ℕ) → j < length v.steps → IsOfJob j x → IsTrue (is_uncommitted (state_of d j)) → IsTrue (is_uncommitted (state_of c j)) × (hits (v.source j) → ⊥))
      → JobStood v refuses d new x → JobStood v refuses c old x
  stood_before c d (errs.Changed j p f) all h = let b = all j h.0 refl h.1 in (h.0, b.0, changed_before j p f b.1 h.2)
  stood_before c d (errs.Refused j r) all h = let b = all j h.0 refl h.1 in (h.0, b.0, refused_before j r b.1 h.2)
  stood_before c d errs.Tree all h = tt
  stood_before c d errs.NoMemory all h = tt

  pub run_before : (x : JournalErr) → ((j : ℕ) → j < length v.steps → hits (v.source j) → ⊥) → RunBlames v refuses new x → RunBlames v refuses old x
  run_before (run.Changed path p f) out h = (h.0, h.1, h.2, changed_before h.0 p f (out h.0 h.1) h.3)
  run_before (run.Refused path r) out h = (h.0, h.1, h.2, refused_before h.0 r (out h.0 h.1) h.3)
  run_before run.Tree out h = tt
  run_before run.NoMemory out h = tt
  run_before (run.PlanText file at) out h = h
  run_before (run.OtherRun field a b) out h = h

-- at the tree before all jobs, of the job that is taken then
pub stood_first : {A : Type 0} (work : List ℕ) (n : ℕ) (v : MakerView) (refuses : ℕ → List ℕ → Refusal → Type 0) (c d : CoreState) (old new : Seen) (i : ℕ) (r : Result A JobErr) → AreSourcesApart work v → AreLater c d i
    → new.tells ≡ old.tells → Spares (IsHit work v (λ j. j < i)) n old new → IfErr r (IsOfJob i) → IfErr r (JobStood v refuses d new) → IfErr r (JobStood v refuses c old)
stood_first work n v refuses c d old new i (Ok a) apart later same spares of h = tt
stood_first work n v refuses c d old new i (Err x) apart later same spares of h = at x of h
  where
    here : (j : ℕ) → j ≡ i → j < length v.steps → IsTrue (is_uncommitted (state_of d j)) → IsTrue (is_uncommitted (state_of c j)) × (IsHit work v (λ k. k < i) (v.source j) → ⊥)
    here j is l free = (
      subst (λ (s : JobState). IsTrue (is_uncommitted s)) (later.same j (omega (arith, is))) free,
      source_spared work v (λ k. k < i) j apart l (λ (m : j < i). omega (arith, is, m)),
    )

    at : (y : JobErr) → IsOfJob i y → JobStood v refuses d new y → JobStood v refuses c old y
    at (errs.Changed j p f) is h = stood_before (IsHit work v (λ k. k < i)) n v refuses old new same spares c d (errs.Changed j p f) (λ k l own free. here k (sym own ∙ is) l free) h
    at (errs.Refused j q) is h = stood_before (IsHit work v (λ k. k < i)) n v refuses old new same spares c d (errs.Refused j q) (λ k l own free. here k (sym own ∙ is) l free) h
    at errs.Tree is h = tt
    at errs.NoMemory is h = tt

-- and before the jobs that an earlier start committed were moved
pub stood_calm : {A : Type 0} (work : List ℕ) (n : ℕ) (v : MakerView) (refuses : ℕ → List ℕ → Refusal → Type 0) (c d : CoreState) (old new : Seen) (r : Result A JobErr) → AreSourcesApart work v → AreCalm c d
    → new.tells ≡ old.tells → Spares (IsHit work v (IsMoving c)) n old new → IfErr r (JobStood v refuses d new) → IfErr r (JobStood v refuses c old)
stood_calm work n v refuses c d old new (Ok a) apart calm same spares h = tt
stood_calm work n v refuses c d old new (Err x) apart calm same spares h =
    stood_before (IsHit work v (IsMoving c)) n v refuses old new same spares c d x (λ j l own free. both j l free (cases_Bool (is_moving (state_of c j)))) h
  where
    both : (j : ℕ) → j < length v.steps → IsTrue (is_uncommitted (state_of d j)) → (is_moving (state_of c j) ≡ true) ⊎ (is_moving (state_of c j) ≡ false)
        → IsTrue (is_uncommitted (state_of c j)) × (IsHit work v (IsMoving c) (v.source j) → ⊥)
    both j l free (inl moves) = absurd (let d : true ≡ false = sym free ∙ calm.moved j moves in cc)
    both j l free (inr still) = (
      subst (λ (s : JobState). IsTrue (is_uncommitted s)) (calm.same j still) free,
      source_spared work v (IsMoving c) j apart l (λ (m : IsMoving c j). let d : true ≡ false = sym m ∙ still in cc),
    )

-- and before a plan was put
pub run_first : {A : Type 0} (work : List ℕ) (n : ℕ) (v : MakerView) (refuses : ℕ → List ℕ → Refusal → Type 0) (old new : Seen) (r : Result A JournalErr) → AreSourcesApart work v → new.tells ≡ old.tells → Spares (InWork work) n old new
    → IfErr r (RunBlames v refuses new) → IfErr r (RunBlames v refuses old)
run_first work n v refuses old new (Ok a) apart same spares h = tt
run_first work n v refuses old new (Err x) apart same spares h = run_before (InWork work) n v refuses old new same spares x (λ j l hit. apart.outside j l hit) h
