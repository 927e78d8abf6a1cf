-- What the core counts as settled stays whole: any event but a settle adds nothing to it.
use Rattle.std.proofs.Common.{◌≡◌, ◌≢◌, ℕ, suc, ◌<◌, ◌≤◌, Bool, true, false, cond, ◌&&◌, eqb, ltb, List, get_or, refl, sym, ◌∙◌, ap, subst, inl, inr, arith, IsTrue, eq-eqb, ne_eqb, lt-ltb, le-ltb, eqb-true}
use Rattle.std.proofs.lemmas.Bool.{cases_eq, cases_lt, and_parts}
use Rattle.journal_core.specs.declared.event.Event.{Event}
use Rattle.journal_core.specs.declared.event.Event.TheVariants.{Propose, Adopt, Stage, Settle, Commit, Move, Finish, Close, Clear, Renew, Replace}
use Rattle.journal_core.specs.declared.event.JobState.{JobState}
use Rattle.journal_core.specs.declared.event.JobState.TheVariants.{Fresh, Staged, Going, Done}
use Rattle.journal_core.specs.declared.event.Phase.{Phase}
use Rattle.journal_core.specs.declared.event.Phase.TheVariants.{Empty, Proposed, Running, Finishing, Closing, Closed, Renewing}
use Rattle.journal_core.specs.Names.{IsStep}
use Rattle.journal_core.specs.Table.{CoreState, state_of, steps_of, allows, after, staged_next, moved_next, closed_next, may_close, with_state}
use Rattle.journal_core.specs.Marks.{Mark, Marking, whole}
use Rattle.journal_core.specs.Relation.{Slot, free, staged, safe, moved, slot, SlotShows, IsLive, EachDone, Shows, empty, proposed, settled, running, finishing, closing, closed, renewing}
use Rattle.journal_core.specs.Law.{SettledWhole, is_settle}
use Rattle.journal_core.proofs.Jobs.{state-set}
use Rattle.journal_core.proofs.JobEvents.{fresh_is, ready_is, going_is, fresh_not_done, ready_not_done, going_not_done}
use Rattle.journal_core.proofs.Events.{never}
use Rattle.journal_core.proofs.Calls.{stage_fresh}

-- ### The relation says so

early_no_slot : (ss : List JobState) (j k : ℕ) → get_or ss j Done ≡ Fresh 0 → slot (get_or ss j Done) k ≢ safe
early_no_slot ss j k e h =
    let none : 0 ≤ k = omega arith in
    let a : slot (Fresh 0) k ≡ safe = subst (λ (s : JobState). slot s k ≡ safe) e h in
    let b : free ≡ safe = subst (λ (x : Bool). cond x staged free ≡ safe) (le-ltb k 0 none) a in
    cc

live_safe : (p : Mark → Bool) (steps : List ℕ) (ss : List JobState) (m : Marking) (j k : ℕ)
    → IsLive p steps ss m → IsStep steps j k → slot (get_or ss j Done) k ≡ safe → m.temp j k ≡ whole
live_safe p steps ss m j k live st e =
    (subst (λ (s : Slot). SlotShows p s (m.temp j k) (m.target j k)) e ((live.jobs j st.job_in).slots k st.step_in)).temp_whole

done_no_slot : (ss : List JobState) (j k : ℕ) → EachDone ss → slot (get_or ss j Done) k ≢ safe
done_no_slot ss j k done h = let e : moved ≡ safe = subst (λ (s : JobState). slot s k ≡ safe) (done j) h in cc

pub shows_settled : (p : Mark → Bool) (steps : List ℕ) (c : CoreState) (m : Marking) → Shows p steps c m → SettledWhole steps c m
shows_settled p steps c m (empty {ss = ss} h l) = record {
  steps_whole = λ j k st e. absurd (early_no_slot ss j k (h.none_begun j st.job_in) e);
  plan_whole = λ e. cc;
  texts_whole = λ v e. cc;
  rest_whole = λ v e. cc;
  text_whole = λ e. cc;
}
shows_settled p steps c m (proposed {ss = ss} h l) = record {
  steps_whole = λ j k st e. absurd (early_no_slot ss j k (h.none_begun j st.job_in) e);
  plan_whole = λ e. cc;
  texts_whole = λ v e. cc;
  rest_whole = λ v e. cc;
  text_whole = λ e. cc;
}
shows_settled p steps c m (settled {ss = ss} h l) = record {
  steps_whole = λ j k st e. absurd (early_no_slot ss j k (h.none_begun j st.job_in) e);
  plan_whole = λ e. l;
  texts_whole = λ v e. cc;
  rest_whole = λ v e. cc;
  text_whole = λ e. cc;
}
shows_settled p steps c m (running {ss = ss} h) = record {
  steps_whole = λ j k st e. live_safe p steps ss m j k h st e;
  plan_whole = λ e. cc;
  texts_whole = λ v e. cc;
  rest_whole = λ v e. cc;
  text_whole = λ e. cc;
}
shows_settled p steps c m (finishing {ss = ss} {settled_parts = b} h) = record {
  steps_whole = λ j k st e. live_safe p steps ss m j k h.live st e;
  plan_whole = λ e. cc;
  texts_whole = λ v e i l. let s : b ≡ true = cc in h.are_settled s i l;
  rest_whole = λ v e. cc;
  text_whole = λ e. cc;
}
shows_settled p steps c m (closing {ss = ss} {moved_parts = w} h) = record {
  steps_whole = λ j k st e. live_safe p steps ss m j k h.live st e;
  plan_whole = λ e. cc;
  texts_whole = λ v e. cc;
  rest_whole = λ v e i b l. let s : w ≡ v = cc in h.left i (omega arith) l;
  text_whole = λ e. cc;
}
shows_settled p steps c m (closed {ss = ss} d h) = record {
  steps_whole = λ j k st e. absurd (done_no_slot ss j k d e);
  plan_whole = λ e. cc;
  texts_whole = λ v e. cc;
  rest_whole = λ v e. cc;
  text_whole = λ e. cc;
}
shows_settled p steps c m (renewing {ss = ss} {put_text = b} {settled_text = w} d h l q) = record {
  steps_whole = λ j k st e. absurd (done_no_slot ss j k d e);
  plan_whole = λ e. cc;
  texts_whole = λ v e. cc;
  rest_whole = λ v e. cc;
  text_whole = λ e. let s : b ≡ true = cc in let t : w ≡ true = cc in q s t;
}

-- ### What is settled after an event was settled before it

staged_not_safe : (step n k : ℕ) → slot (staged_next step n) k ≢ safe
staged_not_safe step n k h = elim (cases_eq (suc step) n) [
  | inl e ↦ let a : staged ≡ safe = subst (λ (x : Bool). slot (cond x Staged (Fresh (suc step))) k ≡ safe) (eq-eqb (suc step) n e) h in cc
  | inr o ↦ let a : slot (Fresh (suc step)) k ≡ safe = subst (λ (x : Bool). slot (cond x Staged (Fresh (suc step))) k ≡ safe) (ne_eqb (suc step) n o) h in
      elim (cases_lt k (suc step)) [
        | inl l ↦ let b : staged ≡ safe = subst (λ (x : Bool). cond x staged free ≡ safe) (lt-ltb k (suc step) l) a in cc
        | inr l ↦ let b : free ≡ safe = subst (λ (x : Bool). cond x staged free ≡ safe) (le-ltb k (suc step) l) a in cc
      ]
]

moved_was_safe : (step n k : ℕ) → slot (moved_next step n) k ≡ safe → slot (Going step) k ≡ safe
moved_was_safe step n k h = elim (cases_eq (suc step) n) [
  | inl e ↦ absurd (let a : moved ≡ safe = subst (λ (x : Bool). slot (cond x Done (Going (suc step))) k ≡ safe) (eq-eqb (suc step) n e) h in cc)
  | inr o ↦ let a : slot (Going (suc step)) k ≡ safe = subst (λ (x : Bool). slot (cond x Done (Going (suc step))) k ≡ safe) (ne_eqb (suc step) n o) h in
      elim (cases_lt k (suc step)) [
        | inl l ↦ absurd (let b : moved ≡ safe = subst (λ (x : Bool). cond x moved safe ≡ safe) (lt-ltb k (suc step) l) a in cc)
        | inr l ↦ let b : step ≤ k = omega arith in rw (le-ltb k step b) refl
      ]
]

-- one job takes another state, of which no step is settled that wasn't
safe_with_state : (steps : List ℕ) (c : CoreState) (m : Marking) (j : ℕ) (s : JobState) → state_of c j ≢ Done
    → ((k : ℕ) → slot s k ≡ safe → slot (state_of c j) k ≡ safe) → SettledWhole steps c m → SettledWhole steps (with_state c j s) m
safe_with_state steps c m j s ne was h = record {
  steps_whole = λ i k st e. elim (state-set c.states j i s ne) [
    | inl a ↦ h.steps_whole i k st (subst (λ (l : ℕ). slot (state_of c l) k ≡ safe) (sym a.0)
        (was k (sym (ap (λ (x : JobState). slot x k) a.1) ∙ e)))
    | inr a ↦ h.steps_whole i k st (sym (ap (λ (x : JobState). slot x k) a.1) ∙ e)
  ];
  plan_whole = h.plan_whole;
  texts_whole = h.texts_whole;
  rest_whole = h.rest_whole;
  text_whole = h.text_whole;
}

-- the texts that aren't renamed after one more is
rest_after : (steps : List ℕ) (c : CoreState) (m : Marking) (part : ℕ) → IsTrue (allows c (Close part)) → SettledWhole steps c m
    → (i : ℕ) → suc part ≤ i → i < 4 → m.fresh i ≡ whole
rest_after steps c m part al h i l b = rest c.phase al h.texts_whole h.rest_whole
  where
    rest : (phase : Phase) → IsTrue (may_close phase part)
        → ((put_parts : ℕ) → phase ≡ Finishing put_parts true → (i : ℕ) → i < 4 → m.fresh i ≡ whole)
        → ((moved_parts : ℕ) → phase ≡ Closing moved_parts → (i : ℕ) → moved_parts ≤ i → i < 4 → m.fresh i ≡ whole)
        → m.fresh i ≡ whole
    rest Empty al texts left = never al
    rest (Proposed s) al texts left = never al
    rest Running al texts left = never al
    rest (Finishing put s) al texts left = texts put (ap (Finishing put) (and_parts (eqb part 0) s al).1) i b
    rest (Closing v) al texts left =
        let e : v ≡ part = eqb-true v part (and_parts (ltb 0 part && ltb part 4) (eqb v part) al).1 in
        left v refl i (omega arith) b
    rest Closed al texts left = never al
    rest (Renewing b w) al texts left = never al

closed_next_is : (part v : ℕ) → closed_next part ≡ Closing v → suc part ≡ v
closed_next_is part v e = elim (cases_eq part 3) [
  | inl t ↦ let a : Closed ≡ Closing v = subst (λ (x : Bool). cond x Closed (Closing (suc part)) ≡ Closing v) (eq-eqb part 3 t) e in cc
  | inr o ↦ let a : Closing (suc part) ≡ Closing v = subst (λ (x : Bool). cond x Closed (Closing (suc part)) ≡ Closing v) (ne_eqb part 3 o) e in cc
]

closed_next_not : (part : ℕ) (x : Phase) → ((v : ℕ) → Closing v ≢ x) → Closed ≢ x → closed_next part ≢ x
closed_next_not part x a b e = elim (cases_eq part 3) [
  | inl t ↦ b (subst (λ (y : Bool). cond y Closed (Closing (suc part)) ≡ x) (eq-eqb part 3 t) e)
  | inr o ↦ a (suc part) (subst (λ (y : Bool). cond y Closed (Closing (suc part)) ≡ x) (ne_eqb part 3 o) e)
]

pub settled_kept : (steps : List ℕ) (c : CoreState) (m : Marking) (e : Event) → IsTrue (allows c e) → is_settle e ≡ false
    → SettledWhole steps c m → SettledWhole steps (after c e) m
settled_kept steps c m Propose al ns h = record {
  steps_whole = h.steps_whole;
  plan_whole = λ e. cc;
  texts_whole = λ v e. cc;
  rest_whole = λ v e. cc;
  text_whole = λ e. cc;
}
settled_kept steps c m Adopt al ns h = record {
  steps_whole = h.steps_whole;
  plan_whole = λ e. cc;
  texts_whole = λ v e. cc;
  rest_whole = λ v e. cc;
  text_whole = λ e. cc;
}
settled_kept steps c m (Stage job step) al ns h =
    let s = fresh_is (state_of c job) step (stage_fresh c job step al) in
    safe_with_state steps c m job _ (fresh_not_done _ step s) (λ k e. absurd (staged_not_safe step (steps_of c job) k e)) h
settled_kept steps c m Settle al ns h = never (sym ns)
settled_kept steps c m (Commit job) al ns h =
    let s = ready_is (state_of c job) al in
    safe_with_state steps c m job (Going 0) (ready_not_done _ s) (λ k e. ap (λ (x : JobState). slot x k) s) h
settled_kept steps c m (Move job step) al ns h =
    let s = going_is (state_of c job) step al in
    safe_with_state steps c m job _ (going_not_done _ step s)
    (λ k e. ap (λ (x : JobState). slot x k) s ∙ moved_was_safe step (steps_of c job) k e) h
settled_kept steps c m (Finish part) al ns h = record {
  steps_whole = h.steps_whole;
  plan_whole = λ e. cc;
  texts_whole = λ v e. cc;
  rest_whole = λ v e. cc;
  text_whole = λ e. cc;
}
settled_kept steps c m (Close part) al ns h = record {
  steps_whole = h.steps_whole;
  plan_whole = λ e. absurd (closed_next_not part (Proposed true) (λ v d. cc) (λ d. cc) e);
  texts_whole = λ v e. absurd (closed_next_not part (Finishing v true) (λ w d. cc) (λ d. cc) e);
  rest_whole = λ v e i l b. let f = closed_next_is part v e in rest_after steps c m part al h i (omega arith) b;
  text_whole = λ e. absurd (closed_next_not part (Renewing true true) (λ w d. cc) (λ d. cc) e);
}
settled_kept steps c m Clear al ns h = h
settled_kept steps c m Renew al ns h = record {
  steps_whole = h.steps_whole;
  plan_whole = λ e. cc;
  texts_whole = λ v e. cc;
  rest_whole = λ v e. cc;
  text_whole = λ e. cc;
}
settled_kept steps c m Replace al ns h = record {
  steps_whole = h.steps_whole;
  plan_whole = λ e. cc;
  texts_whole = λ v e. cc;
  rest_whole = λ v e. cc;
  text_whole = λ e. cc;
}
