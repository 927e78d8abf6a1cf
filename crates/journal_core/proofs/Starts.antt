-- Every marking of a shape shows one core, and what each of its jobs shows is computed from its names.
use Rattle.std.proofs.Common.{◌≡◌, ◌≢◌, ℕ, suc, zero, ◌+◌, ◌<◌, Bool, true, false, ◌&&◌, cond, List, length, get_or, map, refl, sym, ◌∙◌, ap, subst, inl, inr, arith, IsTrue, lt-ltb}
use Rattle.std.proofs.lemmas.Bool.{cases_lt, cases_Bool, false_from_ne_true}
use Rattle.std.proofs.lemmas.List.{ext_get_or, length-map, get_or_past, length-replicate, get_or-replicate}
use Rattle.std.specs.Prelude.{replicate}
use Rattle.journal_core.specs.declared.event.Phase.TheVariants.{Empty}
use Rattle.journal_core.proofs.Rows.{settled_at}
use Rattle.std.proofs.lemmas.List.FromFn.{length-map-range_with_len, get_or-map-range_with_len}
use Rattle.journal_core.specs.declared.event.JobState.{JobState}
use Rattle.journal_core.specs.declared.event.JobState.TheVariants.{Fresh, Going, Done}
use Rattle.journal_core.specs.Names.{EachHasStep}
use Rattle.journal_core.specs.Fit.{fits, AreFit}
use Rattle.journal_core.specs.Table.{CoreState, settled_job, new_core, resumed_core, closed_core, old_core}
use Rattle.journal_core.specs.Marks.{Mark, Marking, absent, whole, is_absent, is_any, earlier, is_own, first, any}
use Rattle.journal_core.specs.Shapes.{JobShape, untouched, committed, none_there, IsUnplanned, IsUnderway, IsFinished, HasShape, IsOld}
use Rattle.journal_core.specs.Starts.{JobShown, anew, going, done, EachShown, Shown, least_there, shown_state, shown_states, shown_core, EveryShapeShown, EveryShownSettled, EveryShownFit}
use Rattle.journal_core.proofs.Ends.{is-absent, none_there_from, none_there_each}

-- the least that is there, where one is
pub record IsLeast (temp : ℕ → Mark) (n least : ℕ) : Type 0 where
  pub below : least < n
  pub there : temp least ≢ absent
  pub none_before : (k : ℕ) → k < least → temp k ≡ absent

least_is_least : (temp : ℕ → Mark) (n : ℕ) → none_there temp n ≡ false → IsLeast temp n (least_there temp n)
least_is_least temp zero h = absurd (cc)
least_is_least temp (suc n) h = elim (cases_Bool (none_there temp n)) [
  | inl none ↦ subst (λ (b : Bool). IsLeast temp (suc n) (cond b n (least_there temp n))) (sym none) (record {
    below = omega arith;
    there = λ e. let all : (is_absent (temp n) && none_there temp n) ≡ true = rw (is-absent (temp n) e, none) refl in
        let d : false ≡ true = sym h ∙ all in cc;
    none_before = none_there_each temp n none;
  })
  | inr some ↦ subst (λ (b : Bool). IsLeast temp (suc n) (cond b n (least_there temp n))) (sym some)
      (let before = least_is_least temp n some in
      let small : least_there temp n < n = before.below in
      record { below = omega arith; there = before.there; none_before = before.none_before })
]

none_is : (b : Mark) → is_any b ≡ false → (c : ℕ → Mark) (n : ℕ) (g : ℕ → Mark) → JobShape n b c g → b ≡ absent
none_is b h c n g (untouched e each) = e
none_is b h c n g (committed there moved small gone left) = let d : false ≡ true = sym h ∙ there in cc

-- what a job of a shape shows
job_shown : (n : ℕ) (c : Mark) (t g : ℕ → Mark) → JobShape n c t g → JobShown n c t (shown_state n c t)
job_shown n c t g shape = elim (cases_Bool (is_any c)) [
  | inl there ↦ subst (λ (b : Bool). JobShown n c t (cond b (cond (none_there t n) Done (Going (least_there t n))) (Fresh 0))) (sym there)
      (elim (cases_Bool (none_there t n)) [
        | inl none ↦ subst (λ (b : Bool). JobShown n c t (cond b Done (Going (least_there t n)))) (sym none) (done there (none_there_each t n none))
        | inr some ↦ subst (λ (b : Bool). JobShown n c t (cond b Done (Going (least_there t n)))) (sym some)
            (let least = least_is_least t n some in going there (least_there t n) least.below least.there least.none_before)
      ])
  | inr none ↦ subst (λ (b : Bool). JobShown n c t (cond b (cond (none_there t n) Done (Going (least_there t n))) (Fresh 0))) (sym none)
      (anew (none_is c none t n g shape))
]

each_shown : (steps : List ℕ) (m : Marking) → IsUnderway steps m → EachShown steps (shown_states steps m) m
each_shown steps m h j l =
    let f : ℕ → JobState = λ (i : ℕ). shown_state (get_or steps i 0) (m.commit i) (m.temp i) in
    let from : 0 + j ≡ j = omega arith in
    subst (λ (s : JobState). JobShown (get_or steps j 0) (m.commit j) (m.temp j) s)
    (sym (get_or-map-range_with_len f 0 (length steps) j j Done l from))
    (job_shown _ _ _ _ (h.jobs j l))

-- ### And no other

least_unique : (temp : ℕ → Mark) (n a b : ℕ) → IsLeast temp n a → IsLeast temp n b → a ≡ b
least_unique temp n a b x y = elim (cases_lt a b) [
  | inl l ↦ absurd (x.there (y.none_before a l))
  | inr l ↦ elim (cases_lt b a) [ inl k ↦ absurd (y.there (x.none_before b k)) | inr k ↦ omega arith ]
]

some_there : (temp : ℕ → Mark) (n k : ℕ) → k < n → temp k ≢ absent → none_there temp n ≡ false
some_there temp n k l there = false_from_ne_true (none_there temp n) (λ none. there (none_there_each temp n none k l))

job_shown_is : (n : ℕ) (c : Mark) (t : ℕ → Mark) (s : JobState) → JobShown n c t s → s ≡ shown_state n c t
job_shown_is n c t s (anew gone) = rw gone refl
job_shown_is n c t s (going there least l at before) =
    let some = some_there t n least l at in
    let same = least_unique t n least (least_there t n) (record { below = l; there = at; none_before = before }) (least_is_least t n some) in
    rw (there, some) (ap Going same)
job_shown_is n c t s (done there gone) =
    let none = none_there_from t n gone in
    rw (there, none) refl

pub shown_at : (steps : List ℕ) (m : Marking) (j : ℕ) → j < length steps
    → get_or (shown_states steps m) j Done ≡ shown_state (get_or steps j 0) (m.commit j) (m.temp j)
shown_at steps m j l =
    let f : ℕ → JobState = λ (i : ℕ). shown_state (get_or steps i 0) (m.commit i) (m.temp i) in
    get_or-map-range_with_len f 0 (length steps) j j Done l (omega arith)

pub length_shown : (steps : List ℕ) (m : Marking) → length (shown_states steps m) ≡ length steps
length_shown steps m = length-map-range_with_len (λ (i : ℕ). shown_state (get_or steps i 0) (m.commit i) (m.temp i)) 0 (length steps)

states_are : (steps : List ℕ) (m : Marking) (ss : List JobState) → length ss ≡ length steps → EachShown steps ss m → ss ≡ shown_states steps m
states_are steps m ss same shown = ext_get_or Done ss (shown_states steps m) (same ∙ sym (length_shown steps m))
    (λ j l. let inside : j < length steps = omega arith in job_shown_is _ _ _ _ (shown j inside) ∙ sym (shown_at steps m j inside))

only_unplanned : (steps : List ℕ) (m : Marking) → IsUnplanned steps m → (c : CoreState) → Shown steps m c → c ≡ new_core steps
only_unplanned steps m h c (Shown.unplanned k) = refl
only_unplanned steps m h c (Shown.underway k same shown) = let e : false ≡ true = subst (λ (x : Mark). is_own x ≡ true) h.rest.plan k.plan in cc
only_unplanned steps m h c (Shown.finished k) = let e : absent ≡ whole = sym (h.rest.final 3 (omega arith)) ∙ k.final 3 (omega arith) in cc
only_unplanned steps m h c (Shown.old k) = let e : absent ≡ earlier = sym (h.rest.final 3 (omega arith)) ∙ k.finished in cc

only_underway : (steps : List ℕ) (m : Marking) → IsUnderway steps m → (c : CoreState) → Shown steps m c → c ≡ resumed_core steps (shown_states steps m)
only_underway steps m h c (Shown.unplanned k) = let e : false ≡ true = subst (λ (x : Mark). is_own x ≡ true) k.rest.plan h.plan in cc
only_underway steps m h c (Shown.underway k same shown) = ap (resumed_core steps) (states_are steps m _ same shown)
only_underway steps m h c (Shown.finished k) = let e : absent ≡ whole = sym h.finished ∙ k.final 3 (omega arith) in cc
only_underway steps m h c (Shown.old k) = let e : absent ≡ earlier = sym h.finished ∙ k.finished in cc

only_finished : (steps : List ℕ) (m : Marking) → IsFinished steps m → (c : CoreState) → Shown steps m c → c ≡ closed_core
only_finished steps m h c (Shown.unplanned k) = let e : absent ≡ whole = sym (k.rest.final 3 (omega arith)) ∙ h.final 3 (omega arith) in cc
only_finished steps m h c (Shown.underway k same shown) = let e : absent ≡ whole = sym k.finished ∙ h.final 3 (omega arith) in cc
only_finished steps m h c (Shown.finished k) = refl
only_finished steps m h c (Shown.old k) = let e : earlier ≡ whole = sym k.finished ∙ h.final 3 (omega arith) in cc

only_old : (steps : List ℕ) (m : Marking) → IsOld steps m → (c : CoreState) → Shown steps m c → c ≡ old_core
only_old steps m h c (Shown.unplanned k) = let e : absent ≡ earlier = sym (k.rest.final 3 (omega arith)) ∙ h.finished in cc
only_old steps m h c (Shown.underway k same shown) = let e : absent ≡ earlier = sym k.finished ∙ h.finished in cc
only_old steps m h c (Shown.finished k) = let e : earlier ≡ whole = sym h.finished ∙ k.final 3 (omega arith) in cc
only_old steps m h c (Shown.old k) = refl

own_any : (x : Mark) → IsTrue (is_own x) → is_any x ≡ true
own_any absent h = cc
own_any first h = cc
own_any whole h = refl
own_any any h = cc
own_any earlier h = refl

unplanned_core : (steps : List ℕ) (m : Marking) → IsUnplanned steps m → shown_core steps m ≡ new_core steps
unplanned_core steps m h = rw (h.rest.final 3 (omega arith), h.rest.plan) refl

underway_core : (steps : List ℕ) (m : Marking) → IsUnderway steps m → shown_core steps m ≡ resumed_core steps (shown_states steps m)
underway_core steps m h = rw (h.finished, own_any m.plan h.plan) refl

finished_core : (steps : List ℕ) (m : Marking) → IsFinished steps m → shown_core steps m ≡ closed_core
finished_core steps m h = rw (h.final 3 (omega arith)) refl

old_is : (steps : List ℕ) (m : Marking) → IsOld steps m → shown_core steps m ≡ old_core
old_is steps m h = rw h.finished refl

pub shape_shown : EveryShapeShown
shape_shown steps m (HasShape.unplanned h) = let e = unplanned_core steps m h in record {
  shown = subst (λ (c : CoreState). Shown steps m c) (sym e) (Shown.unplanned h);
  only = λ o k. only_unplanned steps m h o k ∙ sym e;
}
shape_shown steps m (HasShape.underway h) = let e = underway_core steps m h in record {
  shown = subst (λ (c : CoreState). Shown steps m c) (sym e) (Shown.underway h (length_shown steps m) (each_shown steps m h));
  only = λ o k. only_underway steps m h o k ∙ sym e;
}
shape_shown steps m (HasShape.finished h) = let e = finished_core steps m h in record {
  shown = subst (λ (c : CoreState). Shown steps m c) (sym e) (Shown.finished h);
  only = λ o k. only_finished steps m h o k ∙ sym e;
}
shape_shown steps m (HasShape.old h) = let e = old_is steps m h in record {
  shown = subst (λ (c : CoreState). Shown steps m c) (sym e) (Shown.old h);
  only = λ o k. only_old steps m h o k ∙ sym e;
}

-- ### A settle changes nothing of it

job_settled : (n : ℕ) (c : Mark) (t : ℕ → Mark) (s : JobState) → JobShown n c t s → settled_job s ≡ s
job_settled n c t s (anew gone) = refl
job_settled n c t s (going there least l at before) = refl
job_settled n c t s (done there gone) = refl

states_settled : (ss : List JobState) → ((j : ℕ) → j < length ss → settled_job (get_or ss j Done) ≡ get_or ss j Done) → map settled_job ss ≡ ss
states_settled ss each = ext_get_or Done (map settled_job ss) ss (length-map ss settled_job)
    (λ j l. settled_at ss j ∙ each j (omega (arith, length-map ss settled_job)))

new_settled : (n j : ℕ) → settled_job (get_or (replicate n (Fresh 0)) j Done) ≡ get_or (replicate n (Fresh 0)) j Done
new_settled n j = elim (cases_lt j n) [
  | inl l ↦ rw (get_or-replicate n j (Fresh 0) Done l) refl
  | inr l ↦ rw (get_or_past (replicate n (Fresh 0)) j Done (omega (arith, length-replicate n (Fresh 0)))) refl
]

pub shown_settled : EveryShownSettled
shown_settled steps m c (Shown.unplanned h) = ap (λ (ss : List JobState). record { phase = Empty; steps = steps; states = ss }) (states_settled _ (λ j l. new_settled (length steps) j))
shown_settled steps m c (Shown.underway h same shown) = ap (resumed_core steps) (states_settled _ (λ j l. job_settled _ _ _ _ (shown j (omega (arith, same)))))
shown_settled steps m c (Shown.finished h) = refl
shown_settled steps m c (Shown.old h) = refl

-- ### What is shown fits

shown_fits : (n : ℕ) (c : Mark) (t : ℕ → Mark) (s : JobState) → 0 < n → JobShown n c t s → IsTrue (fits n s)
shown_fits n c t s some (anew gone) = lt-ltb 0 n some
shown_fits n c t s some (going there least l at before) = lt-ltb least n l
shown_fits n c t s some (done there gone) = refl

-- so a core can be resumed with the states that a marking shows
pub shown_are_fit : (steps : List ℕ) (ss : List JobState) (m : Marking) → EachHasStep steps → length ss ≡ length steps → EachShown steps ss m → AreFit steps ss
shown_are_fit steps ss m some same shown = record {
  same_length = same;
  has_step = some;
  each_fits = λ j l. shown_fits _ _ _ _ (some j l) (shown j l);
}

pub underway_fit : EveryShownFit
underway_fit steps m some h = shown_are_fit steps (shown_states steps m) m some (length_shown steps m) (each_shown steps m h)
