-- The plan's adoption, the four texts of the end, and the clearing keep the relation.
use Rattle.std.proofs.Common.{◌≡◌, ◌≢◌, ℕ, suc, ◌<◌, ◌≤◌, Bool, true, false, List, length, get_or, refl, sym, ◌∙◌, ap, subst, inl, inr, arith, IsTrue, eq-eqb, ne_eqb, lt-ltb, le-ltb}
use Rattle.std.proofs.lemmas.Bool.{cases_eq, cases_lt}
use Rattle.std.proofs.lemmas.List.{get_or_past}
use Rattle.journal_core.specs.declared.event.JobState.{JobState}
use Rattle.journal_core.specs.declared.event.JobState.TheVariants.{Fresh, Done}
use Rattle.journal_core.specs.declared.event.Phase.{Phase}
use Rattle.journal_core.specs.declared.event.Phase.TheVariants.{Closing, Closed}
use Rattle.journal_core.specs.Names.{IsStep, EachHasStep, Name, plan_new, plan, temp, commit, fresh, final, target, IsClearable}
use Rattle.journal_core.specs.Table.{is_ready, is_going, closed_next}
use Rattle.journal_core.specs.Marks.{Mark, Marking, absent, first, whole, any, is_any, is_loose, is_kept, marked, with_one, with_step, earlier, is_own}
use Rattle.journal_core.specs.Shapes.{IsUntouched, IsFinished, IsOld}
use Rattle.journal_core.specs.Relation.{JobShows, EachDone, IsEarly, IsLive, IsFinishing, Shows, closing, closed}
use Rattle.journal_core.proofs.Rows.{with_one_at, with_one_other, with_step_here, with_step_other, with_one_here}

-- ### Soft marks

pub absent_loose : (x : Mark) → x ≡ absent → IsTrue (is_loose x)
absent_loose x e = rw e refl

pub absent_kept : (x : Mark) → x ≡ absent → IsTrue (is_kept x)
absent_kept x e = rw e refl

pub whole_loose : (x : Mark) → x ≡ whole → IsTrue (is_loose x)
whole_loose x e = rw e refl

pub whole_kept : (x : Mark) → x ≡ whole → IsTrue (is_kept x)
whole_kept x e = rw e refl

pub any_loose : (x : Mark) → IsTrue (is_any x) → IsTrue (is_loose x)
any_loose absent h = cc
any_loose first h = cc
any_loose whole h = refl
any_loose any h = refl
any_loose earlier h = refl

pub whole_own : (x : Mark) → x ≡ whole → IsTrue (is_own x)
whole_own x e = rw e refl

pub own_kept : (x : Mark) → IsTrue (is_own x) → IsTrue (is_kept x)
own_kept absent h = cc
own_kept first h = cc
own_kept whole h = refl
own_kept any h = cc
own_kept earlier h = refl

-- ### No job's event can come yet, or any more

pub early_not_ready : (steps : List ℕ) (ss : List JobState) (m : Marking) (j : ℕ) → IsEarly steps ss m → IsTrue (is_ready (get_or ss j Done)) → ⊥
early_not_ready steps ss m j h ready = elim (cases_lt j (length steps)) [
  | inl l ↦ let e : false ≡ true = subst (λ (s : JobState). is_ready s ≡ true) (h.none_begun j l) ready in cc
  | inr l ↦ let past : length ss ≤ j = rw h.same_length l in
      let e : false ≡ true = subst (λ (s : JobState). is_ready s ≡ true) (get_or_past ss j Done past) ready in cc
]

pub early_not_going : (steps : List ℕ) (ss : List JobState) (m : Marking) (j k : ℕ) → IsEarly steps ss m → IsTrue (is_going (get_or ss j Done) k) → ⊥
early_not_going steps ss m j k h going = elim (cases_lt j (length steps)) [
  | inl l ↦ let e : false ≡ true = subst (λ (s : JobState). is_going s k ≡ true) (h.none_begun j l) going in cc
  | inr l ↦ let past : length ss ≤ j = rw h.same_length l in
      let e : false ≡ true = subst (λ (s : JobState). is_going s k ≡ true) (get_or_past ss j Done past) going in cc
]

pub done_not_ready : (ss : List JobState) (j : ℕ) → EachDone ss → IsTrue (is_ready (get_or ss j Done)) → ⊥
done_not_ready ss j done ready = let e : false ≡ true = subst (λ (s : JobState). is_ready s ≡ true) (done j) ready in cc

pub done_not_going : (ss : List JobState) (j k : ℕ) → EachDone ss → IsTrue (is_going (get_or ss j Done) k) → ⊥
done_not_going ss j k done going = let e : false ≡ true = subst (λ (s : JobState). is_going s k ≡ true) (done j) going in cc

-- ### The plan

-- a job of which nothing is there
pub row_nothing : (p : Mark → Bool) (n : ℕ) (c : Mark) (t g : ℕ → Mark) → 0 < n → c ≡ absent
    → ((k : ℕ) → k < n → IsUntouched (t k) (g k)) → JobShows p n (Fresh 0) c t g
row_nothing p n c t g some gone each = record {
  fit = lt-ltb 0 n some;
  commit_shows = gone;
  slots = λ k l. let none : 0 ≤ k = omega arith in rw (le-ltb k 0 none) (each k l);
}

-- the settled plan is renamed to its name
pub adopted : (p : Mark → Bool) (steps : List ℕ) (ss : List JobState) (m : Marking)
    → EachHasStep steps → IsEarly steps ss m → m.plan_new ≡ whole
    → IsLive p steps ss (marked (marked m plan m.plan_new) plan_new absent)
adopted p steps ss m some h is_new = record {
  same_length = h.same_length;
  plan_new = refl;
  plan = whole_own _ is_new;
  finished = h.rest.final 3 (omega arith);
  jobs = λ j l. subst (λ (s : JobState). JobShows p (get_or steps j 0) s (m.commit j) (m.temp j) (m.target j)) (sym (h.none_begun j l))
      (row_nothing p _ _ _ _ (some j l) (h.rest.commit j l) (λ k b.
      let st : IsStep steps j k = record { job_in = l; step_in = b } in
      record { temp_loose = absent_loose _ (h.rest.temp j k st); target_first = h.rest.target j k st }));
  window = λ j k st there. absurd (there (h.rest.temp j k st));
  fresh = λ i l. absent_loose _ (h.rest.fresh i l);
  lists = λ i l. absent_kept _ (h.rest.final i (omega arith));
  end_last = inr (record { fresh = h.rest.fresh; final = h.rest.final });
}

-- ### The four texts of the end

-- where all jobs are done, the texts of the end may change
pub live_end : (p : Mark → Bool) (steps : List ℕ) (ss : List JobState) (m : Marking) (f g : ℕ → Mark)
    → IsLive p steps ss m → EachDone ss
    → ((i : ℕ) → i < 4 → IsTrue (is_loose (f i))) → ((i : ℕ) → i < 3 → IsTrue (is_kept (g i))) → g 3 ≡ absent
    → IsLive p steps ss (record m { fresh = f; final = g })
live_end p steps ss m f g h done loose kept unfinished = record {
  same_length = h.same_length;
  plan_new = h.plan_new;
  plan = h.plan;
  finished = unfinished;
  jobs = h.jobs;
  window = h.window;
  fresh = loose;
  lists = kept;
  end_last = inl done;
}

-- one more of them is put
pub finished_more : (p : Mark → Bool) (x : Mark) (steps : List ℕ) (ss : List JobState) (m : Marking) (part : ℕ)
    → IsTrue (p x) → IsTrue (is_any x) → IsLive p steps ss m → EachDone ss → part < 4
    → ((i : ℕ) → i < part → IsTrue (p (m.fresh i)))
    → IsFinishing p steps ss (marked m (fresh part) x) (suc part) false
finished_more p x steps ss m part px ax live done small before = record {
  live = live_end p steps ss m (with_one m.fresh part x) m.final live done
      (λ i l. elim (cases_eq i part) [
        | inl e ↦ rw (with_one_at m.fresh part i x e) (any_loose x ax)
        | inr o ↦ rw (with_one_other m.fresh part i x o) (live.fresh i l)
      ])
      live.lists live.finished;
  all_done = done;
  some_put = omega arith;
  at_most = omega arith;
  are_put = λ i l. elim (cases_eq i part) [
    | inl e ↦ rw (with_one_at m.fresh part i x e) px
    | inr o ↦ rw (with_one_other m.fresh part i x o) (before i (let b : i < part = omega arith in b))
  ];
  all_put = λ e. cc;
  are_settled = λ e. cc;
}

-- what is there of a job that is done
pub row_done : (p : Mark → Bool) (steps : List ℕ) (ss : List JobState) (m : Marking) (j : ℕ)
    → IsLive p steps ss m → EachDone ss → j < length steps
    → JobShows p (get_or steps j 0) Done (m.commit j) (m.temp j) (m.target j)
row_done p steps ss m j live done l =
    subst (λ (s : JobState). JobShows p (get_or steps j 0) s (m.commit j) (m.temp j) (m.target j)) (done j) (live.jobs j l)

-- one more of them is renamed to its name; after the last the run is closed
pub closed_more : (p : Mark → Bool) (steps : List ℕ) (ss : List JobState) (m : Marking) (part : ℕ)
    → IsLive p steps ss m → EachDone ss → part < 4
    → ((i : ℕ) → i < part → m.fresh i ≡ absent) → ((i : ℕ) → i < part → m.final i ≡ whole)
    → ((i : ℕ) → part ≤ i → i < 4 → m.fresh i ≡ whole)
    → Shows p steps (record { phase = closed_next part; steps = steps; states = ss })
    (marked (marked m (final part) (m.fresh part)) (fresh part) absent)
closed_more p steps ss m part live done small gone there left =
    let f = with_one m.fresh part absent in
    let g = with_one m.final part (m.fresh part) in
    let whole_here : m.fresh part ≡ whole = left part (omega arith) small in
    let gone_now : (i : ℕ) → i < suc part → f i ≡ absent = λ i l. elim (cases_eq i part) [
      | inl e ↦ with_one_at m.fresh part i absent e
      | inr o ↦ with_one_other m.fresh part i absent o ∙ gone i (let b : i < part = omega arith in b)
    ] in
    let there_now : (i : ℕ) → i < suc part → g i ≡ whole = λ i l. elim (cases_eq i part) [
      | inl e ↦ with_one_at m.final part i (m.fresh part) e ∙ whole_here
      | inr o ↦ with_one_other m.final part i (m.fresh part) o ∙ there i (let b : i < part = omega arith in b)
    ] in
    elim (cases_eq part 3) [
      | inl e ↦ subst (λ (x : Phase). Shows p steps (record { phase = x; steps = steps; states = ss }) (record m { fresh = f; final = g }))
          (sym (last_phase part e))
          (closed done (record {
            plan_new = live.plan_new;
            plan = own_kept _ live.plan;
            temp = λ j k st. ((row_done p steps ss m j live done st.job_in).slots k st.step_in).temp_gone;
            commit = λ j l. any_loose _ (row_done p steps ss m j live done l).commit_shows;
            fresh = λ i l. gone_now i (let b : i < suc part = omega arith in b);
            final = λ i l. there_now i (let b : i < suc part = omega arith in b);
            target = λ j k st. ((row_done p steps ss m j live done st.job_in).slots k st.step_in).target_whole;
          }))
      | inr o ↦ subst (λ (x : Phase). Shows p steps (record { phase = x; steps = steps; states = ss }) (record m { fresh = f; final = g }))
          (sym (next_phase part o))
          (closing (record {
            live = live_end p steps ss m f g live done
                (λ i l. elim (cases_eq i part) [
                  | inl e ↦ absent_loose _ (with_one_at m.fresh part i absent e)
                  | inr d ↦ rw (with_one_other m.fresh part i absent d) (live.fresh i l)
                ])
                (λ i l. elim (cases_eq i part) [
                  | inl e ↦ whole_kept _ (with_one_at m.final part i (m.fresh part) e ∙ whole_here)
                  | inr d ↦ rw (with_one_other m.final part i (m.fresh part) d) (live.lists i l)
                ])
                (with_one_other m.final part 3 (m.fresh part) (λ e. o (sym e)) ∙ live.finished);
            all_done = done;
            some_moved = omega arith;
            at_most = omega arith;
            gone = gone_now;
            there = there_now;
            left = λ i l b. with_one_other m.fresh part i absent (let d : i ≢ part = omega arith in d) ∙ left i (let a : part ≤ i = omega arith in a) b;
          }))
    ]
  where
    last_phase : (part : ℕ) → part ≡ 3 → closed_next part ≡ Closed
    last_phase part e = rw (eq-eqb part 3 e) refl

    next_phase : (part : ℕ) → part ≢ 3 → closed_next part ≡ Closing (suc part)
    next_phase part o = rw (ne_eqb part 3 o) refl

-- ### The clearing

-- a name of the work is removed
pub cleared : (steps : List ℕ) (m : Marking) (n : Name) → IsClearable n → IsFinished steps m → IsFinished steps (marked m n absent)
cleared steps m plan_new may h = record {
  plan_new = refl;
  plan = h.plan;
  temp = h.temp;
  commit = h.commit;
  fresh = h.fresh;
  final = h.final;
  target = h.target;
}
cleared steps m plan may h = record {
  plan_new = h.plan_new;
  plan = refl;
  temp = h.temp;
  commit = h.commit;
  fresh = h.fresh;
  final = h.final;
  target = h.target;
}
cleared steps m (temp job step) may h = record {
  plan_new = h.plan_new;
  plan = h.plan;
  temp = λ j k st. elim (cases_eq j job) [
    | inl e ↦ ap (λ (i : ℕ). with_step m.temp job step absent i k) e ∙ ap (λ (r : ℕ → Mark). r k) (with_step_here m.temp job step absent)
        ∙ elim (cases_eq k step) [
          | inl d ↦ with_one_at (m.temp job) step k absent d
          | inr d ↦ with_one_other (m.temp job) step k absent d ∙ ap (λ (i : ℕ). m.temp i k) (sym e) ∙ h.temp j k st
        ]
    | inr o ↦ ap (λ (r : ℕ → Mark). r k) (with_step_other m.temp job step j absent o) ∙ h.temp j k st
  ];
  commit = h.commit;
  fresh = h.fresh;
  final = h.final;
  target = h.target;
}
cleared steps m (commit job) may h = record {
  plan_new = h.plan_new;
  plan = h.plan;
  temp = h.temp;
  commit = λ j l. elim (cases_eq j job) [
    | inl e ↦ absent_loose _ (with_one_at m.commit job j absent e)
    | inr o ↦ rw (with_one_other m.commit job j absent o) (h.commit j l)
  ];
  fresh = h.fresh;
  final = h.final;
  target = h.target;
}
cleared steps m (fresh part) may h = record {
  plan_new = h.plan_new;
  plan = h.plan;
  temp = h.temp;
  commit = h.commit;
  fresh = λ i l. elim (cases_eq i part) [
    | inl e ↦ with_one_at m.fresh part i absent e
    | inr o ↦ with_one_other m.fresh part i absent o ∙ h.fresh i l
  ];
  final = h.final;
  target = h.target;
}
cleared steps m (final part) may h = absurd may
cleared steps m (target job step) may h = absurd may

-- ### The finished text anew

-- it is put beside that of an earlier program
pub put_again : (x : Mark) (steps : List ℕ) (m : Marking) → IsTrue (is_any x) → IsOld steps m → IsOld steps (marked m (fresh 3) x)
put_again x steps m ax h = record {
  plan_new = h.plan_new;
  plan = h.plan;
  temp = h.temp;
  commit = h.commit;
  fresh = λ i l. with_one_other m.fresh 3 i x (let o : i ≢ 3 = omega arith in o) ∙ h.fresh i l;
  last = subst (λ (y : Mark). IsTrue (is_loose y)) (sym (with_one_here m.fresh 3 x)) (any_loose x ax);
  final = h.final;
  finished = h.finished;
  target = h.target;
}

pub put_gone : (steps : List ℕ) (m : Marking) → IsOld steps m → IsOld steps (marked m (fresh 3) absent)
put_gone steps m h = record {
  plan_new = h.plan_new;
  plan = h.plan;
  temp = h.temp;
  commit = h.commit;
  fresh = λ i l. with_one_other m.fresh 3 i absent (let o : i ≢ 3 = omega arith in o) ∙ h.fresh i l;
  last = absent_loose _ (with_one_here m.fresh 3 absent);
  final = h.final;
  finished = h.finished;
  target = h.target;
}

-- and renamed to its name
pub replaced : (steps : List ℕ) (m : Marking) → IsOld steps m → m.fresh 3 ≡ whole → IsFinished steps (marked (marked m (final 3) (m.fresh 3)) (fresh 3) absent)
replaced steps m h e = record {
  plan_new = h.plan_new;
  plan = h.plan;
  temp = h.temp;
  commit = h.commit;
  fresh = λ i l. elim (cases_eq i 3) [
    | inl t ↦ with_one_at m.fresh 3 i absent t
    | inr o ↦ with_one_other m.fresh 3 i absent o ∙ h.fresh i (omega arith)
  ];
  final = λ i l. elim (cases_eq i 3) [
    | inl t ↦ with_one_at m.final 3 i (m.fresh 3) t ∙ e
    | inr o ↦ with_one_other m.final 3 i (m.fresh 3) o ∙ h.final i (omega arith)
  ];
  target = h.target;
}
