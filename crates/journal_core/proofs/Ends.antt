-- The two ends of a run: a marking of a shape shows its core, and the relation gives a shape.
use Rattle.std.proofs.Common.{◌≡◌, ◌≢◌, ℕ, suc, zero, ◌<◌, ◌≤◌, Bool, true, false, ◌&&◌, cond, ltb, List, length, get_or, refl, sym, ◌∙◌, ap, subst, inl, inr, arith, IsTrue, lt-ltb, le-ltb, ltb-true}
use Rattle.std.proofs.lemmas.Bool.{cases_eq, cases_lt, and_parts, and_from}
use Rattle.std.proofs.lemmas.List.{get_or_past, length-replicate, get_or-replicate}
use Rattle.journal_core.specs.declared.event.JobState.{JobState}
use Rattle.journal_core.specs.declared.event.JobState.TheVariants.{Fresh, Staged, Ready, Going, Done}
use Rattle.journal_core.specs.Names.{EachHasStep}
use Rattle.journal_core.specs.Table.{CoreState, is_done}
use Rattle.journal_core.specs.Marks.{Mark, Marking, absent, first, whole, any, is_absent, is_any, earlier}
use Rattle.journal_core.specs.Shapes.{IsUntouched, IsLeft, IsMoved, JobShape, untouched, committed, none_there, is_job_done, waiting, IsUnderway, HasShape}
use Rattle.journal_core.specs.Relation.{ahead, EachDone, free, staged, safe, moved, SlotShows, IsPut, JobShows, IsLive, Shows, empty, proposed, settled, running, finishing, closing, closed, renewing}
use Rattle.journal_core.specs.Starts.{JobShown, anew, going, done, EachShown, Shown}
use Rattle.journal_core.proofs.Rows.{is-done, done_is, one_less}
use Rattle.journal_core.proofs.Ending.{any_loose, whole_loose, row_nothing}

-- ### Names that are there

pub absent_is : (x : Mark) → IsTrue (is_absent x) → x ≡ absent
absent_is absent h = refl
absent_is first h = cc
absent_is whole h = cc
absent_is any h = cc
absent_is earlier h = cc

pub is-absent : (x : Mark) → x ≡ absent → IsTrue (is_absent x)
is-absent x e = rw e refl

pub any_there : (x : Mark) → IsTrue (is_any x) → x ≢ absent
any_there absent h e = let b : false ≡ true = h in cc
any_there first h e = cc
any_there whole h e = cc
any_there any h e = cc
any_there earlier h e = cc

pub none_there_from : (t : ℕ → Mark) (n : ℕ) → ((k : ℕ) → k < n → t k ≡ absent) → IsTrue (none_there t n)
none_there_from t zero each = refl
none_there_from t (suc n) each =
    and_from (is_absent (t n)) (none_there t n) (is-absent (t n) (each n (omega arith))) (none_there_from t n (λ k l. each k (omega arith)))

pub none_there_each : (t : ℕ → Mark) (n : ℕ) → IsTrue (none_there t n) → (k : ℕ) → k < n → t k ≡ absent
none_there_each t zero h k l = absurd (omega arith)
none_there_each t (suc n) h k l =
    let parts = and_parts (is_absent (t n)) (none_there t n) h in
    elim (cases_eq k n) [
      | inl e ↦ ap t e ∙ absent_is (t n) parts.0
      | inr o ↦ none_there_each t n parts.1 k (omega arith)
    ]

-- ### From the relation to a shape

put_untouched : (t g : Mark) → IsPut is_any t g → IsUntouched t g
put_untouched t g h = record { temp_loose = any_loose t h.temp_put; target_first = h.target_first }

left_untouched : (t g : Mark) → IsLeft t g → IsUntouched t g
left_untouched t g h = record { temp_loose = whole_loose t h.temp_whole; target_first = h.target_first }

fresh_untouched : (b : Bool) (t g : Mark) → SlotShows is_any (cond b staged free) t g → IsUntouched t g
fresh_untouched true t g h = put_untouched t g h
fresh_untouched false t g h = h

row_shape : (n : ℕ) (s : JobState) (c : Mark) (t g : ℕ → Mark) → JobShows is_any n s c t g → JobShape n c t g
row_shape n (Fresh v) c t g h = untouched h.commit_shows (λ k l. fresh_untouched (ltb k v) (t k) (g k) (h.slots k l))
row_shape n Staged c t g h = untouched h.commit_shows (λ k l. put_untouched (t k) (g k) (h.slots k l))
row_shape n Ready c t g h = untouched h.commit_shows (λ k l. left_untouched (t k) (g k) (h.slots k l))
row_shape n (Going v) c t g h =
    let vn : v < n = ltb-true v n h.fit in
    committed h.commit_shows v (omega arith)
    (λ k l. let b : k < n = omega arith in
    subst (λ (x : Bool). SlotShows is_any (cond x moved safe) (t k) (g k)) (lt-ltb k v l) (h.slots k b))
    (λ k l b. subst (λ (x : Bool). SlotShows is_any (cond x moved safe) (t k) (g k)) (le-ltb k v l) (h.slots k b))
row_shape n Done c t g h = committed h.commit_shows n (omega arith) (λ k l. h.slots k l) (λ k l b. absurd (omega arith))

-- a job that is done is done over the marks too
done_shown : (p : Mark → Bool) (steps : List ℕ) (n : ℕ) (c : Mark) (t g : ℕ → Mark) → JobShows p n Done c t g → IsTrue (is_any c && none_there t n)
done_shown p steps n c t g h =
    and_from (is_any c) (none_there t n) h.commit_shows (none_there_from t n (λ k l. (h.slots k l).temp_gone))

live_done : (p : Mark → Bool) (steps : List ℕ) (ss : List JobState) (m : Marking) (j : ℕ)
    → IsLive p steps ss m → j < length steps → IsTrue (is_done (get_or ss j Done)) → IsTrue (is_job_done steps m j)
live_done p steps ss m j live l d =
    done_shown p steps (get_or steps j 0) (m.commit j) (m.temp j) (m.target j)
    (subst (λ (s : JobState). JobShows p (get_or steps j 0) s (m.commit j) (m.temp j) (m.target j)) (done_is _ d) (live.jobs j l))

waiting-le-ahead : (p : Mark → Bool) (steps : List ℕ) (ss : List JobState) (m : Marking)
    → IsLive p steps ss m → (j : ℕ) → j ≤ length steps → waiting steps m j ≤ ahead ss j
waiting-le-ahead p steps ss m live zero l = omega arith
waiting-le-ahead p steps ss m live (suc j) l =
    let before = waiting-le-ahead p steps ss m live j (omega arith) in
    let here = one_less (is_done (get_or ss j Done)) (is_job_done steps m j) (live_done p steps ss m j live (omega arith)) in
    omega arith

live_shape : (steps : List ℕ) (ss : List JobState) (m : Marking) → IsLive is_any steps ss m → IsUnderway steps m
live_shape steps ss m h = record {
  plan_new = h.plan_new;
  plan = h.plan;
  finished = h.finished;
  jobs = λ j l. row_shape _ _ _ _ _ (h.jobs j l);
  window = λ j k st there.
      let few : ahead ss j < 64 = h.window j k st there in
      let inside : j < length steps = st.job_in in
      let fewer = waiting-le-ahead is_any steps ss m h j (omega arith) in
      omega arith;
  fresh = h.fresh;
  lists = h.lists;
  end_last = elim h.end_last [
    | inl each ↦ inl (λ j l. live_done is_any steps ss m j h l (is-done _ (each j)))
    | inr none ↦ inr none
  ];
}

-- what the torn reading shows has a shape
pub shows_shape : (steps : List ℕ) (c : CoreState) (m : Marking) → Shows is_any steps c m → HasShape steps m
shows_shape steps c m (empty early loose) = HasShape.unplanned (record { plan_new = loose; rest = early.rest })
shows_shape steps c m (proposed early is_put) = HasShape.unplanned (record { plan_new = any_loose _ is_put; rest = early.rest })
shows_shape steps c m (settled early is_whole) = HasShape.unplanned (record { plan_new = whole_loose _ is_whole; rest = early.rest })
shows_shape steps c m (running live) = HasShape.underway (live_shape _ _ _ live)
shows_shape steps c m (finishing h) = HasShape.underway (live_shape _ _ _ h.live)
shows_shape steps c m (closing h) = HasShape.underway (live_shape _ _ _ h.live)
shows_shape steps c m (closed each shape) = HasShape.finished shape
shows_shape steps c m (renewing each shape text kept) = HasShape.old shape

-- ### From a shape to the relation

-- the least temporary name of a committed job is the first that isn't moved
least_is : (n v least : ℕ) (t g : ℕ → Mark) → least < n → t least ≢ absent → ((k : ℕ) → k < least → t k ≡ absent) → v ≤ n
    → ((k : ℕ) → k < v → IsMoved (t k) (g k)) → ((k : ℕ) → v ≤ k → k < n → IsLeft (t k) (g k)) → v ≡ least
least_is n v least t g l there before vn gone left = elim (cases_lt least v) [
  | inl b ↦ absurd (there (gone least b).temp_gone)
  | inr b ↦ elim (cases_lt v least) [
    | inl a ↦ let e : absent ≡ whole = sym (before v a) ∙ (left v (omega arith) (omega arith)).temp_whole in cc
    | inr a ↦ omega arith
  ]
]

row_going : (p : Mark → Bool) (n least : ℕ) (c : Mark) (t g : ℕ → Mark) → IsTrue (is_any c) → least < n
    → ((k : ℕ) → k < least → IsMoved (t k) (g k)) → ((k : ℕ) → least ≤ k → k < n → IsLeft (t k) (g k)) → JobShows p n (Going least) c t g
row_going p n least c t g is_there l gone left = record {
  fit = lt-ltb least n l;
  commit_shows = is_there;
  slots = λ k b. elim (cases_lt k least) [
    | inl a ↦ subst (λ (x : Bool). SlotShows p (cond x moved safe) (t k) (g k)) (sym (lt-ltb k least a)) (gone k a)
    | inr a ↦ subst (λ (x : Bool). SlotShows p (cond x moved safe) (t k) (g k)) (sym (le-ltb k least a)) (left k a b)
  ];
}

shown_row : (p : Mark → Bool) (n : ℕ) (c : Mark) (t g : ℕ → Mark) (s : JobState) → 0 < n → JobShown n c t s → JobShape n c t g → JobShows p n s c t g
shown_row p n c t g s some (anew gone) (untouched e each) = row_nothing p n c t g some gone each
shown_row p n c t g s some (anew gone) (committed is_there v vn moved_first left) = absurd (any_there c is_there gone)
shown_row p n c t g s some (going is_there least l there before) (untouched e each) = absurd (any_there c is_there e)
shown_row p n c t g s some (going is_there least l there before) (committed also v vn moved_first left) =
    let e = least_is n v least t g l there before vn moved_first left in
    row_going p n least c t g is_there l (λ k b. moved_first k (omega arith)) (λ k b d. left k (omega arith) d)
shown_row p n c t g s some (done is_there gone) (untouched e each) = absurd (any_there c is_there e)
shown_row p n c t g s some (done is_there gone) (committed also v vn moved_first left) = record {
  fit = refl;
  commit_shows = is_there;
  slots = λ k b. elim (cases_lt k v) [
    | inl a ↦ moved_first k a
    | inr a ↦ let e : absent ≡ whole = sym (gone k b) ∙ (left k a b).temp_whole in cc
  ];
}

-- a job that is done over the marks is shown as done
done_state : (n : ℕ) (c : Mark) (t : ℕ → Mark) (s : JobState) → JobShown n c t s → IsTrue (is_any c && none_there t n) → IsTrue (is_done s)
done_state n c t s (anew gone) h = absurd (any_there c (and_parts (is_any c) (none_there t n) h).0 gone)
done_state n c t s (going is_there least l there before) h =
    absurd (there (none_there_each t n (and_parts (is_any c) (none_there t n) h).1 least l))
done_state n c t s (done is_there gone) h = refl

ahead-le-waiting : (steps : List ℕ) (ss : List JobState) (m : Marking) → EachShown steps ss m
    → (j : ℕ) → j ≤ length steps → ahead ss j ≤ waiting steps m j
ahead-le-waiting steps ss m shown zero l = omega arith
ahead-le-waiting steps ss m shown (suc j) l =
    let before = ahead-le-waiting steps ss m shown j (omega arith) in
    let here = one_less (is_job_done steps m j) (is_done (get_or ss j Done)) (done_state _ _ _ _ (shown j (omega arith))) in
    omega arith

each_done : (steps : List ℕ) (ss : List JobState) (m : Marking) → length ss ≡ length steps → EachShown steps ss m
    → ((j : ℕ) → j < length steps → IsTrue (is_job_done steps m j)) → EachDone ss
each_done steps ss m same shown each j = elim (cases_lt j (length steps)) [
  | inl l ↦ done_is _ (done_state _ _ _ _ (shown j l) (each j l))
  | inr l ↦ get_or_past ss j Done (omega arith)
]

shown_live : (p : Mark → Bool) (steps : List ℕ) (ss : List JobState) (m : Marking) → EachHasStep steps
    → IsUnderway steps m → length ss ≡ length steps → EachShown steps ss m → IsLive p steps ss m
shown_live p steps ss m some h same shown = record {
  same_length = same;
  plan_new = h.plan_new;
  plan = h.plan;
  finished = h.finished;
  jobs = λ j l. shown_row p _ _ _ _ _ (some j l) (shown j l) (h.jobs j l);
  window = λ j k st there.
      let few : waiting steps m j < 64 = h.window j k st there in
      let inside : j < length steps = st.job_in in
      let fewer = ahead-le-waiting steps ss m shown j (omega arith) in
      omega arith;
  fresh = h.fresh;
  lists = h.lists;
  end_last = elim h.end_last [
    | inl each ↦ inl (each_done steps ss m same shown each)
    | inr none ↦ inr none
  ];
}

-- a marking of a shape shows its core, in every reading
pub shown_shows : (p : Mark → Bool) (steps : List ℕ) (m : Marking) (c : CoreState) → EachHasStep steps → Shown steps m c → Shows p steps c m
shown_shows p steps m c some (Shown.unplanned h) = empty (record {
  same_length = length-replicate (length steps) (Fresh 0);
  none_begun = λ j l. get_or-replicate (length steps) j (Fresh 0) Done l;
  rest = h.rest;
}) h.plan_new
shown_shows p steps m c some (Shown.underway h same shown) = running (shown_live p _ _ _ some h same shown)
shown_shows p steps m c some (Shown.finished h) = closed (λ j. refl) h
shown_shows p steps m c some (Shown.old h) = renewing (λ j. refl) h (λ f. let e : false ≡ true = f in cc) (λ f g. let e : false ≡ true = f in cc)
