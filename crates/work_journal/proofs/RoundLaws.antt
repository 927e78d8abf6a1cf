-- Rounds of a run: jobs that an earlier start left, jobs that are taken, and the end of all.
use Rattle.std.proofs.Common.{◌≡◌, ◌≢◌, ℕ, suc, zero, ◌+◌, ◌<◌, ◌≤◌, Bool, true, false, eq-eqb, ne_eqb, List, [], ◌∷◌, length, get_or, refl, sym, ◌∙◌, ap, subst, inl, inr, arith, IsTrue}
use Rattle.std.specs.Prelude.{◌-◌, ◌*◌, ◌/◌, ◌%◌, if◌then◌else◌, Result, Ok, Err, IsErr, IsErrAnd}
use Rattle.std.proofs.lemmas.Bool.{cases_Bool, cases_eq, cases_lt}
use Rattle.std.proofs.lemmas.Nat.{le-div}
use Rattle.std.proofs.lemmas.Result.{err_from_is_err_and}
use native.Mathlib.Nat.{add-mul, div-add-mod'}
use Rattle.std.proofs.lemmas.List.{get_or_past}
use Rattle.journal_core.specs.declared.event.JobState.{JobState}
use Rattle.journal_core.specs.declared.event.JobState.TheVariants.{Fresh, Staged, Ready, Going, Done}
use Rattle.journal_core.specs.Calls.{is_uncommitted}
use Rattle.journal_core.specs.Table.{CoreState, state_of, with_state, is_done}
use Rattle.journal_core.specs.Relation.{ahead}
use Rattle.work_journal.specs.declared.rounds.Round.{Round}
use Rattle.work_journal.specs.Views.{MakerView}
use Rattle.work_journal.specs.Groups.{is_new, IsGroup}
use Rattle.work_journal.specs.Rounds.{is_found, IsBegun, IsMending, IsRound, is_moving, IsMoving, AreCalm, AreDone, rounds_of, settles_so_far, settles_of_one, IsCounted}
use Rattle.work_journal.specs.declared.job_err.JobErr.{JobErr}
use Rattle.work_journal.proofs.GoesLaws.{err_is}
use Rattle.work_journal.proofs.GroupLaws.{at_here, at_other, group_next, ahead_staged, ahead_none}

-- ### Jobs that an earlier start left

pub mending_begins : (v : MakerView) (c : CoreState) → IsBegun v c → IsMending v c 0
mending_begins v c b = record { under = b.under; mended = λ i l. absurd (omega arith); found = λ i l m. b.found i m }

found_new : (n : ℕ) (s : JobState) → IsTrue (is_found n s) → ((k : ℕ) → s ≢ Going k) → IsTrue (is_new s)
found_new n (Fresh k) h ne = h
found_new n Staged h ne = cc
found_new n Ready h ne = cc
found_new n (Going k) h ne = absurd (ne k refl)
found_new n Done h ne = refl

pub mending_skips : (v : MakerView) (c : CoreState) (job next : ℕ) → next ≡ suc job → job < length v.steps → IsMending v c job → ((k : ℕ) → state_of c job ≢ Going k) → IsMending v c next
mending_skips v c job next at l m ne = record {
  under = m.under;
  mended = λ i n. elim (cases_eq i job) [
    | inl here ↦ subst (λ (y : ℕ). IsTrue (is_new (state_of c y))) (sym here) (found_new (get_or v.steps job 0) (state_of c job) (m.found job (omega arith) l) ne)
    | inr other ↦ m.mended i (elim (cases_lt i job) [ inl h ↦ h | inr h ↦ absurd (other (omega arith)) ])
  ];
  found = λ i n k. m.found i (omega arith) k;
}

-- all are as at first or done, so a first round begins
pub mending_ends : (v : MakerView) (c : CoreState) (job : ℕ) → job ≡ length v.steps → IsMending v c job → IsGroup v c 0 0
mending_ends v c job all m = record {
  under = m.under;
  before = λ i l. absurd (omega arith);
  staged = λ i l n. absurd (omega arith);
  rest = λ i l. elim (cases_lt i job) [
    | inl here ↦ m.mended i here
    | inr past ↦ subst (λ (s : JobState). IsTrue (is_new s)) (sym (get_or_past c.states i Done (let n = m.under.same_length in omega (arith, n)))) refl
  ];
}

-- ### Jobs that aren't being moved

moving_committed : (s : JobState) → is_moving s ≡ true → is_uncommitted s ≡ false
moving_committed (Fresh k) m = let f : false ≡ true = m in absurd (cc)
moving_committed Staged m = let f : false ≡ true = m in absurd (cc)
moving_committed Ready m = let f : false ≡ true = m in absurd (cc)
moving_committed (Going k) m = refl
moving_committed Done m = refl

moving_there : (ss : List JobState) (j : ℕ) → is_moving (get_or ss j Done) ≡ true → j < length ss
moving_there [] j m = let f : false ≡ true = m in absurd (cc)
moving_there (s ∷ ss) zero m = omega arith
moving_there (s ∷ ss) (suc j) m = let l = moving_there ss j m in omega (arith, l)

pub calm_same : (c d : CoreState) → d ≡ c → AreCalm c d
calm_same c d e = record {
  same = λ i n. ap (λ (x : CoreState). state_of x i) e;
  moved = λ i m. ap (λ (x : CoreState). is_uncommitted (state_of x i)) e ∙ moving_committed (state_of c i) m;
}

pub calm_then : (c d e : CoreState) → AreCalm c d → AreCalm d e → AreCalm c e
calm_then c d e a b = record {
  same = λ i n. b.same i (ap (λ (s : JobState). is_moving s) (a.same i n) ∙ n) ∙ a.same i n;
  moved = λ i m. elim (cases_Bool (is_moving (state_of d i))) [
    | inl still ↦ b.moved i still
    | inr done ↦ ap (λ (s : JobState). is_uncommitted s) (b.same i done) ∙ a.moved i m
  ];
}

pub moving_at : (c : CoreState) (job k j : ℕ) → state_of c job ≡ Going k → j ≡ job → IsMoving c j
moving_at c job k j is e = subst (λ (y : ℕ). IsMoving c y) (sym e) (rw is refl)

pub calm_moved : (c d : CoreState) (job k : ℕ) → state_of c job ≡ Going k → d ≡ with_state c job Done → AreCalm c d
calm_moved c d job k is e = record {
  same = λ i n. ap (λ (x : CoreState). state_of x i) e
      ∙ at_other c job i Done (λ (h : i ≡ job). let f : true ≡ false = sym (moving_at c job k i is h) ∙ n in cc);
  moved = λ i m. ap (λ (x : CoreState). is_uncommitted (state_of x i)) e ∙ elim (cases_eq i job) [
    | inl here ↦ ap (λ (y : ℕ). is_uncommitted (state_of (with_state c job Done) y)) here
        ∙ ap (λ (s : JobState). is_uncommitted s) (at_here c job Done (moving_there c.states job (moving_at c job k job is refl)))
    | inr other ↦ ap (λ (s : JobState). is_uncommitted s) (at_other c job i Done other) ∙ moving_committed (state_of c i) m
  ];
}

-- what is being moved was so before
pub calm_moving : (c d : CoreState) → AreCalm c d → (j : ℕ) → IsMoving d j → IsMoving c j
calm_moving c d a j is = elim (cases_Bool (is_moving (state_of c j))) [
  | inl y ↦ y
  | inr n ↦ absurd (let f : true ≡ false = sym is ∙ ap (λ (s : JobState). is_moving s) (a.same j n) ∙ n in cc)
]

-- ### Rounds

pub round_begins : (v : MakerView) (c : CoreState) (r : Round) (in_flight : ℕ) → r.first ≡ 0 → r.taken ≡ 0 → 0 < in_flight → IsGroup v c 0 0 → IsRound v c r 0 in_flight
round_begins v c r in_flight f t some g = record {
  group = subst (λ (x : ℕ). IsGroup v c x 0) (sym f) g;
  order = omega (arith, f);
  count = sym t;
  few = omega (arith, t);
}

pub round_next : (v : MakerView) (c d : CoreState) (r s : Round) (job next in_flight : ℕ) → next ≡ suc job → job < length v.steps → s.first ≡ r.first → s.taken ≡ suc r.taken → s.taken < in_flight
    → IsRound v c r job in_flight → d ≡ with_state c job Staged → IsRound v d s next in_flight
round_next v c d r s job next in_flight at l first taken few r_is e = record {
  group = subst (λ (x : ℕ). IsGroup v d x next) (sym first) (group_next v c d r.first job next at r_is.order l r_is.group e);
  order = let o = r_is.order in omega (arith, o, first);
  count = ahead_staged c d job next r.taken s.taken at taken (let n = r_is.group.under.same_length in omega (arith, n)) e r_is.count;
  few = few;
}

pub round_anew : (v : MakerView) (c : CoreState) (r : Round) (job in_flight : ℕ) → r.first ≡ job → r.taken ≡ 0 → 0 < in_flight → IsGroup v c job job → IsRound v c r job in_flight
round_anew v c r job in_flight f t some g = record {
  group = subst (λ (x : ℕ). IsGroup v c x job) (sym f) g;
  order = omega (arith, f);
  count = ahead_none c job g.before ∙ sym t;
  few = omega (arith, t);
}

-- ### The end

ahead_all : (c : CoreState) (n : ℕ) → ahead c.states n ≡ 0 → (i : ℕ) → i < n → state_of c i ≡ Done
ahead_all c zero e i l = absurd (omega arith)
ahead_all c (suc n) e i l = last (λ h k m. ahead_all c n h k m) (state_of c n) refl
  where
    last : (ahead c.states n ≡ 0 → (k : ℕ) → k < n → state_of c k ≡ Done) → (s : JobState) → state_of c n ≡ s → state_of c i ≡ Done
    last before (Fresh k) is = absurd (let f : ahead c.states n + 1 ≡ 0 = rw is at e in omega (arith, f))
    last before Staged is = absurd (let f : ahead c.states n + 1 ≡ 0 = rw is at e in omega (arith, f))
    last before Ready is = absurd (let f : ahead c.states n + 1 ≡ 0 = rw is at e in omega (arith, f))
    last before (Going k) is = absurd (let f : ahead c.states n + 1 ≡ 0 = rw is at e in omega (arith, f))
    last before Done is = elim (cases_eq i n) [
      | inl here ↦ ap (λ (y : ℕ). state_of c y) here ∙ is
      | inr other ↦ before (let f : ahead c.states n + 0 ≡ 0 = rw is at e in omega (arith, f)) i (elim (cases_lt i n) [ inl h ↦ h | inr h ↦ absurd (other (omega arith)) ])
    ]

pub round_empty : (v : MakerView) (c : CoreState) (r : Round) (job in_flight : ℕ) → job ≡ length v.steps → r.taken ≡ 0 → IsRound v c r job in_flight → AreDone v c
round_empty v c r job in_flight all none r_is = record {
  under = r_is.group.under;
  each = λ i l. ahead_all c job (r_is.count ∙ none) i (omega arith);
}

-- ### Settles

ahead_step : (a n : ℕ) (b : Bool) → a ≤ n → a + (if b then 0 else 1) ≤ suc n
ahead_step a n true l = omega (arith, l)
ahead_step a n false l = omega (arith, l)

ahead_most : (ss : List JobState) (n : ℕ) → ahead ss n ≤ n
ahead_most ss zero = omega arith
ahead_most ss (suc n) = ahead_step (ahead ss n) n (is_done (get_or ss n Done)) (ahead_most ss n)

pub taken_most : (v : MakerView) (c : CoreState) (r : Round) (job in_flight : ℕ) → IsRound v c r job in_flight → r.taken ≤ job
taken_most v c r job in_flight r_is = let e : ahead c.states job ≡ r.taken = r_is.count in let l = ahead_most c.states job in omega (arith, e, l)

same_first : (r s : Round) → s.first ≡ r.first → settles_of_one r (Ok s) ≡ 0
same_first r s e = rw (eq-eqb s.first r.first e) refl

pub later_first : (r s : Round) → r.first < s.first → settles_of_one r (Ok s) ≡ 1
later_first r s l = let ne : s.first ≢ r.first = λ (e : s.first ≡ r.first). omega (arith, e, l) in rw (ne_eqb s.first r.first ne) refl

pub one_at_err : (r : Round) (a : Result Round JobErr) → IsErr a → settles_of_one r a ≡ 1
one_at_err r (Ok s) is = let d : false ≡ true = is in absurd (cc)
one_at_err r (Err e) is = refl

pub one_if_err : (r : Round) (a : Result Round JobErr) (x : JobErr) → IsErrAnd a (λ y. y ≡ x) → 1 ≤ settles_of_one r a
one_if_err r a x is =
    let p = err_from_is_err_and a is in
    rw (one_at_err r a (err_is a p.0 p.1)) (omega arith)

pub one_if_later : (r s : Round) → r.first < s.first → 1 ≤ settles_of_one r (Ok s)
one_if_later r s l = rw (later_first r s l) (omega arith)

pub counted_same : (r s : Round) (in_flight : ℕ) → s.first ≡ r.first → s.taken ≤ r.taken + 1 → IsCounted r s in_flight
counted_same r s in_flight e l = record { counted = rw (same_first r s e) (omega (arith, l)) }

pub counted_full : (r s : Round) (in_flight : ℕ) → r.first < s.first → s.taken ≡ 0 → in_flight ≤ r.taken + 1 → IsCounted r s in_flight
counted_full r s in_flight l z full = record { counted = rw (later_first r s l) (omega (arith, z, full)) }

-- whole parts of a number, and more of them
parts_add : (n a b m : ℕ) → 0 < n → m * n + a ≤ b → a / n + m ≤ b / n
parts_add n a b m some l =
    let e : (a / n + m) * n ≡ a / n * n + m * n = add-mul (a / n) m n in
    let k : a / n * n + a % n ≡ a = div-add-mod' a n in
    le-div (a / n + m) b n some (omega (arith, e, k, l))

-- another job after those so far
pub settles_next : (r s : Round) (a : Result Round JobErr) (job next in_flight : ℕ) → 0 < in_flight → next ≡ suc job → r.taken ≤ job → a ≡ Ok s → IsCounted r s in_flight
    → (job - r.taken) / in_flight + settles_of_one r a ≤ (next - s.taken) / in_flight
settles_next r s a job next in_flight some at most is counted =
    let l = counted.counted in
    rw is (parts_add in_flight (job - r.taken) (next - s.taken) (settles_of_one r (Ok s)) some (omega (arith, at, most, l)))

-- or one that isn't taken
pub settles_broke : (r : Round) (a b : Result Round JobErr) (job jobs in_flight : ℕ) → 0 < in_flight → job < jobs → IsErr a → IsErr b
    → (job - r.taken) / in_flight + settles_of_one r a ≤ settles_so_far jobs in_flight b
settles_broke r a (Ok s) job jobs in_flight some l is_a is_b = let d : false ≡ true = is_b in absurd (cc)
settles_broke r a (Err e) job jobs in_flight some l is_a is_b = rw (one_at_err r a is_a) (parts_add in_flight (job - r.taken) (jobs + (in_flight - 1)) 1 some (omega (arith, l, some)))

pub broke_all : (r : Round) (a : Result Round JobErr) (b : Result Round JobErr) (x : JobErr) (job jobs in_flight : ℕ) → 0 < in_flight → job < jobs → a ≡ Err x → IsErrAnd b (λ y. y ≡ x)
    → (job - r.taken) / in_flight + settles_of_one r a ≤ settles_so_far jobs in_flight b
broke_all r a b x job jobs in_flight some l is_a is_b =
    let p = err_from_is_err_and b is_b in
    settles_broke r a b job jobs in_flight some l (err_is a x is_a) (err_is b p.0 p.1)

-- where all jobs are over
pub settles_end : (r s : Round) (job jobs in_flight : ℕ) → job ≡ jobs → r ≡ s → (job - r.taken) / in_flight ≤ settles_so_far jobs in_flight (Ok s)
settles_end r s job jobs in_flight all same = rw (all, same) (omega arith)

-- all rounds, of which the last isn't full
pub settles_last : (s : Round) (a : Result Round JobErr) (jobs in_flight : ℕ) → 0 < in_flight → a ≡ Ok s → s.taken ≢ 0 → s.taken ≤ jobs
    → 0 + settles_so_far jobs in_flight a + 1 ≤ rounds_of jobs in_flight
settles_last s a jobs in_flight some is taken most =
    let l = parts_add in_flight (jobs - s.taken) (jobs + (in_flight - 1)) 1 some (omega (arith, taken, most, some)) in
    rw is (omega (arith, l))

pub settles_all : (s : Round) (a : Result Round JobErr) (jobs in_flight : ℕ) → 0 < in_flight → a ≡ Ok s → 0 + settles_so_far jobs in_flight a ≤ rounds_of jobs in_flight
settles_all s a jobs in_flight some is =
    let l = parts_add in_flight (jobs - s.taken) (jobs + (in_flight - 1)) 0 some (omega (arith, some)) in
    rw is (omega (arith, l))

pub settles_failed : (x : JobErr) (a : Result Round JobErr) (jobs in_flight : ℕ) → a ≡ Err x → 0 + settles_so_far jobs in_flight a ≤ rounds_of jobs in_flight
settles_failed x a jobs in_flight is = rw is (omega arith)
