-- The core that a start begins with is the one that the names in its work folder show.
use Rattle.std.proofs.Common.{Bor, ◌≡◌, ℕ, zero, suc, ◌+◌, ◌<◌, Bool, true, false, ◌&&◌, ◌||◌, cond, List, [], ◌∷◌, ◌++◌, length, get_or, take, refl, sym, ◌∙◌, ap, subst, inl, inr, arith, IsTrue, lt-ltb}
use Rattle.std.specs.Cmp.Lexicographic.{nat_list_eq_equiv}
use Rattle.std.proofs.Math.Seq.{take-suc}
use Rattle.std.specs.Str.{bytes_eq}
use Rattle.std.specs.Prelude.{Result, Ok, Err, IsOkAnd, IfOk}
use Rattle.std.specs.List.{list_any}
use Rattle.std.proofs.lemmas.Bool.{cases_eq, cases_Bool}
use Rattle.std.proofs.lemmas.List.{ext_get_or, get_or_push, get_or_append_left, length-append}
use Rattle.std.proofs.lemmas.List.Folds.{list_any_more}
use Rattle.journal_core.specs.declared.event.JobState.{JobState}
use Rattle.journal_core.specs.declared.event.JobState.TheVariants.{Fresh, Going, Done}
use Rattle.journal_core.specs.Fit.{fits, AreFit}
use Rattle.journal_core.specs.Marks.{Mark, absent, any, is_absent, is_any}
use Rattle.journal_core.specs.Shapes.{none_there}
use Rattle.journal_core.specs.Starts.{least_there, shown_state, shown_states}
use Rattle.journal_core.specs.Table.{CoreState, resumed_core}
use Rattle.journal_core.proofs.Starts.{shown_at, length_shown}
use Rattle.work_journal.specs.Views.{MakerView, Makes, IsMaker}
use Rattle.work_journal.specs.Work.{has_path, presence}
use Rattle.work_journal.specs.Rounds.{is_found, IsBegun}
use Rattle.work_journal.specs.Begun.{state_by, AreShown}

-- ### The set of paths

or_by : (b old : Bool) → cond b true old ≡ (old || b)
or_by true true = refl
or_by true false = refl
or_by false true = refl
or_by false false = refl

pub set_more : (paths : List (List ℕ)) (i : ℕ) (key q d : List ℕ) (new old : Bool) → i < length paths → key ≡ get_or paths i d → new ≡ cond (bytes_eq key q) true old → old ≡ has_path (take i paths) q → new ≡ has_path (take (i + 1) paths) q
set_more paths i key q d new old l is updates so_far =
    updates ∙ or_by (bytes_eq key q) old
    ∙ ap (λ (b : Bool). b || bytes_eq key q) so_far
    ∙ ap (λ (b : Bool). has_path (take i paths) q || b) (nat_list_eq_equiv.symm key q ∙ ap (λ (k : List ℕ). bytes_eq q k) is)
    ∙ sym (list_any_more (bytes_eq q) paths i d l)

-- what the set answers of a path
pub has_as : (present : List (List ℕ)) (keys : List (Bor (List ℕ))) (path q : List ℕ) (r b : Bool) → ((p : List ℕ) → list_any (λ k. bytes_eq p k.now) keys ≡ has_path present p)
    → r ≡ list_any (λ k. bytes_eq path k.now) keys → path ≡ q → r ≡ b → has_path present q ≡ b
has_as present keys path q r b all value at is = ap (λ (p : List ℕ). has_path present p) (sym at) ∙ sym (all path) ∙ sym value ∙ is

-- ### One job

none_below : (temp : ℕ → Mark) (n k : ℕ) → k < n → temp k ≡ any → none_there temp n ≡ false
none_below temp zero k l there = absurd (omega arith)
none_below temp (suc n) k l there = elim (cases_eq k n) [
  | inl here ↦ rw (ap temp (sym here) ∙ there) refl
  | inr other ↦ (let before : none_there temp n ≡ false = none_below temp n k (omega (arith, other)) there in rw before (and_false (is_absent (temp n))))
]
  where
    and_false : (b : Bool) → (b && false) ≡ false
    and_false true = refl
    and_false false = refl

least_is : (temp : ℕ → Mark) (n k : ℕ) → k < n → temp k ≡ any → none_there temp k ≡ true → least_there temp n ≡ k
least_is temp zero k l there none = absurd (omega arith)
least_is temp (suc n) k l there none = elim (cases_eq k n) [
  | inl here ↦ (let all : none_there temp n ≡ true = ap (λ (i : ℕ). none_there temp i) (sym here) ∙ none in rw all (sym here))
  | inr other ↦ (let below : k < n = omega (arith, other) in let some : none_there temp n ≡ false = none_below temp n k below there in rw some (least_is temp n k below there none))
]

pub going_shown : (n k : ℕ) (commit : Mark) (temp : ℕ → Mark) → k < n → commit ≡ any → temp k ≡ any → none_there temp k ≡ true → shown_state n commit temp ≡ Going k
going_shown n k commit temp l there at none = rw (there, none_below temp n k l at, least_is temp n k l at none) refl

pub done_shown : (n : ℕ) (commit : Mark) (temp : ℕ → Mark) → commit ≡ any → none_there temp n ≡ true → shown_state n commit temp ≡ Done
done_shown n commit temp there none = rw (there, none) refl

pub none_more : (temp : ℕ → Mark) (k next : ℕ) → next ≡ suc k → none_there temp k ≡ true → temp k ≡ absent → none_there temp next ≡ true
none_more temp k next at none gone = ap (λ (i : ℕ). none_there temp i) at ∙ (rw (gone, none) refl)

least_below : (temp : ℕ → Mark) (n : ℕ) → none_there temp n ≡ false → least_there temp n < n
least_below temp zero h = absurd (let d : true ≡ false = h in cc)
least_below temp (suc n) h = elim (cases_Bool (none_there temp n)) [
  | inl none ↦ rw none (omega arith)
  | inr some ↦ (let below : least_there temp n < n = least_below temp n some in rw some (omega (arith, below)))
]

state_fits : (n : ℕ) (commit : Mark) (temp : ℕ → Mark) → 0 < n → IsTrue (fits n (shown_state n commit temp))
state_fits n commit temp some = by_mark (is_any commit) (none_there temp n) refl
  where
    by_mark : (c b : Bool) → none_there temp n ≡ b → IsTrue (fits n (cond c (cond b Done (Going (least_there temp n))) (Fresh 0)))
    by_mark true true e = refl
    by_mark true false e = lt-ltb (least_there temp n) n (least_below temp n e)
    by_mark false b e = lt-ltb 0 n some

state_found : (n : ℕ) (commit : Mark) (temp : ℕ → Mark) → IsTrue (is_found n (shown_state n commit temp))
state_found n commit temp = by_mark (is_any commit) (none_there temp n) refl
  where
    by_mark : (c b : Bool) → none_there temp n ≡ b → IsTrue (is_found n (cond c (cond b Done (Going (least_there temp n))) (Fresh 0)))
    by_mark true true e = refl
    by_mark true false e = lt-ltb (least_there temp n) n (least_below temp n e)
    by_mark false b e = refl

-- ### All jobs

push_other : {A : Type 0} (xs : List A) (x d : A) (i : ℕ) → i < length xs → get_or (xs ++ x ∷ []) i d ≡ get_or xs i d
push_other xs x d i l = get_or_append_left xs (x ∷ []) d i l

pub shown_more : (work : List ℕ) (paths : List (List ℕ)) (all steps more : List ℕ) (states others : List JobState) (job next n : ℕ) (s : JobState) → next ≡ suc job → AreShown work paths all steps states job
    → n ≡ get_or all job 0 → s ≡ state_by work paths job n → more ≡ steps ++ n ∷ [] → others ≡ states ++ s ∷ [] → AreShown work paths all more others next
shown_more work paths all steps more states others job next n s at a is of m o = record {
  same_steps = ap (λ (l : List ℕ). length l) m ∙ length-append steps (n ∷ []) ∙ (let e = a.same_steps in omega (arith, e, at));
  same_states = ap (λ (l : List JobState). length l) o ∙ length-append states (s ∷ []) ∙ (let e = a.same_states in omega (arith, e, at));
  steps_are = λ j l. ap (λ (l : List ℕ). get_or l j 0) m ∙ elim (cases_eq j job) [
    | inl here ↦ get_or_push steps n 0 j (a.same_steps ∙ sym here) ∙ is ∙ ap (λ (i : ℕ). get_or all i 0) (sym here)
    | inr other ↦ push_other steps n 0 j (let e = a.same_steps in omega (arith, e, other, l, at)) ∙ a.steps_are j (omega (arith, other, l, at))
  ];
  states_are = λ j l. ap (λ (l : List JobState). get_or l j Done) o ∙ elim (cases_eq j job) [
    | inl here ↦ get_or_push states s Done j (a.same_states ∙ sym here) ∙ of ∙ ap (λ (i : ℕ). state_by work paths job i) is ∙ ap (λ (i : ℕ). state_by work paths i (get_or all i 0)) (sym here)
    | inr other ↦ push_other states s Done j (let e = a.same_states in omega (arith, e, other, l, at)) ∙ a.states_are j (omega (arith, other, l, at))
  ];
}

steps_same : (work : List ℕ) (paths : List (List ℕ)) (all steps : List ℕ) (states : List JobState) → AreShown work paths all steps states (length all) → steps ≡ all
steps_same work paths all steps states a = ext_get_or 0 steps all a.same_steps (λ i l. a.steps_are i (let e = a.same_steps in omega (arith, e)))

states_same : (work : List ℕ) (paths : List (List ℕ)) (all steps : List ℕ) (states : List JobState) → AreShown work paths all steps states (length all) → states ≡ shown_states all (presence false work paths)
unfolding presence
states_same work paths all steps states a = ext_get_or Done states (shown_states all (presence false work paths)) (a.same_states ∙ sym (length_shown all (presence false work paths)))
    (λ i l. let inside : i < length all = (let e = a.same_states in omega (arith, e)) in a.states_are i inside ∙ sym (shown_at all (presence false work paths) i inside))

pub shown_fit : (work : List ℕ) (paths : List (List ℕ)) (v : MakerView) (makes : Makes) (steps : List ℕ) (states : List JobState) → IsMaker v makes → AreShown work paths v.steps steps states (length v.steps) → AreFit steps states
shown_fit work paths v makes steps states maker a = record {
  same_length = a.same_states ∙ sym a.same_steps;
  has_step = λ j l. let inside : j < length v.steps = (let e = a.same_steps in omega (arith, e)) in subst (λ (n : ℕ). 0 < n) (sym (a.steps_are j inside)) (maker.some j inside);
  each_fits = λ j l. let inside : j < length v.steps = (let e = a.same_steps in omega (arith, e)) in
      subst (λ (n : ℕ). IsTrue (fits n (get_or states j Done))) (sym (a.steps_are j inside))
      (subst (λ (s : JobState). IsTrue (fits (get_or v.steps j 0) s)) (sym (a.states_are j inside)) (state_fits (get_or v.steps j 0) _ _ (maker.some j inside)));
}

pub shown_core_is : (work : List ℕ) (paths : List (List ℕ)) (all steps : List ℕ) (states : List JobState) (c : CoreState) → AreShown work paths all steps states (length all) → c ≡ resumed_core steps states → c ≡ resumed_core all (shown_states all (presence false work paths))
shown_core_is work paths all steps states c a is = is ∙ ap (λ (l : List ℕ). resumed_core l states) (steps_same work paths all steps states a) ∙ ap (λ (l : List JobState). resumed_core all l) (states_same work paths all steps states a)

pub shown_begun : (work : List ℕ) (paths : List (List ℕ)) (v : MakerView) (steps : List ℕ) (states : List JobState) (c : CoreState) → AreShown work paths v.steps steps states (length v.steps) → c ≡ resumed_core steps states → IsBegun v c
shown_begun work paths v steps states c a is = subst (λ (x : CoreState). IsBegun v x) (sym is) (record {
  under = record { running = refl; steps_are = steps_same work paths v.steps steps states a; same_length = a.same_states };
  found = λ i l. subst (λ (s : JobState). IsTrue (is_found (get_or v.steps i 0) s)) (sym (a.states_are i l)) (state_found (get_or v.steps i 0) _ _);
})

-- a value of which this holds, whatever it holds of
pub if_core : {A E : Type 0} (r : Result A E) (P Q : A → Type 0) → IsOkAnd r P → ((x : A) → P x → Q x) → IfOk r Q
if_core (Ok x) P Q h all = all x h
if_core (Err e) P Q h all = tt

-- ### The steps alone

pub steps_more : (all steps more : List ℕ) (job n : ℕ) → job < length all → n ≡ get_or all job 0 → steps ≡ take job all → more ≡ steps ++ n ∷ [] → more ≡ take (job + 1) all
steps_more all steps more job n l is so_far made =
    let one : suc job ≡ job + 1 = omega arith in
    made ∙ ap (λ (s : List ℕ). s ++ n ∷ []) so_far ∙ ap (λ (x : ℕ). take job all ++ x ∷ []) is ∙ sym (take-suc all job 0 l) ∙ ap (λ (k : ℕ). take k all) one
