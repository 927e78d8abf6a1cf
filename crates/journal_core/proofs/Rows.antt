-- Rows of marks and of states: what a write leaves, and how many jobs are ahead of one.
use Rattle.std.proofs.Common.{◌≡◌, ◌≢◌, ℕ, suc, zero, ◌+◌, ◌-◌, ◌<◌, ◌≤◌, Bool, true, false, cond, List, [], ◌∷◌, map, length, get_or, set, refl, sym, subst, inl, inr, arith, IsTrue, eq-eqb, ne_eqb, get_or-set_other}
use Rattle.std.proofs.lemmas.Bool.{cases_eq, cases_lt, and_parts}
use Rattle.std.proofs.lemmas.List.{get_or_past}
use Rattle.journal_core.specs.declared.event.JobState.{JobState}
use Rattle.journal_core.specs.declared.event.JobState.TheVariants.{Fresh, Staged, Ready, Going, Done}
use Rattle.journal_core.specs.Table.{is_done, all_done, settled_job}
use Rattle.journal_core.specs.Marks.{Mark, with_one, with_step}
use Rattle.journal_core.specs.Relation.{ahead, EachDone}

-- ### Marks

pub with_one_here : (f : ℕ → Mark) (j : ℕ) (x : Mark) → with_one f j x j ≡ x
with_one_here f j x = rw (eq-eqb j j refl) refl

pub with_one_at : (f : ℕ → Mark) (j i : ℕ) (x : Mark) → i ≡ j → with_one f j x i ≡ x
with_one_at f j i x e = rw (eq-eqb i j e) refl

pub with_one_other : (f : ℕ → Mark) (j i : ℕ) (x : Mark) → i ≢ j → with_one f j x i ≡ f i
with_one_other f j i x ne = rw (ne_eqb i j ne) refl

-- the row of the job that is written, and the rows of the others
pub with_step_here : (f : ℕ → ℕ → Mark) (j k : ℕ) (x : Mark) → with_step f j k x j ≡ with_one (f j) k x
with_step_here f j k x = rw (eq-eqb j j refl) refl

pub with_step_other : (f : ℕ → ℕ → Mark) (j k i : ℕ) (x : Mark) → i ≢ j → with_step f j k x i ≡ f i
with_step_other f j k i x ne = rw (ne_eqb i j ne) refl

-- ### States

-- a state at another default is of a job that is in the list, if it isn't done
pub is_inside : (ss : List JobState) (j : ℕ) → get_or ss j Done ≢ Done → j < length ss
is_inside ss j ne = elim (cases_lt j (length ss)) [ inl h ↦ h | inr h ↦ absurd (ne (get_or_past ss j Done h)) ]

pub done_is : (s : JobState) → IsTrue (is_done s) → s ≡ Done
done_is (Fresh n) h = cc
done_is Staged h = cc
done_is Ready h = cc
done_is (Going n) h = cc
done_is Done h = refl

pub is-done : (s : JobState) → s ≡ Done → IsTrue (is_done s)
is-done s e = rw e refl

pub all_done_each : (ss : List JobState) → IsTrue (all_done ss) → EachDone ss
all_done_each [] h j = refl
all_done_each (s ∷ ss) h zero = done_is s (and_parts (is_done s) (all_done ss) h).0
all_done_each (s ∷ ss) h (suc j) = all_done_each ss (and_parts (is_done s) (all_done ss) h).1 j

pub settled_at : (ss : List JobState) (j : ℕ) → get_or (map settled_job ss) j Done ≡ settled_job (get_or ss j Done)
settled_at [] j = refl
settled_at (s ∷ ss) zero = refl
settled_at (s ∷ ss) (suc j) = settled_at ss j

pub settled_done : (s : JobState) → IsTrue (is_done s) → IsTrue (is_done (settled_job s))
settled_done (Fresh n) h = cc
settled_done Staged h = cc
settled_done Ready h = cc
settled_done (Going n) h = cc
settled_done Done h = refl

-- ### Jobs ahead

pub one_less : (a b : Bool) → (IsTrue a → IsTrue b) → cond b 0 1 ≤ cond a 0 1
one_less true true h = omega arith
one_less true false h = absurd (let e : false ≡ true = h refl in cc)
one_less false true h = omega arith
one_less false false h = omega arith

-- where done jobs stay done, no more are ahead
pub ahead-less : (ss ts : List JobState) → ((i : ℕ) → IsTrue (is_done (get_or ss i Done)) → IsTrue (is_done (get_or ts i Done)))
    → (n : ℕ) → ahead ts n ≤ ahead ss n
ahead-less ss ts stay zero = omega arith
ahead-less ss ts stay (suc n) =
    let before : ahead ts n ≤ ahead ss n = ahead-less ss ts stay n in
    let here = one_less (is_done (get_or ss n Done)) (is_done (get_or ts n Done)) (stay n) in
    omega arith

-- a job that isn't done takes another state
pub ahead-set : (ss : List JobState) (j : ℕ) (s : JobState) → get_or ss j Done ≢ Done → (n : ℕ) → ahead (set ss j s) n ≤ ahead ss n
ahead-set ss j s ne n = ahead-less ss (set ss j s)
    (λ i h. elim (cases_eq i j) [
      | inl e ↦ absurd (ne (done_is _ (subst (λ (l : ℕ). IsTrue (is_done (get_or ss l Done))) e h)))
      | inr other ↦ rw (get_or-set_other ss j i s Done other) h
    ])
    n

-- where the first so many jobs are done, at most the rest is ahead
pub ahead-most : (ss : List JobState) (done : ℕ) → ((i : ℕ) → i < done → get_or ss i Done ≡ Done) → (n : ℕ) → ahead ss n ≤ n - done
ahead-most ss done each zero = omega arith
ahead-most ss done each (suc n) =
    let before : ahead ss n ≤ n - done = ahead-most ss done each n in
    elim (cases_lt n done) [
      | inl l ↦ subst (λ (b : Bool). ahead ss n + cond b 0 1 ≤ suc n - done) (sym (is-done _ (each n l))) (omega arith)
      | inr l ↦ let one = at_most_one (is_done (get_or ss n Done)) in omega arith
    ]
  where
    at_most_one : (b : Bool) → cond b 0 1 ≤ 1
    at_most_one true = omega arith
    at_most_one false = omega arith
