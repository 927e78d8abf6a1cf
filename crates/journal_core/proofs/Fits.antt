-- The lists of a core fit one another, and every next state keeps them so.
use Rattle.std.proofs.Common.{◌≡◌, ◌≢◌, ℕ, suc, zero, ◌<◌, true, ◌&&◌, ltb, List, [], ◌∷◌, map, length, get_or, set, replicate, refl, ap, subst, arith, IsTrue, ltb-true, lt-ltb}
use Rattle.std.proofs.lemmas.Bool.{and_parts, and_from}
use Rattle.journal_core.specs.declared.event.JobState.{JobState}
use Rattle.journal_core.specs.declared.event.JobState.TheVariants.{Fresh, Staged, Ready, Going, Done}
use Rattle.journal_core.specs.Names.{EachHasStep}
use Rattle.journal_core.specs.Fit.{fits, are_fit, AreFit}
use Rattle.journal_core.specs.Table.{is_fresh, is_ready, is_going, staged_next, moved_next, settled_job}
use Rattle.journal_core.proofs.Rows.{is_inside}
use Rattle.journal_core.proofs.Jobs.{staged_fits, moved_fits}
use Rattle.journal_core.proofs.JobEvents.{fresh_is, ready_is, going_is, fresh_not_done, ready_not_done, going_not_done}

-- what the test says of one job, and of the lists
pub fit_length : (ns : List ℕ) (ss : List JobState) → IsTrue (are_fit ns ss) → length ss ≡ length ns
fit_length [] [] h = refl
fit_length [] (s ∷ ss) h = cc
fit_length (n ∷ ns) [] h = cc
fit_length (n ∷ ns) (s ∷ ss) h = ap suc (fit_length ns ss (and_parts (ltb 0 n && fits n s) (are_fit ns ss) h).1)

pub fit_some : (ns : List ℕ) (ss : List JobState) (j : ℕ) → IsTrue (are_fit ns ss) → j < length ns → 0 < get_or ns j 0
fit_some [] ss j h l = absurd (omega arith)
fit_some (n ∷ ns) [] j h l = cc
fit_some (n ∷ ns) (s ∷ ss) zero h l = ltb-true 0 n (and_parts (ltb 0 n) (fits n s) (and_parts (ltb 0 n && fits n s) (are_fit ns ss) h).0).0
fit_some (n ∷ ns) (s ∷ ss) (suc j) h l = fit_some ns ss j (and_parts (ltb 0 n && fits n s) (are_fit ns ss) h).1 (omega arith)

pub fit_at : (ns : List ℕ) (ss : List JobState) (j : ℕ) → IsTrue (are_fit ns ss) → IsTrue (fits (get_or ns j 0) (get_or ss j Done))
fit_at [] [] j h = refl
fit_at [] (s ∷ ss) j h = cc
fit_at (n ∷ ns) [] j h = cc
fit_at (n ∷ ns) (s ∷ ss) zero h = (and_parts (ltb 0 n) (fits n s) (and_parts (ltb 0 n && fits n s) (are_fit ns ss) h).0).1
fit_at (n ∷ ns) (s ∷ ss) (suc j) h = fit_at ns ss j (and_parts (ltb 0 n && fits n s) (are_fit ns ss) h).1

-- the test from what a caller shows
pub fit_from : (ns : List ℕ) (ss : List JobState) → AreFit ns ss → IsTrue (are_fit ns ss)
fit_from [] [] h = refl
fit_from [] (s ∷ ss) h = let e : suc (length ss) ≡ 0 = h.same_length in absurd (omega arith)
fit_from (n ∷ ns) [] h = let e : 0 ≡ suc (length ns) = h.same_length in absurd (omega arith)
fit_from (n ∷ ns) (s ∷ ss) h =
    and_from (ltb 0 n && fits n s) (are_fit ns ss)
    (and_from (ltb 0 n) (fits n s) (lt-ltb 0 n (h.has_step 0 (omega arith))) (h.each_fits 0 (omega arith)))
    (fit_from ns ss (record {
      same_length = let e : suc (length ss) ≡ suc (length ns) = h.same_length in omega arith;
      has_step = λ j l. h.has_step (suc j) (omega arith);
      each_fits = λ j l. h.each_fits (suc j) (omega arith);
    }))

-- jobs that have not begun
pub fit_anew : (ns : List ℕ) → EachHasStep ns → IsTrue (are_fit ns (replicate (length ns) (Fresh 0)))
fit_anew [] h = refl
fit_anew (n ∷ ns) h =
    let some : ltb 0 n ≡ true = lt-ltb 0 n (h 0 (omega arith)) in
    and_from (ltb 0 n && ltb 0 n) (are_fit ns (replicate (length ns) (Fresh 0)))
    (and_from (ltb 0 n) (ltb 0 n) some some)
    (fit_anew ns (λ j l. h (suc j) (omega arith)))

-- one job takes another state that fits
pub fit_set : (ns : List ℕ) (ss : List JobState) (j : ℕ) (s : JobState) → IsTrue (are_fit ns ss) → IsTrue (fits (get_or ns j 0) s) → IsTrue (are_fit ns (set ss j s))
fit_set [] [] j s h f = refl
fit_set [] (t ∷ ss) j s h f = cc
fit_set (n ∷ ns) [] j s h f = cc
fit_set (n ∷ ns) (t ∷ ss) zero s h f =
    let parts = and_parts (ltb 0 n && fits n t) (are_fit ns ss) h in
    and_from (ltb 0 n && fits n s) (are_fit ns ss) (and_from (ltb 0 n) (fits n s) (and_parts (ltb 0 n) (fits n t) parts.0).0 f) parts.1
fit_set (n ∷ ns) (t ∷ ss) (suc j) s h f =
    let parts = and_parts (ltb 0 n && fits n t) (are_fit ns ss) h in
    and_from (ltb 0 n && fits n t) (are_fit ns (set ss j s)) parts.0 (fit_set ns ss j s parts.1 f)

settled_fits : (n : ℕ) (s : JobState) → IsTrue (fits n s) → IsTrue (fits n (settled_job s))
settled_fits n (Fresh k) h = h
settled_fits n Staged h = refl
settled_fits n Ready h = refl
settled_fits n (Going k) h = h
settled_fits n Done h = refl

-- all jobs are settled
pub fit_settled : (ns : List ℕ) (ss : List JobState) → IsTrue (are_fit ns ss) → IsTrue (are_fit ns (map settled_job ss))
fit_settled [] [] h = refl
fit_settled [] (s ∷ ss) h = cc
fit_settled (n ∷ ns) [] h = cc
fit_settled (n ∷ ns) (s ∷ ss) h =
    let parts = and_parts (ltb 0 n && fits n s) (are_fit ns ss) h in
    let first = and_parts (ltb 0 n) (fits n s) parts.0 in
    and_from (ltb 0 n && fits n (settled_job s)) (are_fit ns (map settled_job ss))
    (and_from (ltb 0 n) (fits n (settled_job s)) first.0 (settled_fits n s first.1)) (fit_settled ns ss parts.1)

-- a job with an event is there, and its step is one of its steps
pub record Stands (ns : List ℕ) (ss : List JobState) (j : ℕ) : Type 0 where
  pub in_states : j < length ss
  pub in_steps : j < length ns
  pub some : 0 < get_or ns j 0

stands : (ns : List ℕ) (ss : List JobState) (j : ℕ) → IsTrue (are_fit ns ss) → get_or ss j Done ≢ Done → Stands ns ss j
stands ns ss j h ne =
    let l : j < length ss = is_inside ss j ne in
    let m : j < length ns = let e = fit_length ns ss h in omega arith in
    record { in_states = l; in_steps = m; some = fit_some ns ss j h m }

pub fresh_stands : (ns : List ℕ) (ss : List JobState) (j k : ℕ) → IsTrue (are_fit ns ss) → IsTrue (is_fresh (get_or ss j Done) k) → Stands ns ss j
fresh_stands ns ss j k h f = stands ns ss j h (fresh_not_done _ k (fresh_is _ k f))

pub ready_stands : (ns : List ℕ) (ss : List JobState) (j : ℕ) → IsTrue (are_fit ns ss) → IsTrue (is_ready (get_or ss j Done)) → Stands ns ss j
ready_stands ns ss j h f = stands ns ss j h (ready_not_done _ (ready_is _ f))

pub going_stands : (ns : List ℕ) (ss : List JobState) (j k : ℕ) → IsTrue (are_fit ns ss) → IsTrue (is_going (get_or ss j Done) k) → Stands ns ss j
going_stands ns ss j k h f = stands ns ss j h (going_not_done _ k (going_is _ k f))

pub fresh_below : (ns : List ℕ) (ss : List JobState) (j k : ℕ) → IsTrue (are_fit ns ss) → IsTrue (is_fresh (get_or ss j Done) k) → k < get_or ns j 0
fresh_below ns ss j k h f = ltb-true k (get_or ns j 0) (subst (λ (s : JobState). IsTrue (fits (get_or ns j 0) s)) (fresh_is _ k f) (fit_at ns ss j h))

pub going_below : (ns : List ℕ) (ss : List JobState) (j k : ℕ) → IsTrue (are_fit ns ss) → IsTrue (is_going (get_or ss j Done) k) → k < get_or ns j 0
going_below ns ss j k h f = ltb-true k (get_or ns j 0) (subst (λ (s : JobState). IsTrue (fits (get_or ns j 0) s)) (going_is _ k f) (fit_at ns ss j h))

-- the lists still fit after an event of a job
pub fit_staged : (ns : List ℕ) (ss : List JobState) (j k : ℕ) → IsTrue (are_fit ns ss) → IsTrue (is_fresh (get_or ss j Done) k)
    → IsTrue (are_fit ns (set ss j (staged_next k (get_or ns j 0))))
fit_staged ns ss j k h f = fit_set ns ss j _ h (staged_fits k (get_or ns j 0) (fresh_below ns ss j k h f))

pub fit_committed : (ns : List ℕ) (ss : List JobState) (j : ℕ) → IsTrue (are_fit ns ss) → IsTrue (is_ready (get_or ss j Done))
    → IsTrue (are_fit ns (set ss j (Going 0)))
fit_committed ns ss j h f = fit_set ns ss j (Going 0) h (lt-ltb 0 (get_or ns j 0) (ready_stands ns ss j h f).some)

pub fit_moved : (ns : List ℕ) (ss : List JobState) (j k : ℕ) → IsTrue (are_fit ns ss) → IsTrue (is_going (get_or ss j Done) k)
    → IsTrue (are_fit ns (set ss j (moved_next k (get_or ns j 0))))
fit_moved ns ss j k h f = fit_set ns ss j _ h (moved_fits k (get_or ns j 0) (going_below ns ss j k h f))

-- what the functions of a core lack
pub ruleset core_laws = (fit_from, fit_anew, fit_staged, fit_committed, fit_moved, fit_settled, fresh_stands, ready_stands, going_stands, fresh_below, going_below)
