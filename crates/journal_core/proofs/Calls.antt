-- The names that allowed events put and rename: they are the run's, a rename's source is whole, and
-- a put that leaves nothing leaves the core from before.
use Rattle.std.proofs.Common.{◌≡◌, ◌≢◌, ℕ, ◌<◌, Bool, ◌&&◌, eqb, ltb, List, get_or, set, refl, sym, ◌∙◌, ap, subst, inl, inr, arith, IsTrue, eqb-true, ltb-true}
use Rattle.std.proofs.lemmas.Bool.{cases_eq, and_parts}
use Rattle.std.proofs.lemmas.List.{set-get_or}
use Rattle.journal_core.specs.declared.event.Event.{Event}
use Rattle.journal_core.specs.declared.event.Event.TheVariants.{Propose, Adopt, Stage, Finish, Close, Renew, Replace}
use Rattle.journal_core.specs.declared.event.JobState.{JobState}
use Rattle.journal_core.specs.declared.event.JobState.TheVariants.{Fresh, Ready, Going, Done}
use Rattle.journal_core.specs.declared.event.Phase.{Phase}
use Rattle.journal_core.specs.declared.event.Phase.TheVariants.{Empty, Proposed, Running, Finishing, Closing, Closed, Renewing}
use Rattle.journal_core.specs.Names.{IsStep, plan_new, temp, commit, fresh}
use Rattle.journal_core.specs.Table.{CoreState, state_of, is_fresh, is_ready, is_going, is_running, all_done, allows, after, next_of, may_finish, may_close}
use Rattle.journal_core.specs.Marks.{Mark, Marking, absent, whole, marked, with_one}
use Rattle.journal_core.specs.Shapes.{IsUntouched}
use Rattle.journal_core.specs.Relation.{EachDone, free, slot, JobShows, IsLive, Shows, empty, proposed, settled, running, finishing, closing, closed, renewing}
use Rattle.journal_core.specs.Calls.{puts_plan, puts_step, puts_mark, puts_text, moves_plan, moves_step, moves_text, EveryPutNamed, EveryMoveNamed, EverySourceWhole, EveryPutUndone, puts_again, moves_again, before_put}
use Rattle.journal_core.proofs.Rows.{all_done_each, with_one_here, with_one_at, with_one_other, with_step_here, with_step_other}
use Rattle.journal_core.proofs.Jobs.{job_changed, row_same, free_here}
use Rattle.journal_core.proofs.JobEvents.{fresh_is, ready_is, going_is, fresh_not_done, ready_not_done, going_not_done, row_at, source_is_whole, slot_same, still_there}
use Rattle.journal_core.proofs.Ending.{early_not_ready, early_not_going, done_not_ready, done_not_going, absent_loose, live_end, put_gone}
use Rattle.journal_core.proofs.Events.{never, early_proposed}

-- ### The next core

pub next_of-allowed : (c : CoreState) (e : Event) → IsTrue (allows c e) → next_of c e ≡ after c e
next_of-allowed c e al = rw al refl

-- ### An event of a job comes while the run is running

pub record IsRunning (p : Mark → Bool) (steps : List ℕ) (c : CoreState) (m : Marking) : Type 0 where
  pub core : c ≡ record { phase = Running; steps = steps; states = c.states }
  pub live : IsLive p steps c.states m

stage_running : (p : Mark → Bool) (steps : List ℕ) (c : CoreState) (m : Marking) (j k : ℕ)
    → Shows p steps c m → IsTrue (allows c (Stage j k)) → IsRunning p steps c m
stage_running p steps c m j k (empty h l) al = never al
stage_running p steps c m j k (proposed h l) al = never al
stage_running p steps c m j k (settled h l) al = never al
stage_running p steps c m j k (running h) al = record { core = refl; live = h }
stage_running p steps c m j k (finishing h) al = never al
stage_running p steps c m j k (closing h) al = never al
stage_running p steps c m j k (closed d h) al = never al
stage_running p steps c m j k (renewing d h l q) al = never al

pub stage_fresh : (c : CoreState) (j k : ℕ) → IsTrue (allows c (Stage j k)) → IsTrue (is_fresh (state_of c j) k)
stage_fresh c j k al = (and_parts (is_running c.phase) (is_fresh (state_of c j) k) al).1

commit_running : (p : Mark → Bool) (steps : List ℕ) (c : CoreState) (m : Marking) (j : ℕ)
    → Shows p steps c m → IsTrue (is_ready (state_of c j)) → IsRunning p steps c m
commit_running p steps c m j (empty h l) al = absurd (early_not_ready _ _ _ _ h al)
commit_running p steps c m j (proposed h l) al = absurd (early_not_ready _ _ _ _ h al)
commit_running p steps c m j (settled h l) al = absurd (early_not_ready _ _ _ _ h al)
commit_running p steps c m j (running h) al = record { core = refl; live = h }
commit_running p steps c m j (finishing h) al = absurd (done_not_ready _ _ h.all_done al)
commit_running p steps c m j (closing h) al = absurd (done_not_ready _ _ h.all_done al)
commit_running p steps c m j (closed d h) al = absurd (done_not_ready _ _ d al)
commit_running p steps c m j (renewing d h l q) al = absurd (done_not_ready _ _ d al)

move_running : (p : Mark → Bool) (steps : List ℕ) (c : CoreState) (m : Marking) (j k : ℕ)
    → Shows p steps c m → IsTrue (is_going (state_of c j) k) → IsRunning p steps c m
move_running p steps c m j k (empty h l) al = absurd (early_not_going _ _ _ _ _ h al)
move_running p steps c m j k (proposed h l) al = absurd (early_not_going _ _ _ _ _ h al)
move_running p steps c m j k (settled h l) al = absurd (early_not_going _ _ _ _ _ h al)
move_running p steps c m j k (running h) al = record { core = refl; live = h }
move_running p steps c m j k (finishing h) al = absurd (done_not_going _ _ _ h.all_done al)
move_running p steps c m j k (closing h) al = absurd (done_not_going _ _ _ h.all_done al)
move_running p steps c m j k (closed d h) al = absurd (done_not_going _ _ _ d al)
move_running p steps c m j k (renewing d h l q) al = absurd (done_not_going _ _ _ d al)

-- ### The parts of the end are four

finish_small : (c : CoreState) (part : ℕ) → IsTrue (allows c (Finish part)) → part < 4
finish_small c part al = small c.phase (all_done c.states) part al
  where
    small : (phase : Phase) (done : Bool) (part : ℕ) → IsTrue (may_finish phase done part) → part < 4
    small Empty done part al = never al
    small (Proposed s) done part al = never al
    small Running done part al = let e : part ≡ 0 = eqb-true part 0 (and_parts (eqb part 0) done al).0 in omega arith
    small (Finishing put s) done part al =
        ltb-true part 4 (and_parts (ltb 0 part) (ltb part 4) (and_parts (ltb 0 part && ltb part 4) (eqb put part) al).0).1
    small (Closing moved) done part al = never al
    small Closed done part al = never al
    small (Renewing b w) done part al = never al

close_small : (c : CoreState) (part : ℕ) → IsTrue (allows c (Close part)) → part < 4
close_small c part al = small c.phase part al
  where
    small : (phase : Phase) (part : ℕ) → IsTrue (may_close phase part) → part < 4
    small Empty part al = never al
    small (Proposed s) part al = never al
    small Running part al = never al
    small (Finishing put s) part al = let e : part ≡ 0 = eqb-true part 0 (and_parts (eqb part 0) s al).0 in omega arith
    small (Closing moved) part al =
        ltb-true part 4 (and_parts (ltb 0 part) (ltb part 4) (and_parts (ltb 0 part && ltb part 4) (eqb moved part) al).0).1
    small Closed part al = never al
    small (Renewing b w) part al = never al

-- ### Names

move_step_in : (p : Mark → Bool) (steps : List ℕ) (c : CoreState) (m : Marking) (j k : ℕ)
    → Shows p steps c m → IsTrue (is_going (state_of c j) k) → IsStep steps j k
move_step_in p steps c m j k shows al =
    let r = move_running p steps c m j k shows al in
    let e = going_is (state_of c j) k al in
    let row = row_at p steps c.states m j (Going k) r.live e (going_not_done _ k e) in
    record { job_in = row.0; step_in = ltb-true k _ row.1.fit }

pub put_name : EveryPutNamed
put_name p steps c m e n shows puts_plan al = tt
put_name p steps c m e n shows (puts_step {job = j} {step = k}) al =
    let r = stage_running p steps c m j k shows al in
    let s = fresh_is (state_of c j) k (stage_fresh c j k al) in
    let row = row_at p steps c.states m j (Fresh k) r.live s (fresh_not_done _ k s) in
    record { job_in = row.0; step_in = ltb-true k _ row.1.fit }
put_name p steps c m e n shows (puts_mark {job = j}) al =
    let r = commit_running p steps c m j shows al in
    let s = ready_is (state_of c j) al in
    (row_at p steps c.states m j Ready r.live s (ready_not_done _ s)).0
put_name p steps c m e n shows (puts_text {part = i}) al = finish_small c i al
put_name p steps c m e n shows puts_again al = omega arith

pub move_names : EveryMoveNamed
move_names p steps c m e from to shows moves_plan al = record { from_name = tt; to_name = tt }
move_names p steps c m e from to shows (moves_step {job = j} {step = k}) al =
    let st = move_step_in p steps c m j k shows al in record { from_name = st; to_name = st }
move_names p steps c m e from to shows (moves_text {part = i}) al =
    let small = close_small c i al in record { from_name = small; to_name = small }
move_names p steps c m e from to shows moves_again al = record { from_name = omega arith; to_name = omega arith }

-- ### Sources

plan_whole : (p : Mark → Bool) (steps : List ℕ) (c : CoreState) (m : Marking) → Shows p steps c m → IsTrue (allows c Adopt) → m.plan_new ≡ whole
plan_whole p steps c m (empty h l) al = never al
plan_whole p steps c m (proposed h l) al = never al
plan_whole p steps c m (settled h l) al = l
plan_whole p steps c m (running h) al = never al
plan_whole p steps c m (finishing h) al = never al
plan_whole p steps c m (closing h) al = never al
plan_whole p steps c m (closed d h) al = never al
plan_whole p steps c m (renewing d h l q) al = never al

text_whole : (p : Mark → Bool) (steps : List ℕ) (c : CoreState) (m : Marking) (part : ℕ) → Shows p steps c m → IsTrue (allows c (Close part)) → part < 4 → m.fresh part ≡ whole
text_whole p steps c m part (empty h l) al small = never al
text_whole p steps c m part (proposed h l) al small = never al
text_whole p steps c m part (settled h l) al small = never al
text_whole p steps c m part (running h) al small = never al
text_whole p steps c m part (finishing {settled_parts = s} h) al small = h.are_settled (and_parts (eqb part 0) s al).1 part small
text_whole p steps c m part (closing {moved_parts = v} h) al small =
    let e : v ≡ part = eqb-true v part (and_parts (ltb 0 part && ltb part 4) (eqb v part) al).1 in
    h.left part (omega arith) small
text_whole p steps c m part (closed d h) al small = never al
text_whole p steps c m part (renewing d h l q) al small = never al

again_whole : (p : Mark → Bool) (steps : List ℕ) (c : CoreState) (m : Marking) → Shows p steps c m → IsTrue (allows c Replace) → m.fresh 3 ≡ whole
again_whole p steps c m (empty h l) al = never al
again_whole p steps c m (proposed h l) al = never al
again_whole p steps c m (settled h l) al = never al
again_whole p steps c m (running h) al = never al
again_whole p steps c m (finishing h) al = never al
again_whole p steps c m (closing h) al = never al
again_whole p steps c m (closed d h) al = never al
again_whole p steps c m (renewing {put_text = b} {settled_text = w} d h l q) al = let tests = and_parts b w al in q tests.0 tests.1

pub source_whole : EverySourceWhole
source_whole p steps c m e from to shows moves_plan al = plan_whole p steps c m shows al
source_whole p steps c m e from to shows (moves_step {job = j} {step = k}) al =
    let r = move_running p steps c m j k shows al in
    let s = going_is (state_of c j) k al in
    let row = row_at p steps c.states m j (Going k) r.live s (going_not_done _ k s) in
    source_is_whole p _ k _ _ _ row.1
source_whole p steps c m e from to shows (moves_text {part = i}) al = text_whole p steps c m i shows al (close_small c i al)
source_whole p steps c m e from to shows moves_again al = again_whole p steps c m shows al

-- ### A put that leaves nothing

-- the list of states where job j keeps its state
same_states : (ss : List JobState) (j : ℕ) (s : JobState) → get_or ss j Done ≡ s → set ss j s ≡ ss
same_states ss j s e = ap (λ (x : JobState). set ss j x) (sym e) ∙ set-get_or ss j Done

-- a running core is shown by a live marking
shown_again : (p : Mark → Bool) (steps : List ℕ) (c : CoreState) (m : Marking)
    → c ≡ record { phase = Running; steps = steps; states = c.states } → IsLive p steps c.states m → Shows p steps c m
shown_again p steps c m e live = subst (λ (x : CoreState). Shows p steps x m) (sym e) (running live)

row_unput : (p : Mark → Bool) (n k : ℕ) (c : Mark) (t g : ℕ → Mark) → JobShows p n (Fresh k) c t g → JobShows p n (Fresh k) c (with_one t k absent) g
row_unput p n k c t g h =
    let kn : k < n = ltb-true k n h.fit in
    let was : IsUntouched (t k) (g k) = slot_same p free (slot (Fresh k) k) (t k) (t k) (g k) (g k) (sym (free_here k)) refl refl (h.slots k kn) in
    let now : IsUntouched absent (g k) = record { temp_loose = refl; target_first = was.target_first } in
    record {
      fit = h.fit;
      commit_shows = h.commit_shows;
      slots = λ i l. elim (cases_eq i k) [
        | inl e ↦ slot_same p _ free _ absent _ (g k) (ap (λ (y : ℕ). slot (Fresh k) y) e ∙ free_here k) (with_one_at t k i absent e) (ap g e) now
        | inr ne ↦ slot_same p _ _ _ _ _ _ refl (with_one_other t k i absent ne) refl (h.slots i l)
      ];
    }

stage_undone : (p : Mark → Bool) (steps : List ℕ) (ss : List JobState) (m : Marking) (j k : ℕ)
    → IsLive p steps ss m → IsTrue (is_fresh (get_or ss j Done) k) → IsLive p steps ss (marked m (temp j k) absent)
stage_undone p steps ss m j k live al =
    let s = fresh_is (get_or ss j Done) k al in
    let ne = fresh_not_done (get_or ss j Done) k s in
    let row = row_at p steps ss m j (Fresh k) live s ne in
    subst (λ (x : List JobState). IsLive p steps x (marked m (temp j k) absent)) (same_states ss j (Fresh k) s)
    (job_changed p steps ss m (marked m (temp j k) absent) j (Fresh k) live
    (record {
      plan_new = refl;
      plan = refl;
      commit = λ i o. refl;
      temp = λ i o. with_step_other m.temp j k i absent o;
      target = λ i o. refl;
      fresh = λ i. refl;
      final = λ i. refl;
    })
    ne
    (row_same p _ _ _ _ _ _ _ _ _ refl refl (with_step_here m.temp j k absent) refl (row_unput p _ k _ _ _ row.1))
    (λ i there. inl (still_there m.temp j k i there)))

commit_undone : (p : Mark → Bool) (steps : List ℕ) (ss : List JobState) (m : Marking) (j : ℕ)
    → IsLive p steps ss m → IsTrue (is_ready (get_or ss j Done)) → IsLive p steps ss (marked m (commit j) absent)
commit_undone p steps ss m j live al =
    let s = ready_is (get_or ss j Done) al in
    let ne = ready_not_done (get_or ss j Done) s in
    let row = row_at p steps ss m j Ready live s ne in
    subst (λ (x : List JobState). IsLive p steps x (marked m (commit j) absent)) (same_states ss j Ready s)
    (job_changed p steps ss m (marked m (commit j) absent) j Ready live
    (record {
      plan_new = refl;
      plan = refl;
      commit = λ i o. with_one_other m.commit j i absent o;
      temp = λ i o. refl;
      target = λ i o. refl;
      fresh = λ i. refl;
      final = λ i. refl;
    })
    ne
    (row_same p _ _ _ _ _ _ _ _ _ refl (with_one_here m.commit j absent ∙ sym row.1.commit_shows) refl refl row.1)
    (λ i there. inl there))

live_unput : (p : Mark → Bool) (steps : List ℕ) (ss : List JobState) (m : Marking) (part : ℕ)
    → IsLive p steps ss m → EachDone ss → IsLive p steps ss (marked m (fresh part) absent)
live_unput p steps ss m part live done = live_end p steps ss m (with_one m.fresh part absent) m.final live done
    (λ i l. elim (cases_eq i part) [
      | inl e ↦ absent_loose _ (with_one_at m.fresh part i absent e)
      | inr o ↦ rw (with_one_other m.fresh part i absent o) (live.fresh i l)
    ])
    live.lists live.finished

finish_undone : (p : Mark → Bool) (steps : List ℕ) (c : CoreState) (m : Marking) (part : ℕ)
    → Shows p steps c m → IsTrue (allows c (Finish part)) → Shows p steps c (marked m (fresh part) absent)
finish_undone p steps c m part (empty h l) al = never al
finish_undone p steps c m part (proposed h l) al = never al
finish_undone p steps c m part (settled h l) al = never al
finish_undone p steps c m part (running {ss = ss} h) al = running (live_unput p _ _ _ part h (all_done_each ss (and_parts (eqb part 0) (all_done ss) al).1))
finish_undone p steps c m part (finishing {put_parts = put} h) al =
    let tests = and_parts (ltb 0 part && ltb part 4) (eqb put part) al in
    let small : part < 4 = ltb-true part 4 (and_parts (ltb 0 part) (ltb part 4) tests.0).1 in
    let e : put ≡ part = eqb-true put part tests.1 in
    finishing (record {
      live = live_unput p _ _ _ part h.live h.all_done;
      all_done = h.all_done;
      some_put = h.some_put;
      at_most = h.at_most;
      are_put = λ i l. rw (with_one_other m.fresh part i absent (let ne : i ≢ part = omega arith in ne)) (h.are_put i l);
      all_put = h.all_put;
      are_settled = λ s i l. let full : put ≡ 4 = h.all_put s in absurd (omega arith);
    })
finish_undone p steps c m part (closing h) al = never al
finish_undone p steps c m part (closed d h) al = never al
finish_undone p steps c m part (renewing d h l q) al = never al

renew_undone : (p : Mark → Bool) (steps : List ℕ) (c : CoreState) (m : Marking) → Shows p steps c m → IsTrue (allows c Renew)
    → Shows p steps (before_put c Renew) (marked m (fresh 3) absent)
renew_undone p steps c m (empty h l) al = never al
renew_undone p steps c m (proposed h l) al = never al
renew_undone p steps c m (settled h l) al = never al
renew_undone p steps c m (running h) al = never al
renew_undone p steps c m (finishing h) al = never al
renew_undone p steps c m (closing h) al = never al
renew_undone p steps c m (closed d h) al = never al
renew_undone p steps c m (renewing d h l q) al = renewing d (put_gone _ m h) (λ t. never t) (λ t f. never t)

plan_undone : (p : Mark → Bool) (steps : List ℕ) (c : CoreState) (m : Marking) → Shows p steps c m → IsTrue (allows c Propose) → Shows p steps c (marked m plan_new absent)
plan_undone p steps c m (empty h l) al = empty (early_proposed _ _ m absent h) refl
plan_undone p steps c m (proposed h l) al = never al
plan_undone p steps c m (settled h l) al = never al
plan_undone p steps c m (running h) al = never al
plan_undone p steps c m (finishing h) al = never al
plan_undone p steps c m (closing h) al = never al
plan_undone p steps c m (closed d h) al = never al
plan_undone p steps c m (renewing d h l q) al = never al

pub put_undone : EveryPutUndone
put_undone p steps c m e n shows puts_plan al = plan_undone p steps c m shows al
put_undone p steps c m e n shows (puts_step {job = j} {step = k}) al =
    let r = stage_running p steps c m j k shows al in
    shown_again p steps c _ r.core (stage_undone p steps c.states m j k r.live (stage_fresh c j k al))
put_undone p steps c m e n shows (puts_mark {job = j}) al =
    let r = commit_running p steps c m j shows al in
    shown_again p steps c _ r.core (commit_undone p steps c.states m j r.live al)
put_undone p steps c m e n shows (puts_text {part = i}) al = finish_undone p steps c m i shows al
put_undone p steps c m e n shows puts_again al = renew_undone p steps c m shows al
