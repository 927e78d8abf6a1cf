-- Each event but a settle keeps the relation, in either reading, where a rename's source is there.
use Rattle.std.proofs.Common.{◌≡◌, ℕ, suc, ◌<◌, Bool, true, false, ◌&&◌, eqb, ltb, List, [], ◌∷◌, sym, arith, IsTrue, eqb-true, ltb-true}
use Rattle.std.proofs.lemmas.Bool.{and_parts}
use Rattle.journal_core.specs.declared.event.Event.{Event}
use Rattle.journal_core.specs.declared.event.Event.TheVariants.{Propose, Adopt, Stage, Settle, Commit, Move, Finish, Close, Clear, Renew, Replace}
use Rattle.journal_core.specs.declared.event.JobState.{JobState}
use Rattle.journal_core.specs.Names.{Name, EachHasStep, plan_new, fresh, final}
use Rattle.journal_core.specs.Table.{CoreState, allows, after, all_done, closed_next}
use Rattle.journal_core.specs.Marks.{Mark, Marking, MarkChange, put, rename, remove, absent, is_any, mark, marked, changes_of}
use Rattle.journal_core.specs.Relation.{IsNear, IsFor, IsEarly, IsLive, IsFinishing, IsClosing, Shows, empty, proposed, settled, running, finishing, closing, closed, renewing}
use Rattle.journal_core.specs.Law.{is_settle}
use Rattle.journal_core.proofs.Rows.{all_done_each, with_one_here}
use Rattle.journal_core.proofs.JobEvents.{stage_shows, commit_shows, move_shows}
use Rattle.journal_core.proofs.Ending.{early_not_ready, early_not_going, done_not_ready, done_not_going, adopted, finished_more, closed_more, cleared, put_again, replaced}

pub never : {A : Type 0} → false ≡ true → A
never h = absurd (cc)

-- ### The plan is put

pub early_proposed : (steps : List ℕ) (ss : List JobState) (m : Marking) (x : Mark) → IsEarly steps ss m → IsEarly steps ss (marked m plan_new x)
early_proposed steps ss m x h = record {
  same_length = h.same_length;
  none_begun = h.none_begun;
  rest = record {
    plan = h.rest.plan;
    temp = h.rest.temp;
    commit = h.rest.commit;
    fresh = h.rest.fresh;
    final = h.rest.final;
    target = h.rest.target;
  };
}

-- ### The parts of the end, from what the table tests

-- the first text is put once all jobs are done
finish_first : (p : Mark → Bool) (x : Mark) (steps : List ℕ) (ss : List JobState) (m : Marking) (part : ℕ)
    → IsTrue (p x) → IsTrue (is_any x) → IsLive p steps ss m → IsTrue (eqb part 0 && all_done ss)
    → IsFinishing p steps ss (marked m (fresh part) x) (suc part) false
finish_first p x steps ss m part px ax live al =
    let tests = and_parts (eqb part 0) (all_done ss) al in
    let e : part ≡ 0 = eqb-true part 0 tests.0 in
    finished_more p x steps ss m part px ax live (all_done_each ss tests.1) (omega arith) (λ i l. absurd (omega arith))

-- and each of the others after the one before it
finish_next : (p : Mark → Bool) (x : Mark) (steps : List ℕ) (ss : List JobState) (m : Marking) (part put_parts : ℕ) (is_settled : Bool)
    → IsTrue (p x) → IsTrue (is_any x) → IsFinishing p steps ss m put_parts is_settled
    → IsTrue (ltb 0 part && ltb part 4 && eqb put_parts part)
    → IsFinishing p steps ss (marked m (fresh part) x) (suc part) false
finish_next p x steps ss m part put_parts is_settled px ax h al =
    let tests = and_parts (ltb 0 part && ltb part 4) (eqb put_parts part) al in
    let small : part < 4 = ltb-true part 4 (and_parts (ltb 0 part) (ltb part 4) tests.0).1 in
    let e : put_parts ≡ part = eqb-true put_parts part tests.1 in
    finished_more p x steps ss m part px ax h.live h.all_done small (λ i l. h.are_put i (omega arith))

-- the first text is renamed once all four are settled
close_first : (p : Mark → Bool) (steps : List ℕ) (ss : List JobState) (m : Marking) (part put_parts : ℕ) (is_settled : Bool)
    → IsFinishing p steps ss m put_parts is_settled → IsTrue (eqb part 0 && is_settled)
    → Shows p steps (record { phase = closed_next part; steps = steps; states = ss })
    (marked (marked m (final part) (m.fresh part)) (fresh part) absent)
close_first p steps ss m part put_parts is_settled h al =
    let tests = and_parts (eqb part 0) is_settled al in
    let e : part ≡ 0 = eqb-true part 0 tests.0 in
    closed_more p steps ss m part h.live h.all_done (omega arith)
    (λ i l. absurd (omega arith)) (λ i l. absurd (omega arith)) (λ i l b. h.are_settled tests.1 i b)

-- and each of the others after the one before it
close_next : (p : Mark → Bool) (steps : List ℕ) (ss : List JobState) (m : Marking) (part moved_parts : ℕ)
    → IsClosing p steps ss m moved_parts → IsTrue (ltb 0 part && ltb part 4 && eqb moved_parts part)
    → Shows p steps (record { phase = closed_next part; steps = steps; states = ss })
    (marked (marked m (final part) (m.fresh part)) (fresh part) absent)
close_next p steps ss m part moved_parts h al =
    let tests = and_parts (ltb 0 part && ltb part 4) (eqb moved_parts part) al in
    let small : part < 4 = ltb-true part 4 (and_parts (ltb 0 part) (ltb part 4) tests.0).1 in
    let e : moved_parts ≡ part = eqb-true moved_parts part tests.1 in
    closed_more p steps ss m part h.live h.all_done small
    (λ i l. h.gone i (omega arith)) (λ i l. h.there i (omega arith)) (λ i l b. h.left i (omega arith) b)

-- ### Each event, in each phase

-- the marking after a change whose source is there
abbrev pub plainly : Mark → Marking → MarkChange → Marking
plainly x m (put n) = marked m n x
plainly x m (rename a b) = marked (marked m b (mark m a)) a absent
plainly x m (remove n) = marked m n absent

abbrev pub all_plainly : Mark → Marking → List MarkChange → Marking
all_plainly x m [] = m
all_plainly x m (d ∷ ds) = all_plainly x (plainly x m d) ds

-- p is what a name may hold that was put and not settled since, and x how what is put now is marked
pub event_plain : (p : Mark → Bool) (x : Mark) → IsTrue (p x) → IsTrue (is_any x)
    → (steps : List ℕ) → EachHasStep steps → (c : CoreState) (m : Marking) (e : Event) (n : Name)
    → Shows p steps c m → IsTrue (allows c e) → IsNear c e → IsFor e n → is_settle e ≡ false
    → Shows p steps (after c e) (all_plainly x m (changes_of e n))
event_plain p x px ax steps some c m Propose n (empty h l) al near named ns = proposed (early_proposed _ _ m x h) px
event_plain p x px ax steps some c m Adopt n (empty h l) al near named ns = never al
event_plain p x px ax steps some c m (Stage job step) n (empty h l) al near named ns = never al
event_plain p x px ax steps some c m Settle n (empty h l) al near named ns = never (sym ns)
event_plain p x px ax steps some c m (Commit job) n (empty h l) al near named ns = absurd (early_not_ready _ _ _ _ h al)
event_plain p x px ax steps some c m (Move job step) n (empty h l) al near named ns = absurd (early_not_going _ _ _ _ _ h al)
event_plain p x px ax steps some c m (Finish part) n (empty h l) al near named ns = never al
event_plain p x px ax steps some c m (Close part) n (empty h l) al near named ns = never al
event_plain p x px ax steps some c m Clear n (empty h l) al near named ns = never al
event_plain p x px ax steps some c m Propose n (proposed h l) al near named ns = never al
event_plain p x px ax steps some c m Adopt n (proposed h l) al near named ns = never al
event_plain p x px ax steps some c m (Stage job step) n (proposed h l) al near named ns = never al
event_plain p x px ax steps some c m Settle n (proposed h l) al near named ns = never (sym ns)
event_plain p x px ax steps some c m (Commit job) n (proposed h l) al near named ns = absurd (early_not_ready _ _ _ _ h al)
event_plain p x px ax steps some c m (Move job step) n (proposed h l) al near named ns = absurd (early_not_going _ _ _ _ _ h al)
event_plain p x px ax steps some c m (Finish part) n (proposed h l) al near named ns = never al
event_plain p x px ax steps some c m (Close part) n (proposed h l) al near named ns = never al
event_plain p x px ax steps some c m Clear n (proposed h l) al near named ns = never al
event_plain p x px ax steps some c m Propose n (settled h l) al near named ns = never al
event_plain p x px ax steps some c m Adopt n (settled h l) al near named ns = running (adopted p _ _ _ some h l)
event_plain p x px ax steps some c m (Stage job step) n (settled h l) al near named ns = never al
event_plain p x px ax steps some c m Settle n (settled h l) al near named ns = never (sym ns)
event_plain p x px ax steps some c m (Commit job) n (settled h l) al near named ns = absurd (early_not_ready _ _ _ _ h al)
event_plain p x px ax steps some c m (Move job step) n (settled h l) al near named ns = absurd (early_not_going _ _ _ _ _ h al)
event_plain p x px ax steps some c m (Finish part) n (settled h l) al near named ns = never al
event_plain p x px ax steps some c m (Close part) n (settled h l) al near named ns = never al
event_plain p x px ax steps some c m Clear n (settled h l) al near named ns = never al
event_plain p x px ax steps some c m Propose n (running h) al near named ns = never al
event_plain p x px ax steps some c m Adopt n (running h) al near named ns = never al
event_plain p x px ax steps some c m (Stage job step) n (running h) al near named ns = running (stage_shows p x _ _ _ _ _ px h al near)
event_plain p x px ax steps some c m Settle n (running h) al near named ns = never (sym ns)
event_plain p x px ax steps some c m (Commit job) n (running h) al near named ns = running (commit_shows p x _ _ _ _ ax some h al)
event_plain p x px ax steps some c m (Move job step) n (running h) al near named ns = running (move_shows p _ _ _ _ _ h al)
event_plain p x px ax steps some c m (Finish part) n (running h) al near named ns = finishing (finish_first p x _ _ _ _ px ax h al)
event_plain p x px ax steps some c m (Close part) n (running h) al near named ns = never al
event_plain p x px ax steps some c m Clear n (running h) al near named ns = never al
event_plain p x px ax steps some c m Propose n (finishing h) al near named ns = never al
event_plain p x px ax steps some c m Adopt n (finishing h) al near named ns = never al
event_plain p x px ax steps some c m (Stage job step) n (finishing h) al near named ns = never al
event_plain p x px ax steps some c m Settle n (finishing h) al near named ns = never (sym ns)
event_plain p x px ax steps some c m (Commit job) n (finishing h) al near named ns = absurd (done_not_ready _ _ h.all_done al)
event_plain p x px ax steps some c m (Move job step) n (finishing h) al near named ns = absurd (done_not_going _ _ _ h.all_done al)
event_plain p x px ax steps some c m (Finish part) n (finishing h) al near named ns = finishing (finish_next p x _ _ _ _ _ _ px ax h al)
event_plain p x px ax steps some c m (Close part) n (finishing h) al near named ns = close_first p _ _ _ _ _ _ h al
event_plain p x px ax steps some c m Clear n (finishing h) al near named ns = never al
event_plain p x px ax steps some c m Propose n (closing h) al near named ns = never al
event_plain p x px ax steps some c m Adopt n (closing h) al near named ns = never al
event_plain p x px ax steps some c m (Stage job step) n (closing h) al near named ns = never al
event_plain p x px ax steps some c m Settle n (closing h) al near named ns = never (sym ns)
event_plain p x px ax steps some c m (Commit job) n (closing h) al near named ns = absurd (done_not_ready _ _ h.all_done al)
event_plain p x px ax steps some c m (Move job step) n (closing h) al near named ns = absurd (done_not_going _ _ _ h.all_done al)
event_plain p x px ax steps some c m (Finish part) n (closing h) al near named ns = never al
event_plain p x px ax steps some c m (Close part) n (closing h) al near named ns = close_next p _ _ _ _ _ h al
event_plain p x px ax steps some c m Clear n (closing h) al near named ns = never al
event_plain p x px ax steps some c m Propose n (closed d h) al near named ns = never al
event_plain p x px ax steps some c m Adopt n (closed d h) al near named ns = never al
event_plain p x px ax steps some c m (Stage job step) n (closed d h) al near named ns = never al
event_plain p x px ax steps some c m Settle n (closed d h) al near named ns = never (sym ns)
event_plain p x px ax steps some c m (Commit job) n (closed d h) al near named ns = absurd (done_not_ready _ _ d al)
event_plain p x px ax steps some c m (Move job step) n (closed d h) al near named ns = absurd (done_not_going _ _ _ d al)
event_plain p x px ax steps some c m (Finish part) n (closed d h) al near named ns = never al
event_plain p x px ax steps some c m (Close part) n (closed d h) al near named ns = never al
event_plain p x px ax steps some c m Clear n (closed d h) al near named ns = closed d (cleared _ _ n named h)
event_plain p x px ax steps some c m Renew n (empty h l) al near named ns = never al
event_plain p x px ax steps some c m Replace n (empty h l) al near named ns = never al
event_plain p x px ax steps some c m Renew n (proposed h l) al near named ns = never al
event_plain p x px ax steps some c m Replace n (proposed h l) al near named ns = never al
event_plain p x px ax steps some c m Renew n (settled h l) al near named ns = never al
event_plain p x px ax steps some c m Replace n (settled h l) al near named ns = never al
event_plain p x px ax steps some c m Renew n (running h) al near named ns = never al
event_plain p x px ax steps some c m Replace n (running h) al near named ns = never al
event_plain p x px ax steps some c m Renew n (finishing h) al near named ns = never al
event_plain p x px ax steps some c m Replace n (finishing h) al near named ns = never al
event_plain p x px ax steps some c m Renew n (closing h) al near named ns = never al
event_plain p x px ax steps some c m Replace n (closing h) al near named ns = never al
event_plain p x px ax steps some c m Renew n (closed d h) al near named ns = never al
event_plain p x px ax steps some c m Replace n (closed d h) al near named ns = never al
event_plain p x px ax steps some c m Propose n (renewing {put_text = b} {settled_text = w} d h l q) al near named ns = never al
event_plain p x px ax steps some c m Adopt n (renewing {put_text = b} {settled_text = w} d h l q) al near named ns = never al
event_plain p x px ax steps some c m (Stage job step) n (renewing {put_text = b} {settled_text = w} d h l q) al near named ns = never al
event_plain p x px ax steps some c m Settle n (renewing {put_text = b} {settled_text = w} d h l q) al near named ns = never (sym ns)
event_plain p x px ax steps some c m (Commit job) n (renewing {put_text = b} {settled_text = w} d h l q) al near named ns = absurd (done_not_ready _ _ d al)
event_plain p x px ax steps some c m (Move job step) n (renewing {put_text = b} {settled_text = w} d h l q) al near named ns = absurd (done_not_going _ _ _ d al)
event_plain p x px ax steps some c m (Finish part) n (renewing {put_text = b} {settled_text = w} d h l q) al near named ns = never al
event_plain p x px ax steps some c m (Close part) n (renewing {put_text = b} {settled_text = w} d h l q) al near named ns = never al
event_plain p x px ax steps some c m Clear n (renewing {put_text = b} {settled_text = w} d h l q) al near named ns = never al
event_plain p x px ax steps some c m Renew n (renewing {put_text = b} {settled_text = w} d h l q) al near named ns = renewing d (put_again x _ m ax h) (λ t. rw (with_one_here m.fresh 3 x) px) (λ t f. never f)
event_plain p x px ax steps some c m Replace n (renewing {put_text = b} {settled_text = w} d h l q) al near named ns = let tests = and_parts b w al in closed d (replaced _ m h (q tests.0 tests.1))
