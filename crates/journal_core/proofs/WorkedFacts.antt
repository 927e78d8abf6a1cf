-- What the definitions say of small cores and of one whole run, worked by hand, so that a wrong row of
-- the table, a wrong shape or a premise that no run meets doesn't check.
use Rattle.std.proofs.Common.{◌≡◌, ◌≢◌, ℕ, suc, zero, ◌<◌, ◌≤◌, true, false, get_or, List, [], ◌∷◌, length, refl, sym, ◌∙◌, inl, inr, arith, lit<, IsTrue, subst}
use Rattle.std.proofs.lemmas.Bool.{cases_lt}
use Rattle.std.specs.Prelude.{◌==◌, if◌then◌else◌}
use Rattle.journal_core.specs.declared.event.Event.{Event}
use Rattle.journal_core.specs.declared.event.Event.TheVariants.{Propose, Adopt, Stage, Settle, Commit, Move, Finish, Close, Clear}
use Rattle.journal_core.specs.declared.event.JobState.{JobState}
use Rattle.journal_core.specs.declared.event.JobState.TheVariants.{Fresh, Staged, Ready, Going, Done}
use Rattle.journal_core.specs.declared.event.Phase.TheVariants.{Closed}
use Rattle.journal_core.specs.Names.{IsStep, plan, temp, target}
use Rattle.journal_core.specs.Table.{CoreState, allows, after, new_core, resumed_core, closed_core}
use Rattle.journal_core.specs.Marks.{Mark, Marking, absent, first, whole, any, is_any, rename, changed, earlier, is_own}
use Rattle.journal_core.specs.Shapes.{IsMoved, IsLeft, JobShape, untouched, committed, waiting, IsUnderway, HasShape}
use Rattle.journal_core.specs.Relation.{ahead}
use Rattle.journal_core.specs.Starts.{going, EachShown, Shown, shown_core}
use Rattle.journal_core.specs.Law.{NamedEvent, World, begun, run, MayRun, stopped}
use Rattle.journal_core.proofs.Targets.{targets_law}

-- ### Rows of the table

-- two jobs, of four steps and of two
abbrev two_jobs : JobState → JobState → CoreState
two_jobs s t = resumed_core (4 ∷ 2 ∷ []) (s ∷ t ∷ [])

last_step_stages : after (two_jobs (Fresh 3) (Fresh 1)) (Stage 1 1) ≡ two_jobs (Fresh 3) Staged
last_step_stages = refl

other_step_stays_fresh : after (two_jobs (Fresh 2) Staged) (Stage 0 2) ≡ two_jobs (Fresh 3) Staged
other_step_stays_fresh = refl

settle_makes_ready : after (two_jobs (Fresh 3) Staged) Settle ≡ two_jobs (Fresh 3) Ready
settle_makes_ready = refl

last_move_is_done : after (two_jobs (Going 3) Ready) (Move 0 3) ≡ two_jobs Done Ready
last_move_is_done = refl

staged_is_not_committed : allows (two_jobs (Fresh 3) Staged) (Commit 1) ≡ false
staged_is_not_committed = refl

absent_job_has_no_event : allows (two_jobs Done Done) (Stage 2 0) ≡ false
absent_job_has_no_event = refl

end_waits_for_all_jobs : allows (two_jobs Done (Going 1)) (Finish 0) ≡ false
end_waits_for_all_jobs = refl

end_begins_when_all_are_done : allows (two_jobs Done Done) (Finish 0) ≡ true
end_begins_when_all_are_done = refl

one_is_ahead : ahead (Done ∷ Fresh 0 ∷ Done ∷ []) 3 ≡ 1
one_is_ahead = refl

-- ### Markings that have no shape

-- a target that is torn
torn_target : (steps : List ℕ) (m : Marking) (j k : ℕ) → IsStep steps j k → m.target j k ≡ any → HasShape steps m → ⊥
torn_target steps m j k st e h = elim (targets_law steps m h j k st) [
  | inl f ↦ let d : first ≡ any = sym f ∙ e in cc
  | inr w ↦ let d : whole ≡ any = sym w ∙ e in cc
]

-- an output without a plan or a finished text
output_alone : (steps : List ℕ) (m : Marking) (j k : ℕ) → IsStep steps j k
    → m.target j k ≡ whole → m.plan ≡ absent → m.final 3 ≡ absent → HasShape steps m → ⊥
output_alone steps m j k st e no_plan no_end (HasShape.unplanned h) = let d : first ≡ whole = sym (h.rest.target j k st) ∙ e in cc
output_alone steps m j k st e no_plan no_end (HasShape.underway h) = let d : false ≡ true = subst (λ (x : Mark). is_own x ≡ true) no_plan h.plan in cc
output_alone steps m j k st e no_plan no_end (HasShape.finished h) = let d : whole ≡ absent = sym (h.final 3 (omega arith)) ∙ no_end in cc
output_alone steps m j k st e no_plan no_end (HasShape.old h) = let d : earlier ≡ absent = sym h.finished ∙ no_end in cc

-- a committed job with a torn output
torn_step : (n : ℕ) (c : Mark) (t g : ℕ → Mark) (k : ℕ) → k < n → IsTrue (is_any c) → t k ≡ any → JobShape n c t g → ⊥
torn_step n c t g k l there e (untouched none each) = let d : is_any absent ≡ true = rw none at there in let f : false ≡ true = d in cc
torn_step n c t g k l there e (committed also moved small gone left) = elim (cases_lt k moved) [
  | inl b ↦ let d : absent ≡ any = sym (gone k b).temp_gone ∙ e in cc
  | inr b ↦ let d : whole ≡ any = sym (left k b l).temp_whole ∙ e in cc
]

-- ### One whole run, of one job of one step

abbrev nothing_yet : Marking
nothing_yet = record {
  plan_new = absent;
  plan = absent;
  temp = λ j k. absent;
  commit = λ j. absent;
  fresh = λ i. absent;
  final = λ i. absent;
  target = λ j k. first;
}

fresh_start : Shown (1 ∷ []) nothing_yet (new_core (1 ∷ []))
fresh_start = Shown.unplanned (record {
  plan_new = refl;
  rest = record {
    plan = refl;
    temp = λ j k st. refl;
    commit = λ j l. refl;
    fresh = λ i l. refl;
    final = λ i l. refl;
    target = λ j k st. refl;
  };
})

abbrev start : World
start = begun (new_core (1 ∷ [])) nothing_yet

abbrev named : Event → NamedEvent
named e = record { event = e; name = plan }

-- until the job is committed and moved, and that isn't settled
abbrev half_way : List NamedEvent
half_way = named Propose ∷ named Settle ∷ named Adopt ∷ named (Stage 0 0) ∷ named Settle ∷ named (Commit 0) ∷ named (Move 0 0) ∷ []

abbrev whole_way : List NamedEvent
whole_way = named Propose ∷ named Settle ∷ named Adopt ∷ named (Stage 0 0) ∷ named Settle ∷ named (Commit 0) ∷ named (Move 0 0)
    ∷ named (Finish 0) ∷ named (Finish 1) ∷ named (Finish 2) ∷ named (Finish 3) ∷ named Settle
    ∷ named (Close 0) ∷ named (Close 1) ∷ named (Close 2) ∷ named (Close 3) ∷ named Settle ∷ named Clear ∷ []

-- each of its events may come
whole_way_runs : MayRun start whole_way
whole_way_runs = (
  record { allowed = refl; near = tt; named = tt },
  (
    record { allowed = refl; near = tt; named = tt },
    (
      record { allowed = refl; near = tt; named = tt },
      (
        record { allowed = refl; near = lit< tt; named = tt },
        (
          record { allowed = refl; near = tt; named = tt },
          (
            record { allowed = refl; near = tt; named = tt },
            (
              record { allowed = refl; near = tt; named = tt },
              (
                record { allowed = refl; near = tt; named = tt },
                (
                  record { allowed = refl; near = tt; named = tt },
                  (
                    record { allowed = refl; near = tt; named = tt },
                    (
                      record { allowed = refl; near = tt; named = tt },
                      (
                        record { allowed = refl; near = tt; named = tt },
                        (
                          record { allowed = refl; near = tt; named = tt },
                          (
                            record { allowed = refl; near = tt; named = tt },
                            (
                              record { allowed = refl; near = tt; named = tt },
                              (
                                record { allowed = refl; near = tt; named = tt },
                                (
                                  record { allowed = refl; near = tt; named = tt },
                                  (record { allowed = refl; near = tt; named = tt }, tt),
                                ),
                              ),
                            ),
                          ),
                        ),
                      ),
                    ),
                  ),
                ),
              ),
            ),
          ),
        ),
      ),
    ),
  ),
)

ends_closed : (run start whole_way).core.phase ≡ Closed
ends_closed = refl

ends_with_the_output : (run start whole_way).now.target 0 0 ≡ whole
ends_with_the_output = refl

ends_without_the_plan : (run start whole_way).now.plan ≡ absent
ends_without_the_plan = refl

-- the stops of half of it: the commit mark and the move are kept one after the other
two_unsettled : length (run start half_way).changes ≡ 2
two_unsettled = refl

old_target_before_the_move : (stopped (run start half_way) 1).target 0 0 ≡ first
old_target_before_the_move = refl

new_target_after_the_move : (stopped (run start half_way) 2).target 0 0 ≡ whole
new_target_after_the_move = refl

torn_mark_of_the_commit : (stopped (run start half_way) 1).commit 0 ≡ any
torn_mark_of_the_commit = refl

-- ### Markings that have a shape

-- a job of two steps, committed: the first is at its target, and the second is left
abbrev half_moved : Marking
half_moved = record {
  plan_new = absent;
  plan = whole;
  temp = λ j k. if k == 1 then whole else absent;
  commit = λ j. any;
  fresh = λ i. absent;
  final = λ i. absent;
  target = λ j k. if k == 0 then whole else first;
}

half_moved_first : (k : ℕ) → k < 1 → IsMoved (if k == 1 then whole else absent) (if k == 0 then whole else first)
half_moved_first zero l = record { temp_gone = refl; target_whole = refl }
half_moved_first (suc k) l = absurd (omega arith)

half_moved_left : (k : ℕ) → 1 ≤ k → k < 2 → IsLeft (if k == 1 then whole else absent) (if k == 0 then whole else first)
half_moved_left zero m l = absurd (omega arith)
half_moved_left (suc zero) m l = record { temp_whole = refl; target_first = refl }
half_moved_left (suc (suc k)) m l = absurd (omega arith)

half_moved_jobs : (j : ℕ) → j < 1 → JobShape (get_or (2 ∷ []) j 0) any (half_moved.temp j) (half_moved.target j)
half_moved_jobs zero l = committed refl 1 (omega arith) half_moved_first half_moved_left
half_moved_jobs (suc j) l = absurd (omega arith)

half_moved_window : (j k : ℕ) → IsStep (2 ∷ []) j k → half_moved.temp j k ≢ absent → waiting (2 ∷ []) half_moved j < 64
half_moved_window zero k st there = lit< tt
half_moved_window (suc j) k st there = let l : suc j < 1 = st.job_in in absurd (omega (arith, l))

half_moved_shape : IsUnderway (2 ∷ []) half_moved
half_moved_shape = record {
  plan_new = refl;
  plan = refl;
  finished = refl;
  jobs = half_moved_jobs;
  window = half_moved_window;
  fresh = λ i l. refl;
  lists = λ i l. refl;
  end_last = inr (record { fresh = λ i l. refl; final = λ i l. refl });
}

-- all is at its place, and the plan and a torn commit mark are left
abbrev all_moved : Marking
all_moved = record {
  plan_new = absent;
  plan = whole;
  temp = λ j k. absent;
  commit = λ j. any;
  fresh = λ i. absent;
  final = λ i. whole;
  target = λ j k. whole;
}

all_moved_shape : HasShape (2 ∷ []) all_moved
all_moved_shape = HasShape.finished (record {
  plan_new = refl;
  plan = refl;
  temp = λ j k st. refl;
  commit = λ j l. refl;
  fresh = λ i l. refl;
  final = λ i l. refl;
  target = λ j k st. refl;
})

finished_is_closed : shown_core (2 ∷ []) all_moved ≡ closed_core
finished_is_closed = refl

-- ### A run that is resumed there

half_moved_core : shown_core (2 ∷ []) half_moved ≡ resumed_core (2 ∷ []) (Going 1 ∷ [])
half_moved_core = refl

half_moved_each : EachShown (2 ∷ []) (Going 1 ∷ []) half_moved
half_moved_each zero l = going refl 1 (omega arith) (λ e. let d : whole ≡ absent = e in cc) before
  where
    before : (k : ℕ) → k < 1 → half_moved.temp 0 k ≡ absent
    before zero b = refl
    before (suc k) b = absurd (omega arith)
half_moved_each (suc j) l = absurd (omega arith)

resumed_start : Shown (2 ∷ []) half_moved (resumed_core (2 ∷ []) (Going 1 ∷ []))
resumed_start = Shown.underway half_moved_shape refl half_moved_each

abbrev the_rest : List NamedEvent
the_rest = named (Move 0 1) ∷ named (Finish 0) ∷ named (Finish 1) ∷ named (Finish 2) ∷ named (Finish 3) ∷ named Settle
    ∷ named (Close 0) ∷ named (Close 1) ∷ named (Close 2) ∷ named (Close 3) ∷ []

abbrev resumed : World
resumed = run (begun (resumed_core (2 ∷ []) (Going 1 ∷ [])) half_moved) the_rest

resumed_runs : MayRun (begun (resumed_core (2 ∷ []) (Going 1 ∷ [])) half_moved) the_rest
resumed_runs = (record { allowed = refl; near = tt; named = tt }, (record { allowed = refl; near = tt; named = tt }, (record { allowed = refl; near = tt; named = tt }, (record { allowed = refl; near = tt; named = tt }, (record { allowed = refl; near = tt; named = tt }, (record { allowed = refl; near = tt; named = tt }, (record { allowed = refl; near = tt; named = tt }, (record { allowed = refl; near = tt; named = tt }, (record { allowed = refl; near = tt; named = tt }, (record { allowed = refl; near = tt; named = tt }, tt))))))))))

resumed_ends_closed : resumed.core.phase ≡ Closed
resumed_ends_closed = refl

resumed_ends_with_both : (resumed.now.target 0 0 ≡ whole) × (resumed.now.target 0 1 ≡ whole)
resumed_ends_with_both = (refl, refl)

resumed_ends_without_new : resumed.now.temp 0 1 ≡ absent
resumed_ends_without_new = refl

-- a rename of what isn't there changes nothing
absent_is_not_renamed : (changed whole nothing_yet (rename (temp 0 0) (target 0 0))).target 0 0 ≡ first
absent_is_not_renamed = refl
