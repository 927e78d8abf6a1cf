-- Groups of jobs: what a settle, a flush and a staging make of them.
use Rattle.std.proofs.Common.{◌≡◌, ◌≢◌, ℕ, suc, zero, ◌<◌, ◌≤◌, false, List, length, get_or, set, refl, sym, ◌∙◌, ap, subst, inl, inr, arith, IsTrue, get_or-set_other}
use Rattle.std.proofs.lemmas.Bool.{cases_eq, cases_lt}
use Rattle.std.proofs.lemmas.List.{length-map, length-set}
use Rattle.journal_core.specs.declared.event.Event.TheVariants.{Settle, Commit}
use Rattle.journal_core.specs.declared.event.JobState.{JobState}
use Rattle.journal_core.specs.declared.event.JobState.TheVariants.{Fresh, Staged, Ready, Going, Done}
use Rattle.journal_core.specs.Table.{CoreState, state_of, settled_job, is_done, after, with_state}
use Rattle.journal_core.specs.Relation.{ahead}
use Rattle.journal_core.proofs.Rows.{settled_at}
use Rattle.work_journal.specs.Views.{MakerView}
use Rattle.work_journal.specs.Groups.{is_new, is_staged, is_settled, IsUnder, IsGroup, IsFlush}
use Rattle.work_journal.proofs.JobLaws.{set_here, set_twice, ahead_set}

-- ### A settle

under_settled : (v : MakerView) (c : CoreState) → IsUnder v c → IsUnder v (after c Settle)
under_settled v c u = record {
  running = rw u.running refl;
  steps_are = u.steps_are;
  same_length = length-map c.states settled_job ∙ u.same_length;
}

done_settled : (c : CoreState) (i : ℕ) → state_of c i ≡ Done → state_of (after c Settle) i ≡ Done
done_settled c i e = settled_at c.states i ∙ ap settled_job e

staged_settled : (s : JobState) → IsTrue (is_staged s) → IsTrue (is_settled (settled_job s))
staged_settled (Fresh n) h = cc
staged_settled Staged h = refl
staged_settled Ready h = cc
staged_settled (Going n) h = cc
staged_settled Done h = refl

new_settled : (s : JobState) → IsTrue (is_new s) → IsTrue (is_new (settled_job s))
new_settled (Fresh n) h = h
new_settled Staged h = cc
new_settled Ready h = cc
new_settled (Going n) h = cc
new_settled Done h = refl

pub group_settled : (v : MakerView) (c d : CoreState) (first job : ℕ) → IsGroup v c first job → d ≡ after c Settle → IsFlush v d first job
group_settled v c d first job g e = subst (λ (x : CoreState). IsFlush v x first job) (sym e) (record {
  under = under_settled v c g.under;
  before = λ i l. done_settled c i (g.before i l);
  ready = λ i l m. subst (λ (s : JobState). IsTrue (is_settled s)) (sym (settled_at c.states i)) (staged_settled (state_of c i) (g.staged i l m));
  rest = λ i l. subst (λ (s : JobState). IsTrue (is_new s)) (sym (settled_at c.states i)) (new_settled (state_of c i) (g.rest i l));
})

-- ### One state

pub under_set : (v : MakerView) (c : CoreState) (j : ℕ) (s : JobState) → IsUnder v c → IsUnder v (with_state c j s)
under_set v c j s u = record { running = u.running; steps_are = u.steps_are; same_length = length-set c.states j s ∙ u.same_length }

pub at_other : (c : CoreState) (j i : ℕ) (s : JobState) → i ≢ j → state_of (with_state c j s) i ≡ state_of c i
at_other c j i s ne = get_or-set_other c.states j i s Done ne

pub at_here : (c : CoreState) (j : ℕ) (s : JobState) → j < length c.states → state_of (with_state c j s) j ≡ s
at_here c j s l = set_here c.states j s l

-- ### A flush

pub flush_next : (v : MakerView) (c d : CoreState) (job last next : ℕ) → next ≡ suc job → job < last → last ≤ length v.steps → IsFlush v c job last → d ≡ with_state c job Done → IsFlush v d next last
flush_next v c d job last next at l within f e = subst (λ (x : CoreState). IsFlush v x next last) (sym e) (record {
  under = under_set v c job Done f.under;
  before = λ i m. elim (cases_eq i job) [
    | inl here ↦ ap (λ (y : ℕ). state_of (with_state c job Done) y) here ∙ at_here c job Done (let n = f.under.same_length in omega (arith, n))
    | inr other ↦ at_other c job i Done other ∙ f.before i (omega arith)
  ];
  ready = λ i m n. let ne : i ≢ job = λ (x : i ≡ job). omega (arith, x) in subst (λ (s : JobState). IsTrue (is_settled s)) (sym (at_other c job i Done ne)) (f.ready i (omega arith) n);
  rest = λ i m. let ne : i ≢ job = λ (x : i ≡ job). omega (arith, x) in subst (λ (s : JobState). IsTrue (is_new s)) (sym (at_other c job i Done ne)) (f.rest i m);
})

pub flush_ends : (v : MakerView) (c : CoreState) (job last : ℕ) → job ≡ last → IsFlush v c job last → IsGroup v c last last
flush_ends v c job last e f = record {
  under = f.under;
  before = λ i l. f.before i (omega arith);
  staged = λ i l m. absurd (omega arith);
  rest = f.rest;
}

pub flushed_core : (c d e : CoreState) (j : ℕ) → d ≡ after c (Commit j) → e ≡ with_state d j Done → e ≡ with_state c j Done
flushed_core c d e j a b = b ∙ ap (λ (x : CoreState). with_state x j Done) a
    ∙ ap (λ (ss : List JobState). record { phase = c.phase; steps = c.steps; states = ss }) (set_twice c.states j (Going 0) Done)

-- ### Staging

pub group_next : (v : MakerView) (c d : CoreState) (first job next : ℕ) → next ≡ suc job → first ≤ job → job < length v.steps → IsGroup v c first job → d ≡ with_state c job Staged → IsGroup v d first next
group_next v c d first job next at order within g e = subst (λ (x : CoreState). IsGroup v x first next) (sym e) (record {
  under = under_set v c job Staged g.under;
  before = λ i l. let ne : i ≢ job = λ (x : i ≡ job). omega (arith, x) in at_other c job i Staged ne ∙ g.before i l;
  staged = λ i l m. elim (cases_eq i job) [
    | inl here ↦ subst (λ (s : JobState). IsTrue (is_staged s)) (sym (ap (λ (y : ℕ). state_of (with_state c job Staged) y) here ∙ at_here c job Staged (let n = g.under.same_length in omega (arith, n)))) refl
    | inr other ↦ subst (λ (s : JobState). IsTrue (is_staged s)) (sym (at_other c job i Staged other)) (g.staged i l (let less : i ≤ job = omega arith in order_less i job less other))
  ];
  rest = λ i l. let ne : i ≢ job = λ (x : i ≡ job). omega (arith, x) in subst (λ (s : JobState). IsTrue (is_new s)) (sym (at_other c job i Staged ne)) (g.rest i (omega arith));
})
  where
    order_less : (i job : ℕ) → i ≤ job → i ≢ job → i < job
    order_less i job l ne = elim (cases_lt i job) [ inl h ↦ h | inr h ↦ absurd (ne (omega arith)) ]

-- ### How many are ahead

ahead_next : (ss : List JobState) (j n : ℕ) → get_or ss j Done ≢ Done → n ≡ ahead ss j → ahead ss (suc j) ≡ suc n
ahead_next ss j n ne e = rw (not_done (get_or ss j Done) ne) (omega (arith, e))
  where
    not_done : (s : JobState) → s ≢ Done → is_done s ≡ false
    not_done (Fresh n) ne = refl
    not_done Staged ne = refl
    not_done Ready ne = refl
    not_done (Going n) ne = refl
    not_done Done ne = absurd (ne refl)

staged_not_done : Staged ≢ Done
staged_not_done e = cc

pub ahead_staged : (c d : CoreState) (job next taken more : ℕ) → next ≡ suc job → more ≡ suc taken → job < length c.states → d ≡ with_state c job Staged → ahead c.states job ≡ taken → ahead d.states next ≡ more
ahead_staged c d job next taken more at up l e count =
    let here : state_of (with_state c job Staged) job ≡ Staged = at_here c job Staged l in
    let ne : state_of (with_state c job Staged) job ≢ Done = λ x. staged_not_done (sym here ∙ x) in
    let same : taken ≡ ahead (set c.states job Staged) job = sym (ahead_set c.states job Staged job (omega arith) ∙ count) in
    ap (λ (x : CoreState). ahead x.states next) e ∙ ap (λ (y : ℕ). ahead (set c.states job Staged) y) at ∙ ahead_next (set c.states job Staged) job taken ne same ∙ sym up

pub ahead_none : (c : CoreState) (n : ℕ) → ((i : ℕ) → i < n → state_of c i ≡ Done) → ahead c.states n ≡ 0
ahead_none c zero each = refl
ahead_none c (suc n) each = rw (each n (omega arith), ahead_none c n (λ i l. each i (omega arith))) refl
