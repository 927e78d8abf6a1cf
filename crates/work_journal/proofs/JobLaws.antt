-- A job on its way, step by step: what the table allows, and where the core comes to.
use Rattle.std.proofs.Common.{◌≡◌, ◌≢◌, ℕ, suc, zero, ◌<◌, ◌≤◌, List, [], ◌∷◌, length, get_or, set, refl, sym, ◌∙◌, ap, subst, arith, IsTrue, eq-eqb, ne_eqb, get_or-set_other}
use Rattle.std.proofs.lemmas.List.{set-get_or}
use Rattle.journal_core.specs.declared.event.Event.TheVariants.{Stage, Move}
use Rattle.journal_core.specs.declared.event.JobState.{JobState}
use Rattle.journal_core.specs.declared.event.JobState.TheVariants.{Fresh, Staged, Going, Done}
use Rattle.journal_core.specs.Table.{CoreState, allows, after, with_state}
use Rattle.journal_core.specs.Relation.{IsNear, ahead}
use Rattle.journal_core.proofs.Rows.{is_inside}
use Rattle.work_journal.specs.Jobs.{staged_at, moved_at, MayStage, MayMove}

-- ### One state of a list

pub set_here : (ss : List JobState) (j : ℕ) (s : JobState) → j < length ss → get_or (set ss j s) j Done ≡ s
set_here [] j s l = absurd (omega arith)
set_here (x ∷ ss) zero s l = refl
set_here (x ∷ ss) (suc j) s l = set_here ss j s (omega arith)

pub set_twice : (ss : List JobState) (j : ℕ) (s t : JobState) → set (set ss j s) j t ≡ set ss j t
set_twice [] j s t = refl
set_twice (x ∷ ss) zero s t = refl
set_twice (x ∷ ss) (suc j) s t = ap (λ (l : List JobState). x ∷ l) (set_twice ss j s t)

pub set_same : (ss : List JobState) (j : ℕ) (s : JobState) → get_or ss j Done ≡ s → set ss j s ≡ ss
set_same ss j s e = ap (λ (x : JobState). set ss j x) (sym e) ∙ set-get_or ss j Done

pub ahead_set : (ss : List JobState) (j : ℕ) (s : JobState) (i : ℕ) → i ≤ j → ahead (set ss j s) i ≡ ahead ss i
ahead_set ss j s zero l = refl
ahead_set ss j s (suc i) l =
    let ne : i ≢ j = λ (e : i ≡ j). omega (arith, e) in
    let here : get_or (set ss j s) i Done ≡ get_or ss i Done = get_or-set_other ss j i s Done ne in
    rw (ahead_set ss j s i (omega arith), here) refl

-- ### Staging

staged_first : (n : ℕ) → 0 < n → staged_at 0 n ≡ Fresh 0
staged_first n some = let ne : 0 ≢ n = λ (e : 0 ≡ n). omega (arith, e) in rw (ne_eqb 0 n ne) refl

staged_below : (k n : ℕ) → k < n → staged_at k n ≡ Fresh k
staged_below k n l = let ne : k ≢ n = λ (e : k ≡ n). omega (arith, e) in rw (ne_eqb k n ne) refl

pub staged_all : (n : ℕ) → staged_at n n ≡ Staged
staged_all n = rw (eq-eqb n n refl) refl

not_done : (k : ℕ) → Fresh k ≢ Done
not_done k e = cc

inside : (c : CoreState) (j n : ℕ) → MayStage c j n → j < length c.states
inside c j n may = is_inside c.states j (λ e. not_done 0 (sym may.is_new ∙ e))

pub staging_begins : (c : CoreState) (j n : ℕ) → MayStage c j n → c ≡ with_state c j (staged_at 0 n)
staging_begins c j n may =
    let same : set c.states j (staged_at 0 n) ≡ c.states = set_same c.states j (staged_at 0 n) (may.is_new ∙ sym (staged_first n may.some)) in
    ap (λ (ss : List JobState). record { phase = c.phase; steps = c.steps; states = ss }) (sym same)

pub staging_allows : (c d : CoreState) (j k n : ℕ) → MayStage c j n → k < n → d ≡ with_state c j (staged_at k n) → IsTrue (allows d (Stage j k))
staging_allows c d j k n may l e =
    let here : get_or (set c.states j (staged_at k n)) j Done ≡ Fresh k = set_here c.states j (staged_at k n) (inside c j n may) ∙ staged_below k n l in
    subst (λ (x : CoreState). IsTrue (allows x (Stage j k))) (sym e) (rw (may.running, here, eq-eqb k k refl) refl)

pub staging_near : (c d : CoreState) (j k n : ℕ) → MayStage c j n → d ≡ with_state c j (staged_at k n) → IsNear d (Stage j k)
staging_near c d j k n may e =
    let same : ahead (set c.states j (staged_at k n)) j ≡ ahead c.states j = ahead_set c.states j (staged_at k n) j (omega arith) in
    subst (λ (x : CoreState). ahead x.states j < 64) (sym e) (subst (λ (a : ℕ). a < 64) (sym same) may.near)

pub staging_next : (c d e : CoreState) (j k n : ℕ) (l : ℕ) → l ≡ suc k → MayStage c j n → d ≡ with_state c j (staged_at k n) → e ≡ after d (Stage j k) → e ≡ with_state c j (staged_at l n)
staging_next c d e j k n l after_k may is next = next ∙ ap (λ (x : CoreState). after x (Stage j k)) is ∙ step ∙ ap (λ (x : ℕ). with_state c j (staged_at x n)) (sym after_k)
  where
    step : after (with_state c j (staged_at k n)) (Stage j k) ≡ with_state c j (staged_at (suc k) n)
    step = rw (may.steps_are, set_twice c.states j (staged_at k n) (staged_at (suc k) n)) refl

pub staging_ends : (c d : CoreState) (j k n : ℕ) → k ≡ n → d ≡ with_state c j (staged_at k n) → d ≡ with_state c j Staged
staging_ends c d j k n all is = is ∙ ap (λ (s : JobState). with_state c j s) (ap (λ (x : ℕ). staged_at x n) all ∙ staged_all n)

-- ### Moving

moved_below : (k n : ℕ) → k < n → moved_at k n ≡ Going k
moved_below k n l = let ne : k ≢ n = λ (e : k ≡ n). omega (arith, e) in rw (ne_eqb k n ne) refl

moved_all : (n : ℕ) → moved_at n n ≡ Done
moved_all n = rw (eq-eqb n n refl) refl

going_not_done : (k : ℕ) → Going k ≢ Done
going_not_done k e = cc

pub moving_begins : (c : CoreState) (j k n : ℕ) → MayMove c j k n → c ≡ with_state c j (moved_at k n)
moving_begins c j k n may =
    let same : set c.states j (moved_at k n) ≡ c.states = set_same c.states j (moved_at k n) (may.going ∙ sym (moved_below k n may.below)) in
    ap (λ (ss : List JobState). record { phase = c.phase; steps = c.steps; states = ss }) (sym same)

pub moving_allows : (c d : CoreState) (j first k n : ℕ) → MayMove c j first n → k < n → d ≡ with_state c j (moved_at k n) → IsTrue (allows d (Move j k))
moving_allows c d j first k n may l e =
    let within : j < length c.states = is_inside c.states j (λ x. going_not_done first (sym may.going ∙ x)) in
    let here : get_or (set c.states j (moved_at k n)) j Done ≡ Going k = set_here c.states j (moved_at k n) within ∙ moved_below k n l in
    subst (λ (x : CoreState). IsTrue (allows x (Move j k))) (sym e) (rw (here, eq-eqb k k refl) refl)

pub moving_next : (c d e : CoreState) (j first k n : ℕ) (l : ℕ) → l ≡ suc k → MayMove c j first n → d ≡ with_state c j (moved_at k n) → e ≡ after d (Move j k) → e ≡ with_state c j (moved_at l n)
moving_next c d e j first k n l after_k may is next = next ∙ ap (λ (x : CoreState). after x (Move j k)) is ∙ step ∙ ap (λ (x : ℕ). with_state c j (moved_at x n)) (sym after_k)
  where
    step : after (with_state c j (moved_at k n)) (Move j k) ≡ with_state c j (moved_at (suc k) n)
    step = rw (may.steps_are, set_twice c.states j (moved_at k n) (moved_at (suc k) n)) refl

pub moving_ends : (c d : CoreState) (j k n : ℕ) → k ≡ n → d ≡ with_state c j (moved_at k n) → d ≡ with_state c j Done
moving_ends c d j k n all is = is ∙ ap (λ (s : JobState). with_state c j s) (ap (λ (x : ℕ). moved_at x n) all ∙ moved_all n)
