-- A settle that looks at a span of the jobs settles all of them.
use Rattle.std.proofs.Common.{◌≡◌, inl, inr, ℕ, suc, zero, ◌<◌, ◌≤◌, Bool, true, false, if◌then◌else◌, ◌==◌, List, [], ◌∷◌, map, length, get_or, set, replicate, refl, sym, ◌∙◌, ap, subst, arith, length-set, get_or-set_other, get_or-set_same, ext_get_or}
use Rattle.std.proofs.lemmas.Bool.{cases_eq, cases_lt}
use Rattle.std.proofs.lemmas.List.{get_or_past, length-map, length-replicate, get_or-replicate}
use Rattle.journal_core.specs.declared.event.JobState.{JobState}
use Rattle.journal_core.specs.declared.event.JobState.TheVariants.{Fresh, Staged, Ready, Going, Done}
use Rattle.journal_core.specs.Table.{settled_job, moved_next}
use Rattle.journal_core.specs.Span.{is_staged, SpanHas, SpanCovers, SettledTo}
use Rattle.journal_core.proofs.Rows.{settled_at}

never : {A : Type 0} → true ≡ false → A
never e = absurd (cc)

-- ### One job

unstaged : (s : JobState) → is_staged s ≡ false → settled_job s ≡ s
unstaged (Fresh n) h = refl
unstaged Staged h = never h
unstaged Ready h = refl
unstaged (Going n) h = refl
unstaged Done h = refl

settled_unstaged : (s : JobState) → is_staged (settled_job s) ≡ false
settled_unstaged (Fresh n) = refl
settled_unstaged Staged = refl
settled_unstaged Ready = refl
settled_unstaged (Going n) = refl
settled_unstaged Done = refl

moved_by : (test : Bool) (k : ℕ) → is_staged (if test then Done else Going (suc k)) ≡ false
moved_by true k = refl
moved_by false k = refl

pub moved_unstaged : (k n : ℕ) → is_staged (moved_next k n) ≡ false
moved_unstaged k n = moved_by (suc k == n) k

-- ### The span

-- none is staged
none_has : (ss : List JobState) → ((i : ℕ) → is_staged (get_or ss i Done) ≡ false) → SpanHas 0 0 ss
none_has ss each = record { inside = omega arith; staged = λ i h. never (sym h ∙ each i) }

fresh_unstaged : (n i : ℕ) → is_staged (get_or (replicate n (Fresh 0)) i Done) ≡ false
fresh_unstaged n i = elim (cases_lt i n) [
  | inl l ↦ rw (get_or-replicate n i (Fresh 0) Done l) refl
  | inr l ↦ let long = length-replicate n (Fresh 0) in rw (get_or_past (replicate n (Fresh 0)) i Done (omega (arith, long, l))) refl
]

pub span_new : (ss : List JobState) (n : ℕ) → ss ≡ replicate n (Fresh 0) → SpanHas 0 0 ss
span_new ss n is = subst (λ (x : List JobState). SpanHas 0 0 x) (sym is) (none_has (replicate n (Fresh 0)) (fresh_unstaged n))

pub span_none : SpanHas 0 0 []
span_none = none_has [] (λ i. refl)

staged_inside : (ss : List JobState) (i : ℕ) → is_staged (get_or ss i Done) ≡ true → i < length ss
staged_inside [] i h = never (sym h)
staged_inside (s ∷ ss) zero h = omega arith
staged_inside (s ∷ ss) (suc i) h = let l = staged_inside ss i h in omega (arith, l)

pub span_all : (ss : List JobState) → SpanHas 0 (length ss) ss
span_all ss = record { inside = omega arith; staged = λ i h. (omega arith, staged_inside ss i h) }

pub span_settled : (ss ts : List JobState) → ts ≡ map settled_job ss → SpanHas 0 0 ts
span_settled ss ts is = subst (λ (x : List JobState). SpanHas 0 0 x) (sym is) (none_has (map settled_job ss) (λ i. ap is_staged (settled_at ss i) ∙ settled_unstaged (get_or ss i Done)))

-- a job takes a state that isn't staged
pub span_set : (a b : ℕ) (ss : List JobState) (j : ℕ) (s : JobState) → SpanHas a b ss → j < length ss → is_staged s ≡ false → SpanHas a b (set ss j s)
span_set a b ss j s h l not_so = record {
  inside = let long = length-set ss j s in let small = h.inside in omega (arith, long, small);
  staged = λ i is. elim (cases_eq i j) [
    | inl e ↦ never (sym (subst (λ (x : ℕ). is_staged (get_or (set ss j s) x Done) ≡ true) e is) ∙ (ap is_staged (get_or-set_same ss j s Done l) ∙ not_so))
    | inr ne ↦ h.staged i (ap is_staged (sym (get_or-set_other ss j i s Done ne)) ∙ is)
  ];
}

-- or any state, where the span comes to have it
pub span_staged : (a b : ℕ) (ss : List JobState) (j : ℕ) (s : JobState) (first end : ℕ) → SpanHas a b ss → j < length ss → SpanCovers a b j first end → SpanHas first end (set ss j s)
span_staged a b ss j s first end h l c = record {
  inside = let long = length-set ss j s in let small = c.within (length ss) h.inside l in omega (arith, long, small);
  staged = λ i is. elim (cases_eq i j) [
    | inl e ↦ subst (λ (x : ℕ). (first ≤ x) × (x < end)) (sym e) c.one
    | inr ne ↦ let was = h.staged i (ap is_staged (sym (get_or-set_other ss j i s Done ne)) ∙ is) in c.old i was.0 was.1
  ];
}

-- ### The loop

outside : (a b : ℕ) (ss : List JobState) (i : ℕ) → SpanHas a b ss → ((a ≤ i) × (i < b) → ⊥) → is_staged (get_or ss i Done) ≡ false
outside a b ss i h not_in = by_state (is_staged (get_or ss i Done)) refl
  where
    by_state : (t : Bool) → is_staged (get_or ss i Done) ≡ t → is_staged (get_or ss i Done) ≡ false
    by_state true e = absurd (not_in (h.staged i e))
    by_state false e = e

pub settled_whole : (a b : ℕ) (old now : List JobState) (i : ℕ) → SpanHas a b old → SettledTo old now i → b ≤ i → now ≡ map settled_job old
settled_whole a b old now i h so past = ext_get_or Done now (map settled_job old) (so.same_length ∙ sym (length-map old settled_job)) (λ k l. each k ∙ sym (settled_at old k))
  where
    each : (k : ℕ) → get_or now k Done ≡ settled_job (get_or old k Done)
    each k = elim (cases_lt k i) [
      | inl l ↦ so.before k l
      | inr l ↦ so.behind k l ∙ sym (unstaged (get_or old k Done) (outside a b old k h (λ p. omega (arith, p.1, l, past))))
    ]

-- what the functions of a core lack
pub ruleset span_laws = (span_new, span_none, span_all, span_settled, span_set, moved_unstaged)
