-- How decisions are put together, and those of single tests.
use Rattle.std.proofs.Common.{Bool, true, false, ◌≡◌, ◌≢◌, ◌⊎◌, inl, inr, ℕ, zero, suc, ◌+◌, ◌<◌, ◌≤◌, List, length, Option, Some, None, refl, subst, arith}
use Rattle.std.proofs.lemmas.Bool.{cases_Bool, cases_eq, cases_lt}
use Rattle.dw_base.specs.Lebs.{initial_length_at}
use Rattle.dw_base.specs.declared.fault.Refusal.{Refusal}
use Rattle.dw_base.specs.declared.shared.Order.{Order}
use Rattle.dw_base.specs.declared.shared.Width.{Width}
use Rattle.refusal_laws.specs.Decided.{Decided, taken, refused, Both, SomeFails, some_fails}

-- what is taken is more, and what fails is one of more rows
pub decided-by : {A B : Type 0} {F : Refusal → Type 0} → (A → B) → Decided A F → Decided B F
decided-by f (taken a) = taken (f a)
decided-by f (refused r h) = refused r h

pub decided-among : {A : Type 0} {F G : Refusal → Type 0} → ((r : Refusal) → F r → G r) → Decided A F → Decided A G
decided-among g (taken a) = taken a
decided-among g (refused r h) = refused r (g r h)

-- one thing, and where it is taken another
pub decided-both : {A B : Type 0} {F : Refusal → Type 0} → Decided A F → (A → Decided B F) → Decided (Both A B) F
decided-both {A} {B} {F} (refused r h) next = refused r h
decided-both {A} {B} {F} (taken a) next = decided-by (λ (b : B). record { first = a; second = b }) (next a)

-- all of so many
pub decided-each : {P : ℕ → Type 0} {F : ℕ → Refusal → Type 0} → (n : ℕ) → ((i : ℕ) → i < n → Decided (P i) (F i)) → Decided ((i : ℕ) → i < n → P i) (SomeFails n F)
decided-each {P} {F} zero one = taken (λ (i : ℕ) (lt : i < 0). absurd (omega (arith, lt)))
decided-each {P} {F} (suc n) one = by_front (decided-each {P = P} {F = F} n (λ (i : ℕ) (lt : i < n). one i (omega (arith, lt))))
  where
    by_last : ((i : ℕ) → i < n → P i) → Decided (P n) (F n) → Decided ((i : ℕ) → i < suc n → P i) (SomeFails (suc n) F)
    by_last front (refused r h) = refused r (some_fails n (omega arith) h)
    by_last front (taken p) = taken (λ (i : ℕ) (lt : i < suc n). elim (cases_lt i n) [
      | inl below ↦ front i below
      | inr past ↦ let same : n ≡ i = omega (arith, lt, past) in subst P same p
    ])

    by_front : Decided ((i : ℕ) → i < n → P i) (SomeFails n F) → Decided ((i : ℕ) → i < suc n → P i) (SomeFails (suc n) F)
    by_front (refused r (some_fails i lt h)) = refused r (some_fails i (omega (arith, lt)) h)
    by_front (taken front) = by_last front (one n (omega arith))

-- two numbers are the same, or one is at most the other
pub decided-same : {F : Refusal → Type 0} → (a b : ℕ) (r : Refusal) → (a ≢ b → F r) → Decided (a ≡ b) F
decided-same {F} a b r fails = elim (cases_eq a b) [
  | inl same ↦ taken same
  | inr other ↦ refused r (fails other)
]

pub decided-other : {F : Refusal → Type 0} → (a b : ℕ) (r : Refusal) → (a ≡ b → F r) → Decided (a ≢ b) F
decided-other {F} a b r fails = elim (cases_eq a b) [
  | inl same ↦ refused r (fails same)
  | inr other ↦ taken other
]

pub decided-most : {F : Refusal → Type 0} → (a b : ℕ) (r : Refusal) → (b < a → F r) → Decided (a ≤ b) F
decided-most {F} a b r fails = elim (cases_lt b a) [
  | inl past ↦ refused r (fails past)
  | inr within ↦ taken within
]

pub decided-below : {F : Refusal → Type 0} → (a b : ℕ) (r : Refusal) → (b ≤ a → F r) → Decided (a < b) F
decided-below {F} a b r fails = elim (cases_lt a b) [
  | inl within ↦ taken within
  | inr past ↦ refused r (fails past)
]

-- a test holds
pub decided-true : {F : Refusal → Type 0} → (b : Bool) (r : Refusal) → (b ≡ false → F r) → Decided (b ≡ true) F
decided-true {F} b r fails = elim (cases_Bool b) [
  | inl holds ↦ taken holds
  | inr not_ ↦ refused r (fails not_)
]

pub decided-false : {F : Refusal → Type 0} → (b : Bool) (r : Refusal) → (b ≡ true → F r) → Decided (b ≡ false) F
decided-false {F} b r fails = elim (cases_Bool b) [
  | inl holds ↦ refused r (fails holds)
  | inr not_ ↦ taken not_
]

-- a test doesn't both hold and fail
pub clash : {b : Bool} → b ≡ true → b ≡ false → ⊥
clash e f = cc

-- something that is known not to be
pub decided-against : {P : Type 0} {F : Refusal → Type 0} → P ⊎ (P → ⊥) → (r : Refusal) → (P → F r) → Decided (P → ⊥) F
decided-against (inl is) r fails = refused r (fails is)
decided-against (inr is_not) r fails = taken is_not

pub decided-or : {P Q : Type 0} {F : Refusal → Type 0} → P ⊎ Q → (r : Refusal) → (Q → F r) → Decided P F
decided-or (inl is) r fails = taken is
decided-or (inr other) r fails = refused r (fails other)

-- where something is asked only of a number that isn't 0, of one that is another, or where a test holds or fails
pub decided-some : {A : Type 0} {F : Refusal → Type 0} → (n : ℕ) → (n ≢ 0 → Decided A F) → Decided (n ≢ 0 → A) F
decided-some {A} {F} n one = elim (cases_eq n 0) [
  | inl none ↦ taken (λ (some : n ≢ 0). absurd (some none))
  | inr some ↦ decided-by (λ (a : A). λ (again : n ≢ 0). a) (one some)
]

pub decided-at : {A : Type 0} {F : Refusal → Type 0} → (a b : ℕ) → (a ≡ b → Decided A F) → Decided (a ≡ b → A) F
decided-at {A} {F} a b one = elim (cases_eq a b) [
  | inl same ↦ decided-by (λ (x : A). λ (again : a ≡ b). x) (one same)
  | inr other ↦ taken (λ (same : a ≡ b). absurd (other same))
]

pub decided-if : {A : Type 0} {F : Refusal → Type 0} → (b : Bool) → (b ≡ true → Decided A F) → Decided (b ≡ true → A) F
decided-if {A} {F} b one = elim (cases_Bool b) [
  | inl holds ↦ decided-by (λ (x : A). λ (again : b ≡ true). x) (one holds)
  | inr not_ ↦ taken (λ (holds : b ≡ true). absurd (clash holds not_))
]

pub decided-not : {A : Type 0} {F : Refusal → Type 0} → (b : Bool) → (b ≡ false → Decided A F) → Decided (b ≡ false → A) F
decided-not {A} {F} b one = elim (cases_Bool b) [
  | inl holds ↦ taken (λ (not_ : b ≡ false). absurd (clash holds not_))
  | inr not_ ↦ decided-by (λ (x : A). λ (again : b ≡ false). x) (one not_)
]

-- an initial length stands at a place, is so many at least, and all that it counts is there
pub length-decided : {A : Type 0} {F : Refusal → Type 0} (order : Order) (bytes : List ℕ) (start least : ℕ) (r : Refusal) → (initial_length_at order bytes start ≡ None → F r)
    → ((l : Width × ℕ × ℕ) → initial_length_at order bytes start ≡ Some l → length bytes < start + l.2 + l.1 → F r)
    → ((l : Width × ℕ × ℕ) → initial_length_at order bytes start ≡ Some l → l.1 < least → F r)
    → ((l : Width × ℕ × ℕ) → initial_length_at order bytes start ≡ Some l → start + l.2 + l.1 ≤ length bytes → least ≤ l.1 → Decided A F) → Decided A F
length-decided {A} {F} order bytes start least r none far short rest = by (initial_length_at order bytes start) refl
  where
    by_size : (l : Width × ℕ × ℕ) → initial_length_at order bytes start ≡ Some l → (length bytes < start + l.2 + l.1) ⊎ (start + l.2 + l.1 ≤ length bytes)
        → (l.1 < least) ⊎ (least ≤ l.1) → Decided A F
    by_size l e (inl passes) s = refused r (far l e passes)
    by_size l e (inr within) (inl less) = refused r (short l e less)
    by_size l e (inr within) (inr room) = rest l e within room

    by : (o : Option (Width × ℕ × ℕ)) → initial_length_at order bytes start ≡ o → Decided A F
    by None e = refused r (none e)
    by (Some l) e = by_size l e (cases_lt (length bytes) (start + l.2 + l.1)) (cases_lt l.1 least)
