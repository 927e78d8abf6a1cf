-- Laws of marks: a mark more, and the slots that are marked with one value more.
use Rattle.std.proofs.Common.{Bool, true, false, ◌≡◌, ◌⊎◌, inl, inr, ℕ, zero, ◌+◌, ◌/◌, ◌%◌, ◌<◌, ◌≤◌, nat_lt, ◌==◌, ◌&&◌, ◌||◌, List, [], length, get_or, replicate, slice_set, Fits, w8, refl, sym, ap, ◌∙◌, arith}
use Rattle.std.proofs.lemmas.Bool.{cases_eq, eq-eqb, ne_eqb}
use Rattle.std.proofs.lemmas.Bool.Decides.{nat_tests}
use Rattle.std.proofs.lemmas.List.{length-set, get_or-set_same, get_or-set_other, get_or-replicate, get_or_past, length-replicate}
use Rattle.dw_base.specs.TextIndexes.{Indexing}
use Rattle.dw_offsets.specs.NamedPlaces.{is_kind}
use Rattle.dw_offsets.specs.SlotMarks.{has_mark, marked, IsMarkWith, IsMarked, AreMarks}

or-false : (b : Bool) → (b || false) ≡ b
or-false true = refl
or-false false = refl

or-true : (b : Bool) → (b || true) ≡ true
or-true true = refl
or-true false = refl

-- what a mark stands for, with one thing more
marks-with : (old new : ℕ) (path : Bool) → has_mark true new ≡ (has_mark true old || is_kind true path)
    → has_mark false new ≡ (has_mark false old || is_kind false path) → IsMarkWith old new path
marks-with old new path p o = record { each = each }
  where
    each : (kind : Bool) → has_mark kind new ≡ (has_mark kind old || is_kind kind path)
    each true = p
    each false = o

pub mark-stays : (old : ℕ) (path : Bool) → has_mark path old ≡ true → IsMarkWith old old path
mark-stays old true e = marks-with old old true (e ∙ sym (or-true (has_mark true old))) (sym (or-false (has_mark false old)))
mark-stays old false e = marks-with old old false (sym (or-false (has_mark true old))) (e ∙ sym (or-true (has_mark false old)))

odd-next : (m : ℕ) → (m % 2 == 1) ≡ false → ((m + 1) % 2 == 1) ≡ true
odd-next m e = grind (arith, nat_tests)

half-next : (m : ℕ) → (m % 2 == 1) ≡ false → (m + 1) / 2 ≡ m / 2
half-next m e = grind (arith, nat_tests)

pub mark-path : (old : ℕ) (path : Bool) → has_mark path old ≡ false → path ≡ true → IsMarkWith old (old + 1) path
mark-path old true e is =
    marks-with old (old + 1) true (odd-next old e ∙ sym (or-true (has_mark true old)))
    (ap (λ (h : ℕ). h % 2 == 1) (half-next old e) ∙ sym (or-false (has_mark false old)))
mark-path old false e is = absurd cc

odd-kept : (m : ℕ) → (m + 2) % 2 ≡ m % 2
odd-kept m = omega arith

half-other : (m : ℕ) → (m / 2 % 2 == 1) ≡ false → ((m + 2) / 2 % 2 == 1) ≡ true
half-other m e = grind (arith, nat_tests)

pub mark-other : (old : ℕ) (path : Bool) → has_mark path old ≡ false → path ≡ false → IsMarkWith old (old + 2) path
mark-other old false e is =
    marks-with old (old + 2) false (ap (λ (h : ℕ). h == 1) (odd-kept old) ∙ sym (or-false (has_mark true old)))
    (half-other old e ∙ sym (or-true (has_mark false old)))
mark-other old true e is = absurd cc

-- a byte has room for it
pub path-fits : (old : ℕ) (path : Bool) → Fits w8 old → has_mark path old ≡ false → path ≡ true → Fits w8 (old + 1)
path-fits old true f e is = grind (arith, nat_tests)
path-fits old false f e is = absurd cc

pub other-fits : (old : ℕ) (path : Bool) → Fits w8 old → has_mark path old ≡ false → path ≡ false → Fits w8 (old + 2)
other-fits old false f e is = grind (arith, nat_tests)
other-fits old true f e is = absurd cc

pub ruleset mark_laws = (mark-stays, mark-path, mark-other, path-fits, other-fits)

-- a mark that is put at a place
and-true : (b : Bool) → (b && true) ≡ b
and-true true = refl
and-true false = refl

and-false : (b : Bool) → (b && false) ≡ false
and-false true = refl
and-false false = refl

pub mark-put : (old new : List ℕ) (at m : ℕ) (path : Bool) → new ≡ slice_set old at m → IsMarkWith (get_or old at 0) m path → at < length old
    → IsMarked old new path at
mark-put old new at m path is with_one lt = record {
  size = ap (λ (l : List ℕ). length l) is ∙ length-set old at m;
  each = λ kind place. ap (λ (l : List ℕ). marked kind l place) is ∙ by_place kind place (cases_eq at place);
}
  where
    by_place : (kind : Bool) (place : ℕ) → (at ≡ place) ⊎ (at ≡ place → ⊥)
        → marked kind (slice_set old at m) place ≡ (marked kind old place || (is_kind kind path && at == place))
    by_place kind place (inl same) =
        ap (λ (k : ℕ). marked kind (slice_set old at m) k) (sym same)
        ∙ ap (has_mark kind) (get_or-set_same old at m 0 lt) ∙ with_one.each kind
        ∙ ap (λ (k : ℕ). marked kind old k || is_kind kind path) same
        ∙ ap (λ (b : Bool). marked kind old place || b) (sym (and-true (is_kind kind path)))
        ∙ ap (λ (b : Bool). marked kind old place || (is_kind kind path && b)) (sym (eq-eqb at place same))
    by_place kind place (inr other) =
        ap (has_mark kind) (get_or-set_other old at place m 0 (λ (e : place ≡ at). other (sym e)))
        ∙ sym (or-false (marked kind old place))
        ∙ ap (λ (b : Bool). marked kind old place || b) (sym (and-false (is_kind kind path)))
        ∙ ap (λ (b : Bool). marked kind old place || (is_kind kind path && b)) (sym (ne_eqb at place other))

pub ruleset put_laws = (mark-put)

-- where nothing is marked, no value names a slot
abbrev unmarked : ℕ → List ℕ
unmarked n = replicate n 0

not_marked : (kind : Bool) (n place : ℕ) → get_or (unmarked n) place 0 ≡ 0 → marked kind (unmarked n) place ≡ false
not_marked true n place e = ap (has_mark true) e
not_marked false n place e = ap (has_mark false) e

no-mark : (n place : ℕ) (b : Bool) → nat_lt place n ≡ b → get_or (unmarked n) place 0 ≡ 0
no-mark n place true e = get_or-replicate n place 0 0 (grind (arith, nat_tests))
no-mark n place false e =
    let size : length (unmarked n) ≡ n = length-replicate n zero in
    get_or_past (unmarked n) place 0 (grind (arith, nat_tests, size))

-- nothing is marked past the end
zero-mark : (path : Bool) → has_mark path 0 ≡ false
zero-mark true = refl
zero-mark false = refl

pub mark-past : (path : Bool) (marks : List ℕ) (place : ℕ) → length marks ≤ place → false ≡ marked path marks place
mark-past path marks place le = sym (ap (has_mark path) (get_or_past marks place 0 le) ∙ zero-mark path)

pub ruleset past_laws = (mark-past)

pub marks-none : (n : ℕ) (g : Indexing) → AreMarks (unmarked n) g []
marks-none n g = record { each = λ path place. not_marked path n place (no-mark n place (nat_lt place n) refl) }
