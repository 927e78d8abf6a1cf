-- Laws of fields in any order: which one begins at a place doesn't depend on the order.
use Rattle.std.proofs.Common.{◌≡◌, ◌≢◌, ◌⊎◌, ℕ, zero, suc, ◌+◌, ◌<◌, ◌≤◌, ◌==◌, Bool, true, false, if◌then◌else◌, List, [], ◌∷◌, ◌++◌, length, Option, Some, None, inl, inr, refl, sym, ap, ◌∙◌, subst, arith}
use Rattle.std.specs.Prelude.{Contains, slice_index_or, sum_by}
use Rattle.std.specs.List.Sorted.{IsNonDecreasingBy, IsPermutation}
use Rattle.std.proofs.lemmas.Bool.{cases_lt, eq-eqb, eqb-true, ne_eqb}
use Rattle.std.proofs.lemmas.List.{length-append}
use Rattle.std.proofs.lemmas.List.Elements.{Contains-get_or, at_from_Contains}
use Rattle.std.proofs.lemmas.List.Sums.{sum_by-cons}
use Rattle.std.proofs.lemmas.List.Sorted.{Contains-permutation, IsPermutation-sym, sum_by-IsPermutation}
use Rattle.dw_base.specs.RelocChanges.{with_reloc}
use Rattle.dw_base.specs.SectionRelocations.{RelocationSource, is_none_type, records_in}
use Rattle.dw_patch.specs.OffsetLists.{OffsetsFit, count_at}
use Rattle.dw_patch.specs.RecordMoves.{AllSized, FieldsRise, addend_if, field_start, moved_table, no_field, nth_record, patch_for, record_put, record_step, records_moved}
use Rattle.elf_relocs.specs.Runs.{place_by}
use Rattle.elf_layout.specs.declared.patch.Patch.{Patch}
use Rattle.elf_relocs.specs.declared.runs.Run.{Run}

-- none
pub fit-none : (list : List Patch) → list ≡ [] → OffsetsFit list
fit-none list none = subst OffsetsFit (sym none) (record {
  sized = record { sized = λ i lt. absurd (omega (arith, lt)) };
  once = λ place. omega arith;
})

pub ruleset new_rules = (fit-none)

-- and one more
count-append : (xs ys : List Patch) (place : ℕ) → count_at (xs ++ ys) place ≡ count_at xs place + count_at ys place
count-append [] ys place = omega arith
count-append (x ∷ xs) ys place =
    let rest = count-append xs ys place in
    omega (arith, rest)

count-none : (xs : List Patch) (place : ℕ) → patch_for xs place ≡ None → count_at xs place ≡ 0
count-none [] place e = refl
count-none (x ∷ xs) place e = by_test (x.at == place) e (count-none xs place)
  where
    by_test : (b : Bool) → (if b then Some x else patch_for xs place) ≡ None → (patch_for xs place ≡ None → count_at xs place ≡ 0) → (if b then 1 else 0) + count_at xs place ≡ 0
    by_test true none rest = absurd cc
    by_test false none rest = let zero_is = rest none in omega (arith, zero_is)

one-count : (f : Patch) (place : ℕ) → count_at (f ∷ []) place ≤ 1
one-count f place = by_test (f.at == place)
  where
    by_test : (b : Bool) → (if b then 1 else 0) + 0 ≤ 1
    by_test true = omega arith
    by_test false = omega arith

other-count : (f : Patch) (place : ℕ) → f.at ≢ place → count_at (f ∷ []) place ≡ 0
other-count f place other = ap (λ (b : Bool). (if b then 1 else 0) + 0) (ne_eqb f.at place other)

front-is : (list : List Patch) (f : Patch) (i : ℕ) → i < length list → slice_index_or (list ++ f ∷ []) i no_field ≡ slice_index_or list i no_field
front-is [] f i lt = absurd (omega (arith, lt))
front-is (x ∷ xs) f zero lt = refl
front-is (x ∷ xs) f (suc i) lt = front-is xs f i (omega (arith, lt))

last-is : (list : List Patch) (f : Patch) → slice_index_or (list ++ f ∷ []) (length list) no_field ≡ f
last-is [] f = refl
last-is (x ∷ xs) f = last-is xs f

abbrev IsSized : Patch → Type 0
IsSized f = (f.size ≡ 4) ⊎ (f.size ≡ 8)

pub fit-more : (old new : List Patch) (at size value : ℕ) → OffsetsFit old → (size ≡ 4) ⊎ (size ≡ 8) → patch_for old at ≡ None
    → new ≡ old ++ record { at = at; size = size; value = value } ∷ [] → OffsetsFit new
fit-more old new at size value fit sized none is = subst OffsetsFit (sym is) (more (record { at = at; size = size; value = value }) refl sized)
  where
    more : (f : Patch) → f.at ≡ at → IsSized f → OffsetsFit (old ++ f ∷ [])
    more f at_is f_sized = record {
      sized = record {
        sized = λ i lt. elim (cases_lt i (length old)) [
          | inl front ↦ subst IsSized (sym (front-is old f i front)) (fit.sized.sized i front)
          | inr last ↦
              let here : i ≡ length old = omega (arith, lt, last, length-append old (f ∷ [])) in
              subst IsSized (sym (ap (λ (k : ℕ). slice_index_or (old ++ f ∷ []) k no_field) here ∙ last-is old f)) f_sized
        ];
      };
      once = λ place. by_place place (at == place) refl;
    }
      where
        by_place : (place : ℕ) (b : Bool) → (at == place) ≡ b → count_at (old ++ f ∷ []) place ≤ 1
        by_place place true e =
            let same : at ≡ place = eqb-true at place e in
            let before : count_at old place ≡ 0 = count-none old place (ap (patch_for old) (sym same) ∙ none) in
            omega (arith, count-append old (f ∷ []) place, before, one-count f place)
        by_place place false e =
            let other : count_at (f ∷ []) place ≡ 0 = other-count f place (λ s. clash e (eq-eqb at place (sym at_is ∙ s))) in
            omega (arith, count-append old (f ∷ []) place, other, fit.once place)
          where
            clash : {x : Bool} → x ≡ false → x ≡ true → ⊥
            clash a b = absurd cc

pub fit-same : (old new : List Patch) → OffsetsFit old → new ≡ old → OffsetsFit new
fit-same old new fit is = subst OffsetsFit (sym is) fit

pub ruleset add_rules = (fit-more, fit-same)

-- two that begin at one place
some-count : (xs : List Patch) (j place : ℕ) → j < length xs → field_start (slice_index_or xs j no_field) ≡ place → 1 ≤ count_at xs place
some-count [] j place lt is = absurd (omega (arith, lt))
some-count (x ∷ xs) zero place lt is =
    subst (λ (b : Bool). 1 ≤ (if b then 1 else 0) + count_at xs place) (sym (eq-eqb x.at place is)) (omega arith)
some-count (x ∷ xs) (suc j) place lt is = let rest = some-count xs j place (omega (arith, lt)) is in omega (arith, rest)

two-count : (xs : List Patch) (i j place : ℕ) → i < j → j < length xs → field_start (slice_index_or xs i no_field) ≡ place
    → field_start (slice_index_or xs j no_field) ≡ place → 2 ≤ count_at xs place
two-count [] i j place below lt first second = absurd (omega (arith, lt))
two-count (x ∷ xs) i zero place below lt first second = absurd (omega (arith, below))
two-count (x ∷ xs) zero (suc j) place below lt first second =
    let rest = some-count xs j place (omega (arith, lt)) second in
    subst (λ (b : Bool). 2 ≤ (if b then 1 else 0) + count_at xs place) (sym (eq-eqb x.at place first)) (omega (arith, rest))
two-count (x ∷ xs) (suc i) (suc j) place below lt first second =
    let rest = two-count xs i j place (omega (arith, below)) (omega (arith, lt)) first second in
    omega (arith, rest)

-- in order they rise
pub fields-rise : (list : List Patch) → IsNonDecreasingBy field_start list → ((place : ℕ) → count_at list place ≤ 1) → FieldsRise list
fields-rise list sorted once = record {
  rise = λ i j below lt.
      let up : field_start (slice_index_or list i no_field) ≤ field_start (slice_index_or list j no_field) = sorted i j no_field (omega (arith, below)) lt in
      elim (cases_lt (field_start (slice_index_or list i no_field)) (field_start (slice_index_or list j no_field))) [
        | inl less ↦ less
        | inr more ↦
            let one = once (field_start (slice_index_or list j no_field)) in
            let two = two-count list i j (field_start (slice_index_or list j no_field)) below lt (omega (arith, up, more)) refl in
            absurd (omega (arith, one, two))
      ];
}

-- the order doesn't count
abbrev begins_at : ℕ → Patch → ℕ
begins_at place f = if f.at == place then 1 else 0

count-sum : (xs : List Patch) (place : ℕ) → count_at xs place ≡ sum_by (begins_at place) xs
count-sum [] place = refl
count-sum (x ∷ xs) place = ap (λ (n : ℕ). begins_at place x + n) (count-sum xs place) ∙ sym (sum_by-cons (begins_at place) x xs)

count-moved : (xs ys : List Patch) (place : ℕ) → IsPermutation xs ys → count_at ys place ≡ count_at xs place
count-moved xs ys place moved = count-sum ys place ∙ sum_by-IsPermutation (begins_at place) xs ys moved ∙ sym (count-sum xs place)

once-moved : (xs ys : List Patch) → IsPermutation xs ys → OffsetsFit xs → (place : ℕ) → count_at ys place ≤ 1
once-moved xs ys moved fit place = let same = count-moved xs ys place moved in omega (arith, same, fit.once place)

moved-rise : (xs ys : List Patch) → IsPermutation xs ys → OffsetsFit xs → IsNonDecreasingBy field_start ys → FieldsRise ys
moved-rise xs ys moved fit sorted = fields-rise ys sorted (once-moved xs ys moved fit)

sized-in : (xs : List Patch) (f : Patch) → AllSized xs → Contains xs f → IsSized f
sized-in xs f sized is_in =
    let found = at_from_Contains xs f is_in in
    subst IsSized (found.2 no_field) (sized.sized found.0 found.1)

moved-sized : (xs ys : List Patch) → IsPermutation xs ys → OffsetsFit xs → AllSized ys
moved-sized xs ys moved fit = record {
  sized = λ i lt.
      sized-in xs (slice_index_or ys i no_field) fit.sized
      (Contains-permutation ys xs (slice_index_or ys i no_field) (IsPermutation-sym xs ys moved) (Contains-get_or ys i no_field lt));
}

-- the one at a place
record ForIn (xs : List Patch) (place : ℕ) (f : Patch) : Type 0 where
  number : ℕ
  inside : number < length xs
  is : slice_index_or xs number no_field ≡ f
  here : f.at ≡ place

for-in : (xs : List Patch) (place : ℕ) (f : Patch) → patch_for xs place ≡ Some f → ForIn xs place f
for-in [] place f e = absurd cc
for-in (x ∷ xs) place f e = by_test (x.at == place) refl e (for-in xs place f)
  where
    by_test : (b : Bool) → (x.at == place) ≡ b → (if b then Some x else patch_for xs place) ≡ Some f → (patch_for xs place ≡ Some f → ForIn xs place f) → ForIn (x ∷ xs) place f
    by_test true b_is found rest =
        let same : x ≡ f = cc in
        record { number = 0; inside = omega arith; is = same; here = ap (λ (y : Patch). y.at) (sym same) ∙ eqb-true x.at place b_is }
    by_test false b_is found rest =
        let h = rest found in
        let lt = h.inside in
        record { number = suc h.number; inside = omega (arith, lt); is = h.is; here = h.here }

for-number : (xs : List Patch) (place i : ℕ) → count_at xs place ≤ 1 → i < length xs → field_start (slice_index_or xs i no_field) ≡ place
    → patch_for xs place ≡ Some (slice_index_or xs i no_field)
for-number [] place i once lt is = absurd (omega (arith, lt))
for-number (x ∷ xs) place zero once lt is = ap (λ (b : Bool). if b then Some x else patch_for xs place) (eq-eqb x.at place is)
for-number (x ∷ xs) place (suc i) once lt is =
    let other : x.at ≢ place = λ e. twice e in
    let rest : count_at xs place ≤ 1 = omega (arith, once) in
    ap (λ (b : Bool). if b then Some x else patch_for xs place) (ne_eqb x.at place other) ∙ for-number xs place i rest (omega (arith, lt)) is
  where
    twice : x.at ≡ place → ⊥
    twice e = let two = two-count (x ∷ xs) 0 (suc i) place (omega arith) lt e is in absurd (omega (arith, two, once))

for-some : (xs ys : List Patch) (place : ℕ) (f : Patch) → IsPermutation xs ys → OffsetsFit xs → patch_for xs place ≡ Some f → patch_for ys place ≡ Some f
for-some xs ys place f moved fit e =
    let h = for-in xs place f e in
    let in_xs : Contains xs f = subst (Contains xs) h.is (Contains-get_or xs h.number no_field h.inside) in
    let found = at_from_Contains ys f (Contains-permutation xs ys f moved in_xs) in
    let is : slice_index_or ys found.0 no_field ≡ f = found.2 no_field in
    for-number ys place found.0 (once-moved xs ys moved fit place) found.1 (ap field_start is ∙ h.here) ∙ ap Some is

fit-moved : (xs ys : List Patch) → IsPermutation xs ys → OffsetsFit xs → OffsetsFit ys
fit-moved xs ys moved fit = record { sized = moved-sized xs ys moved fit; once = once-moved xs ys moved fit }

for-same : (xs ys : List Patch) (place : ℕ) → IsPermutation xs ys → OffsetsFit xs → patch_for ys place ≡ patch_for xs place
for-same xs ys place moved fit = by_found (patch_for xs place) refl (patch_for ys place) refl
  where
    by_found : (o : Option Patch) → patch_for xs place ≡ o → (q : Option Patch) → patch_for ys place ≡ q → q ≡ o
    by_found (Some f) e q e2 = sym e2 ∙ for-some xs ys place f moved fit e
    by_found None e None e2 = refl
    by_found None e (Some f) e2 =
        let other : patch_for xs place ≡ Some f = for-some ys xs place f (IsPermutation-sym xs ys moved) (fit-moved xs ys moved fit) e2 in
        absurd cc

-- so the records are the same
step-same : (g : RelocationSource) (runs : List Run) (xs ys : List Patch) (n : ℕ) (table : List ℕ) → IsPermutation xs ys → OffsetsFit xs
    → record_step g runs ys n (nth_record g n) table ≡ record_step g runs xs n (nth_record g n) table
step-same g runs xs ys n table moved fit = by_type (is_none_type g.machine (nth_record g n).kind)
  where
    by_type : (b : Bool) → (if b then table else record_put g runs ys n (nth_record g n) table) ≡ (if b then table else record_put g runs xs n (nth_record g n) table)
    by_type true = refl
    by_type false =
        ap (λ (o : Option Patch). with_reloc g.class g.order g.rela table n (place_by runs (nth_record g n).offset) (addend_if g (nth_record g n) o))
        (for-same xs ys (nth_record g n).offset moved fit)

records-same : (g : RelocationSource) (runs : List Run) (xs ys : List Patch) (n : ℕ) → IsPermutation xs ys → OffsetsFit xs
    → records_moved g runs ys n ≡ records_moved g runs xs n
records-same g runs xs ys zero moved fit = refl
records-same g runs xs ys (suc n) moved fit =
    ap (record_step g runs ys n (nth_record g n)) (records-same g runs xs ys n moved fit)
    ∙ step-same g runs xs ys n (records_moved g runs xs n) moved fit

table-same : (g : RelocationSource) (runs : List Run) (xs ys : List Patch) (out : List ℕ) → IsPermutation xs ys → OffsetsFit xs → out ≡ moved_table g runs ys
    → out ≡ moved_table g runs xs
unfolding moved_table
table-same g runs xs ys out moved fit is = is ∙ records-same g runs xs ys (length (records_in g)) moved fit

-- by the slice that is passed
pub passed-rise : (xs ys now : List Patch) → IsPermutation xs ys → OffsetsFit xs → IsNonDecreasingBy field_start ys → now ≡ ys → FieldsRise now
passed-rise xs ys now moved fit sorted is = subst FieldsRise (sym is) (moved-rise xs ys moved fit sorted)

pub passed-sized : (xs ys now : List Patch) → IsPermutation xs ys → OffsetsFit xs → now ≡ ys → AllSized now
passed-sized xs ys now moved fit is = subst AllSized (sym is) (moved-sized xs ys moved fit)

pub passed-table : (g : RelocationSource) (runs : List Run) (xs ys now : List Patch) (out : List ℕ) → IsPermutation xs ys → OffsetsFit xs → now ≡ ys
    → out ≡ moved_table g runs now → out ≡ moved_table g runs xs
passed-table g runs xs ys now out moved fit is table = table-same g runs xs ys out moved fit (table ∙ ap (moved_table g runs) is)
