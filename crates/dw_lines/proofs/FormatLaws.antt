-- Laws of a format, column by column.
use Rattle.std.proofs.Common.{true, false, ◌≡◌, ℕ, zero, suc, ◌+◌, ◌-◌, ◌<◌, ◌≤◌, nat_lt, List, [], ◌∷◌, ◌++◌, length, slice_index, Some, None, refl, ◌∙◌, subst, arith}
use Rattle.std.proofs.lemmas.Bool.Decides.{nat_tests}
use Rattle.dw_base.specs.declared.fault.Refusal.{Refusal}
use Rattle.dw_base.specs.declared.values.Spec.{Spec}
use Rattle.dw_base.specs.LineFormats.{is_column, spec_at, next_spec, format_at}
use Rattle.dw_base.specs.Walks.{Since, steps}

below : (m n : ℕ) → m < n → nat_lt m n ≡ true
below m n lt = grind (arith, nat_tests)

not_below : (m n : ℕ) → n ≤ m → nat_lt m n ≡ false
not_below m n le = grind (arith, nat_tests)

-- the format at a place is what so many columns behind those so far make of them
pub record FormatFrom (table : List ℕ) (place left : ℕ) (specs : List Spec) (next : ℕ) : Type 0 where
  pub same : format_at table place ≡ steps (next_spec table) left (specs, next)

pub format-start : (table : List ℕ) (place count next : ℕ) → place < length table → count ≡ slice_index table place → next ≡ place + 1
    → FormatFrom table place count [] next
unfolding format_at
format-start table place count next lt c n = rw (c, n) (record { same = rw (below place (length table) lt) refl })

spec-step : (table : List ℕ) (n next behind : ℕ) (specs : List Spec) (spec : Spec) → Some (spec, behind) ≡ spec_at table next → is_column spec ≡ true
    → steps (next_spec table) (suc n) (specs, next) ≡ steps (next_spec table) n (specs ++ spec ∷ [], behind)
spec-step table n next behind specs spec e c = rw (← e, c) refl

pub format-more : (table : List ℕ) (place left next behind : ℕ) (specs more : List Spec) (spec : Spec) → FormatFrom table place left specs next → 0 < left
    → Some (spec, behind) ≡ spec_at table next → is_column spec ≡ true → more ≡ specs ++ spec ∷ [] → FormatFrom table place (left - 1) more behind
format-more table place zero next behind specs more spec f lt e c m = absurd (omega (arith, lt))
format-more table place (suc n) next behind specs more spec f lt e c m =
    let same : n ≡ suc n - 1 = omega arith in
    rw m (subst (λ (k : ℕ). FormatFrom table place k (specs ++ spec ∷ []) behind) same (record { same = f.same ∙ spec-step table n next behind specs spec e c }))

pub format-over : (table : List ℕ) (place left next : ℕ) (specs : List Spec) → FormatFrom table place left specs next → left ≤ 0
    → format_at table place ≡ Some (specs, next)
format-over table place zero next specs f le = f.same
format-over table place (suc n) next specs f le = absurd (omega (arith, le))

pub format-past : (table : List ℕ) (place : ℕ) (refusal : Refusal) → length table ≤ place → Since refusal (format_at table place ≡ None) refusal
unfolding format_at
format-past table place refusal le = record { same = refl; why = rw (not_below place (length table) le) refl }

pub format-cut : (table : List ℕ) (place left next : ℕ) (specs : List Spec) (refusal : Refusal) → FormatFrom table place left specs next → 0 < left
    → None ≡ spec_at table next → Since refusal (format_at table place ≡ None) refusal
format-cut table place zero next specs refusal f lt e = absurd (omega (arith, lt))
format-cut table place (suc n) next specs refusal f lt e = record { same = refl; why = f.same ∙ rw (← e) refl }

pub format-bad : (table : List ℕ) (place left next behind : ℕ) (specs : List Spec) (spec : Spec) (refusal : Refusal) → FormatFrom table place left specs next → 0 < left
    → Some (spec, behind) ≡ spec_at table next → is_column spec ≡ false → Since refusal (format_at table place ≡ None) refusal
format-bad table place zero next behind specs spec refusal f lt e c = absurd (omega (arith, lt))
format-bad table place (suc n) next behind specs spec refusal f lt e c = record { same = refl; why = f.same ∙ rw (← e, c) refl }

pub ruleset format_laws = (format-start, format-more, format-over, format-past, format-cut, format-bad)
