-- Laws of runs, and of searches among things that stand in the order of their places.
use Rattle.std.proofs.Common.{◌≡◌, ◌≢◌, ℕ, zero, suc, ◌+◌, ◌-◌, ◌^◌, ◌<◌, ◌≤◌, Bool, true, false, nat_le, if◌then◌else◌, List, [], ◌∷◌, length, Result, Ok, Err, IfOk, IfErr, refl, sym, ap, ◌∙◌, subst, arith, inl, inr}
use Rattle.std.specs.Prelude.{slice_index_or}
use Rattle.std.specs.List.Sorted.{IsSearchInRange, IsBinarySearchResult, IsNonDecreasingBy}
use Rattle.std.specs.Ordering.{nat_cmp, ordering_index}
use Rattle.std.proofs.lemmas.Bool.{cases_lt, le-leb}
use Rattle.std.proofs.lemmas.Bool.Decides.{nat_tests}
use Rattle.std.proofs.lemmas.Cmp.{ranked}
use Rattle.std.proofs.lemmas.List.Sorted.{IsNonDecreasingBy-from_default}
use Rattle.std.proofs.lemmas.List.{get_or_default}
use Rattle.dw_patch.specs.RecordMoves.{HasKey, IsGap, SplitsRuns}
use Rattle.elf_relocs.specs.Runs.{RunsRise, no_run, place_by, place_from, run_start}
use Rattle.elf_relocs.specs.declared.runs.Run.{Run}

-- one search
comparisons-rise : {E : Type 0} (key : E → ℕ) (none : E) (list : List E) (place : ℕ)
    → ((i j : ℕ) → i < j → j < length list → key (slice_index_or list i none) < key (slice_index_or list j none))
    → IsNonDecreasingBy (λ e. ordering_index (nat_cmp (key e) place)) list
comparisons-rise key none list place rise = IsNonDecreasingBy-from_default (λ e. ordering_index (nat_cmp (key e) place)) list none (λ i j le inside.
    let up : key (slice_index_or list i none) ≤ key (slice_index_or list j none) =
    grind (arith, rise i j, λ (same : i ≡ j). ap (λ (k : ℕ). key (slice_index_or list k none)) same) in
    grind (arith, nat_tests))

pub searched : {E : Type 0} (key : E → ℕ) (none : E) (list : List E) (place : ℕ) (r : Result ℕ ℕ)
    → ((i j : ℕ) → i < j → j < length list → key (slice_index_or list i none) < key (slice_index_or list j none)) → IsSearchInRange r (length list)
    → IsBinarySearchResult (λ e. nat_cmp (key e) place) list r → record { found : IfOk r (HasKey key list place); absent : IfErr r (IsGap key list place) }
searched key none list place (Ok at) rise inside equal =
    record { found = record { inside = inside; is = λ d. ranked _ place _ (sym (equal d)) }; absent = tt }
searched key none list place (Err at) rise inside parted = record {
  found = tt;
  absent = record {
    inside = inside;
    before = λ d k lt. ranked _ place _ (sym ((parted (comparisons-rise key none list place rise)).0 k d (omega arith) lt));
    behind = λ d k le lt. ranked _ place _ (sym ((parted (comparisons-rise key none list place rise)).1 k d le lt));
  };
}

-- how many runs begin at a place or before it
pub split-found : (list : List Run) (place i : ℕ) → HasKey run_start list place i → RunsRise list → SplitsRuns list place (i + 1)
split-found list place i h rises = record {
  inside = let lt = h.inside in omega (arith, lt);
  before = λ k lt. elim (cases_lt k i) [
    | inl below ↦ let less = rises.rise k i below h.inside in omega (arith, less, h.is no_run)
    | inr above ↦
        let same : k ≡ i = omega (arith, lt, above) in
        let here : run_start (slice_index_or list k no_run) ≡ place = ap (λ (j : ℕ). run_start (slice_index_or list j no_run)) same ∙ h.is no_run in
        omega (arith, here)
  ];
  behind = λ k le lt. let more = rises.rise i k (omega (arith, le)) lt in omega (arith, more, h.is no_run);
}

pub split-gap : (list : List Run) (place i : ℕ) → IsGap run_start list place i → SplitsRuns list place i
split-gap list place i h = record {
  inside = h.inside;
  before = λ k lt. let less = h.before no_run k lt in omega (arith, less);
  behind = λ k le lt. h.behind no_run k le lt;
}

pub ruleset split_rules = (split-found, split-gap)

-- where a byte comes to stand
split-rest : (r : Run) (rs : List Run) (place n : ℕ) → SplitsRuns (r ∷ rs) place (suc n) → SplitsRuns rs place n
split-rest r rs place n h = record {
  inside = let le = h.inside in omega (arith, le);
  before = λ k lt. h.before (suc k) (omega (arith, lt));
  behind = λ k le lt. h.behind (suc k) (omega (arith, le)) (omega (arith, lt));
}

split-none : (r : Run) (rs : List Run) (place : ℕ) → SplitsRuns (r ∷ rs) place 0 → SplitsRuns rs place 0
split-none r rs place h = record {
  inside = omega arith;
  before = λ k lt. absurd (omega (arith, lt));
  behind = λ k le lt. h.behind (suc k) (omega arith) (omega (arith, lt));
}

place-none : (rs : List Run) (now place : ℕ) → SplitsRuns rs place 0 → place_from now rs place ≡ now
place-none [] now place h = refl
place-none (r ∷ rs) now place h = by_test (nat_le r.old place) refl (place-none rs now place (split-none r rs place h))
  where
    by_test : (b : Bool) → nat_le r.old place ≡ b → place_from now rs place ≡ now → place_from (if b then r.new + (place - r.old) else now) rs place ≡ now
    by_test false e rest = rest
    by_test true e rest = let above = h.behind 0 (omega arith) (omega arith) in absurd (grind (arith, nat_tests, e, above))

place-some : (rs : List Run) (now place n : ℕ) → SplitsRuns rs place (suc n)
    → place_from now rs place ≡ (slice_index_or rs n no_run).new + (place - (slice_index_or rs n no_run).old)
place-some [] now place n h = let le = h.inside in absurd (omega (arith, le))
place-some (r ∷ rs) now place zero h =
    ap (λ (b : Bool). place_from (if b then r.new + (place - r.old) else now) rs place) (le-leb r.old place (h.before 0 (omega arith)))
    ∙ place-none rs (r.new + (place - r.old)) place (split-rest r rs place 0 h)
place-some (r ∷ rs) now place (suc n) h =
    place-some rs (if nat_le r.old place then r.new + (place - r.old) else now) place n (split-rest r rs place (suc n) h)

-- the last of those that begin at a place or before it
last-some : (rs : List Run) (place count : ℕ) → SplitsRuns rs place count → count ≢ 0
    → place_by rs place ≡ (slice_index_or rs (count - 1) no_run).new + (place - (slice_index_or rs (count - 1) no_run).old)
last-some rs place count h some =
    let next : count ≡ suc (count - 1) = omega (arith, some) in
    place-some rs place place (count - 1) (subst (SplitsRuns rs place) next h)

last-is : (rs : List Run) (count : ℕ) (r d : Run) (place : ℕ) → SplitsRuns rs place count → count ≢ 0 → r ≡ slice_index_or rs (count - 1) d → r ≡ slice_index_or rs (count - 1) no_run
last-is rs count r d place h some is = let le = h.inside in is ∙ get_or_default rs (count - 1) d no_run (omega (arith, le, some))

pub place-first : (rs : List Run) (place count : ℕ) → SplitsRuns rs place count → count ≡ 0 → place ≡ place_by rs place
place-first rs place count h none = sym (place-none rs place place (subst (SplitsRuns rs place) none h))

pub run-below : (rs : List Run) (place count : ℕ) (r d : Run) → SplitsRuns rs place count → count ≢ 0 → r ≡ slice_index_or rs (count - 1) d → r.old ≤ place
run-below rs place count r d h some is =
    let below = h.before (count - 1) (omega (arith, some)) in
    let same = ap (λ (x : Run). x.old) (last-is rs count r d place h some is) in
    omega (arith, below, same)

pub run-fits : (rs : List Run) (place count : ℕ) (r d : Run) → SplitsRuns rs place count → count ≢ 0 → r ≡ slice_index_or rs (count - 1) d → place_by rs place < 2 ^ 64
    → r.new + (place - r.old) < 2 ^ 64
run-fits rs place count r d h some is fits =
    let same = ap (λ (x : Run). x.new + (place - x.old)) (last-is rs count r d place h some is) in
    omega (arith, fits, same, last-some rs place count h some)

pub run-place : (rs : List Run) (place count x : ℕ) (r d : Run) → SplitsRuns rs place count → count ≢ 0 → r ≡ slice_index_or rs (count - 1) d
    → x ≡ r.new + (place - r.old) → x ≡ place_by rs place
run-place rs place count x r d h some is x_is =
    x_is ∙ ap (λ (y : Run). y.new + (place - y.old)) (last-is rs count r d place h some is) ∙ sym (last-some rs place count h some)

pub ruleset place_rules = (place-first, run-below, run-fits, run-place)
