-- Starts of line tables rise, and one is found among starts that rise.
use Rattle.std.proofs.Common.{◌≡◌, ◌≢◌, ℕ, zero, suc, ◌+◌, ◌-◌, ◌<◌, ◌≤◌, List, [], ◌∷◌, length, get_or, Some, None, Result, Ok, Err, IfOk, IfErr, refl, sym, ap, ◌∙◌, subst, arith}
use Rattle.std.specs.List.Sorted.{IsSearchInRange, IsBinarySearchResult, IsNonDecreasingBy}
use Rattle.std.specs.Ordering.{nat_cmp, ordering_index}
use Rattle.std.proofs.lemmas.Bool.{eq-eqb, ne_eqb}
use Rattle.std.proofs.lemmas.Bool.Decides.{nat_tests}
use Rattle.std.proofs.lemmas.Cmp.{ranked}
use Rattle.std.proofs.lemmas.List.Sorted.{IsNonDecreasingBy-from_default}
use Rattle.dw_base.specs.DebugData.{DebugData, line_source, start_number}
use Rattle.dw_base.specs.LineReadings.{LineReading, ReadsTable, TablesTo, table_starts}
use Rattle.dw_base.specs.LineSources.{LineSource}
use Rattle.dw_base.specs.Refusals.{at}
use Rattle.dw_base.specs.UnitStates.{inside}
use Rattle.dw_meaning.proofs.LineHeaderLaws.{header-is}
use Rattle.dw_meaning.proofs.LineSectionLaws.{some-bytes}
use Rattle.dw_meaning.proofs.LineTableLaws.{header-places}
use Rattle.dw_starts.specs.LineStarts.{TablesStart, HasStart, IsStartGap, Rises}

-- a search among starts that rise ends at the start, or at the gap for it
comparisons-rise : (starts : List ℕ) (start : ℕ) → Rises starts → IsNonDecreasingBy (λ x. ordering_index (nat_cmp x start)) starts
comparisons-rise starts start rising = IsNonDecreasingBy-from_default (λ x. ordering_index (nat_cmp x start)) starts 0 (λ i j le inside.
    let rise : get_or starts i 0 ≤ get_or starts j 0 = grind (arith, rising.rise i j, λ (same : i ≡ j). ap (λ (k : ℕ). get_or starts k 0) same) in
    grind (arith, nat_tests))

pub searched : (starts : List ℕ) (start : ℕ) (r : Result ℕ ℕ) → Rises starts → IsSearchInRange r (length starts)
    → IsBinarySearchResult (λ x. nat_cmp x start) starts r → record { found : IfOk r (HasStart starts start); absent : IfErr r (IsStartGap starts start) }
searched starts start (Ok at) rising inside equal = record { found = record { inside = inside; is = ranked _ start _ (sym (equal 0)) }; absent = tt }
searched starts start (Err at) rising inside parted = record {
  found = tt;
  absent = record {
    inside = inside;
    before = λ k lt. ranked _ start _ (sym ((parted (comparisons-rise starts start rising)).0 k 0 (omega arith) lt));
    behind = λ k le lt. ranked _ start _ (sym ((parted (comparisons-rise starts start rising)).1 k 0 le lt));
  };
}

-- where no start is one no table starts there
absent-number : (first : ℕ) (starts : List ℕ) (start : ℕ) → ((k : ℕ) → k < length starts → get_or starts k 0 ≢ start) → start_number first starts start ≡ None
absent-number first [] start none = refl
absent-number first (s ∷ ss) start none =
    rw (ne_eqb s start (none 0 (omega arith))) (absent-number (first + 1) ss start (λ k lt. none (suc k) (omega arith)))

found-number : (first : ℕ) (starts : List ℕ) (start i : ℕ) → i < length starts → get_or starts i 0 ≡ start → ((k : ℕ) → k < i → get_or starts k 0 ≢ start)
    → start_number first starts start ≡ Some (first + i)
found-number first [] start i lt is none = absurd (omega (arith, lt))
found-number first (s ∷ ss) start zero lt is none = rw (eq-eqb s start is) (ap (λ (n : ℕ). Some n) (omega arith))
found-number first (s ∷ ss) start (suc i) lt is none =
    rw (ne_eqb s start (none 0 (omega arith)))
    (found-number (first + 1) ss start i (omega (arith, lt)) is (λ k below. none (suc k) (omega arith)) ∙ ap (λ (n : ℕ). Some n) (omega arith))

pub number-found : (starts : List ℕ) (start i : ℕ) → Rises starts → HasStart starts start i → Some i ≡ start_number 0 starts start
number-found starts start i rising has =
    sym (found-number 0 starts start i has.inside has.is (λ k lt same. omega (arith, rising.rise k i lt has.inside, has.is, same)) ∙ ap (λ (n : ℕ). Some n) (omega arith))

other-start : (starts : List ℕ) (start i k : ℕ) → IsStartGap starts start i → k < length starts → get_or starts k 0 ≢ start
other-start starts start i k gap lt same = grind (arith, gap.before k, gap.behind k)

pub number-absent : (starts : List ℕ) (start i : ℕ) → IsStartGap starts start i → None ≡ start_number 0 starts start
number-absent starts start i gap = sym (absent-number 0 starts start (λ k lt. other-start starts start i k gap lt))

pub has-inside : (starts : List ℕ) (start i : ℕ) → HasStart starts start i → i < length starts
has-inside starts start i has = has.inside

pub ruleset number_rules = (number-found, number-absent, has-inside)

-- where a table starts, and that it has bytes
table-places : (g : LineSource) (p : ℕ) (r : LineReading) → ReadsTable g p r → (p < r.header.end) × (r.header.start ≡ p)
table-places g p r reads = ((some-bytes g p r reads).0, (header-places g p r.header (header-is g.order g.bytes p r.header reads.header)).0)

-- tables that stand one after another start at places that rise
starts-behind : (g : LineSource) (p e k : ℕ) (rs : List LineReading) → TablesTo g p rs e → k < length (table_starts rs) → p ≤ get_or (table_starts rs) k 0
starts-behind g p e k [] reads lt = absurd (omega (arith, lt))
starts-behind g p e zero (r ∷ rs) reads lt =
    let here = table-places g p r reads.0 in
    omega (arith, here.1)
starts-behind g p e (suc k) (r ∷ rs) reads lt =
    let here = table-places g p r reads.0 in
    let rest = starts-behind g r.header.end e k rs reads.1 (omega (arith, lt)) in
    omega (arith, here.0, rest)

starts-between : (g : LineSource) (p e i j : ℕ) (rs : List LineReading) → TablesTo g p rs e → i < j → j < length (table_starts rs)
    → get_or (table_starts rs) i 0 < get_or (table_starts rs) j 0
starts-between g p e i j [] reads less lt = absurd (omega (arith, lt))
starts-between g p e zero zero (r ∷ rs) reads less lt = absurd (omega (arith, less))
starts-between g p e (suc i) zero (r ∷ rs) reads less lt = absurd (omega (arith, less))
starts-between g p e zero (suc j) (r ∷ rs) reads less lt =
    let here = table-places g p r reads.0 in
    let rest = starts-behind g r.header.end e j rs reads.1 (omega (arith, lt)) in
    omega (arith, here.0, here.1, rest)
starts-between g p e (suc i) (suc j) (r ∷ rs) reads less lt =
    starts-between g r.header.end e i j rs reads.1 (omega (arith, less)) (omega (arith, lt))

pub starts-rise : (d : DebugData) (starts : List ℕ) → TablesStart d starts → Rises starts
starts-rise d starts t =
    subst Rises (sym t.is) (record { rise = λ (i j : ℕ) (less : i < j) (lt : j < length (table_starts t.tables)). starts-between (line_source d) 0 (length (line_source d).bytes) i j t.tables t.are less lt })
