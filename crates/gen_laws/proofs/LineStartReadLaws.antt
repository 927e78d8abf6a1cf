-- A line table of a generated file starts at the place that its unit says.
use Rattle.std.proofs.Common.{◌≡◌, ℕ, zero, suc, ◌+◌, ◌<◌, ◌==◌, inl, inr, Bool, true, false, if◌then◌else◌, List, [], ◌∷◌, ◌++◌, length, slice_index, Option, Some, refl, sym, ap, arith, subst}
use Rattle.std.proofs.lemmas.Bool.{cases_lt, eq-eqb}
use Rattle.dw_base.specs.DebugData.{start_number}
use Rattle.dw_base.specs.LineMeanings.{is_there}
use Rattle.dw_base.specs.LineReadings.{LineReading, table_starts}
use Rattle.dbg_gen.specs.GeneratedLines.{lines_of}
use Rattle.gen_laws.proofs.LineSectionReadLaws.{reading_at, readings_of}

starts-append : (rs qs : List LineReading) → table_starts (rs ++ qs) ≡ table_starts rs ++ table_starts qs
starts-append [] qs = refl
starts-append (r ∷ rs) qs = ap (λ (ss : List ℕ). r.header.start ∷ ss) (starts-append rs qs)

-- a place that is found among starts is found with more behind them, and the last one is found
front-cases : (t : Bool) (k : ℕ) (o p : Option ℕ) → (is_there o ≡ true → is_there p ≡ true) → is_there (if t then Some k else o) ≡ true → is_there (if t then Some k else p) ≡ true
front-cases true k o p more e = refl
front-cases false k o p more e = more e

in-front : (first : ℕ) (ss ts : List ℕ) (n : ℕ) → is_there (start_number first ss n) ≡ true → is_there (start_number first (ss ++ ts) n) ≡ true
in-front first [] ts n e = cc
in-front first (s ∷ ss) ts n e = front-cases (s == n) first (start_number (first + 1) ss n) (start_number (first + 1) (ss ++ ts) n) (in-front (first + 1) ss ts n) e

last-cases : (t : Bool) (k : ℕ) (o : Option ℕ) → is_there o ≡ true → is_there (if t then Some k else o) ≡ true
last-cases true k o e = refl
last-cases false k o e = e

in-last : (first : ℕ) (ss : List ℕ) (n : ℕ) → is_there (start_number first (ss ++ n ∷ []) n) ≡ true
in-last first [] n = rw (eq-eqb n n refl) refl
in-last first (s ∷ ss) n = last-cases (s == n) first (start_number (first + 1) (ss ++ n ∷ []) n) (in-last (first + 1) ss n)

pub start-there : (number : ℕ) (counts : List ℕ) (units u : ℕ) → u < units → is_there (start_number 0 (table_starts (readings_of number counts units)) (length (lines_of counts u))) ≡ true
start-there number counts zero u lt = absurd (omega arith)
start-there number counts (suc unit) u lt =
    let last = reading_at number (length (lines_of counts unit)) unit (slice_index counts unit) in
    subst (λ (ss : List ℕ). is_there (start_number 0 ss (length (lines_of counts u))) ≡ true) (sym (starts-append (readings_of number counts unit) (last ∷ [])))
    (elim (cases_lt u unit) [
      | inl before ↦ in-front 0 (table_starts (readings_of number counts unit)) (length (lines_of counts unit) ∷ []) (length (lines_of counts u)) (start-there number counts unit u before)
      | inr same_or ↦
          let same : unit ≡ u = omega arith in
          subst (λ (k : ℕ). is_there (start_number 0 (table_starts (readings_of number counts unit) ++ length (lines_of counts k) ∷ []) (length (lines_of counts u))) ≡ true) (sym same)
          (in-last 0 (table_starts (readings_of number counts unit)) (length (lines_of counts u)))
    ])
