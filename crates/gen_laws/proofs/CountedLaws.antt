-- What a generated file means has these counts of units, entries and rows.
use Rattle.std.proofs.Common.{◌≡◌, ℕ, zero, suc, ◌+◌, ◌≤◌, List, length, refl, ap, ◌∙◌, arith, subst}
use Rattle.std.proofs.lemmas.List.{append-nil}
use Rattle.dw_base.specs.Cells.{plain_cells}
use Rattle.dw_base.specs.DebugData.{DebugData, line_source}
use Rattle.dw_base.specs.FileViews.{view_of}
use Rattle.dw_base.specs.LineMeanings.{line_meanings}
use Rattle.dw_base.specs.UnitMeanings.{UnitMeaning, unit_meanings, units_of}
use Rattle.dw_base.specs.ViewData.{Meaning, meaning_of}
use Rattle.dw_base.proofs.ListLaws.{get_or-tabulate}
use Rattle.dw_meaning.specs.FileMeanings.{Means}
use Rattle.dw_meaning.proofs.DataOneLaws.{means-one}
use Rattle.dw_meaning.proofs.MeansLaws.{means-made}
use Rattle.dbg_gen.specs.Asked.{AreFew}
use Rattle.dbg_gen.specs.GeneratedFiles.{file_of_counts, generated}
use Rattle.dbg_gen.specs.GeneratedTexts.{texts_of}
use Rattle.dbg_gen.specs.VariableCounts.{variable_count, variable_counts}
use Rattle.gen_laws.specs.Counts.{entries_counted, entries_in, rows_counted, rows_in, units_counted, variables_counted}
use Rattle.gen_laws.proofs.AroundLaws.{counted_around, counted_data}
use Rattle.gen_laws.proofs.DataReadLaws.{counted_readings}
use Rattle.gen_laws.proofs.EntryCountLaws.{all_variables, units-counted}
use Rattle.gen_laws.proofs.FileTakenLaws.{IsCounted, counted-file, file-reads, info_of}
use Rattle.gen_laws.proofs.RowCountLaws.{rows-counted}
use Rattle.gen_laws.proofs.UnitReadLaws.{section_pieces}
use Rattle.gen_laws.proofs.VariableLaws.{counts-few, length-counts}

-- what a file of counts means
abbrev meant : List ℕ → ℕ → List ℕ → Meaning
meant counts units b = meaning_of (view_of b) (counted_readings counts units)

units-meant : (counts : List ℕ) (units : ℕ) (b : List ℕ) → IsCounted counts units b
    → (meant counts units b).units ≡ unit_meanings 1 (counted_around counts units) (section_pieces (texts_of counts units) counts units)
unfolding meaning_of units_of
units-meant counts units b w =
    ap (λ (d : DebugData). units_of d (counted_readings counts units)) w.data_is
    ∙ append-nil (unit_meanings 1 (counted_around counts units) (section_pieces (texts_of counts units) counts units))

lines-meant : (counts : List ℕ) (units : ℕ) (b : List ℕ) → IsCounted counts units b
    → (meant counts units b).lines ≡ line_meanings (line_source (counted_data counts units)) (counted_readings counts units).lines
unfolding meaning_of
lines-meant counts units b w = ap (λ (d : DebugData). line_meanings (line_source d) (counted_readings counts units).lines) w.data_is

-- so many units, entries and rows
pub record HasCounts (x : Meaning) (units variables : ℕ) : Type 0 where
  pub units_are : units_counted x ≡ units
  pub entries_are : entries_counted x ≡ units + variables
  pub rows_are : rows_counted x ≡ units + variables

counts-meant : (counts : List ℕ) (units : ℕ) (b : List ℕ) → AreFew counts → IsCounted counts units b → HasCounts (meant counts units b) units (all_variables counts units)
counts-meant counts units b few w =
    let whole = length (plain_cells (info_of counts units)) in
    let is = units-counted (counted_around counts units) 1 whole (texts_of counts units) counts units refl few in
    record {
      units_are = ap (λ (us : List UnitMeaning). length us) (units-meant counts units b w) ∙ is.units_are;
      entries_are = ap entries_in (units-meant counts units b w) ∙ is.entries_are;
      rows_are = ap rows_in (lines-meant counts units b w) ∙ rows-counted (line_source (counted_data counts units)) counts units refl;
    }

pub counted-means : (counts : List ℕ) → length counts ≤ 10000 → AreFew counts → Means (file_of_counts counts) (meant counts (length counts) (file_of_counts counts))
counted-means counts small few =
    means-made (file_of_counts counts) (counted_readings counts (length counts)) (meant counts (length counts) (file_of_counts counts))
    (file-reads counts (length counts) (file_of_counts counts) small few (counted-file counts small few)) refl

-- the variables of a seed
variables-are : (seed units k : ℕ) → k ≤ units → all_variables (variable_counts seed units) k ≡ variables_counted seed k
unfolding variable_counts
variables-are seed units zero le = refl
variables-are seed units (suc k) le =
    let rest = variables-are seed units k (omega arith) in
    let last = get_or-tabulate (variable_count seed) units k 0 (omega arith) in
    omega (arith, rest, last)

-- a generated file means something, and whatever it means has these counts
pub record IsGenerated (seed units : ℕ) (b : List ℕ) : Type 0 where
  pub meaning : Meaning
  pub means : Means b meaning
  pub counts : (x : Meaning) → Means b x → HasCounts x units (variables_counted seed units)

file-counted : (counts : List ℕ) (x : Meaning) → length counts ≤ 10000 → AreFew counts → Means (file_of_counts counts) x
    → HasCounts x (length counts) (all_variables counts (length counts))
file-counted counts x small few means =
    subst (λ (y : Meaning). HasCounts y (length counts) (all_variables counts (length counts)))
    (means-one (file_of_counts counts) (meant counts (length counts) (file_of_counts counts)) x (counted-means counts small few) means)
    (counts-meant counts (length counts) (file_of_counts counts) few (counted-file counts small few))

pub generated-counted : (seed units : ℕ) → units ≤ 10000 → IsGenerated seed units (generated seed units)
unfolding generated
generated-counted seed units small =
    let each = length-counts seed units in
    let within : length (variable_counts seed units) ≤ 10000 = omega (arith, each) in
    record {
      meaning = meant (variable_counts seed units) (length (variable_counts seed units)) (file_of_counts (variable_counts seed units));
      means = counted-means (variable_counts seed units) within (counts-few seed units);
      counts = λ x means.
          subst (λ (v : ℕ). HasCounts x units v) (variables-are seed units units (omega arith))
          (subst (λ (n : ℕ). HasCounts x n (all_variables (variable_counts seed units) n)) each
          (file-counted (variable_counts seed units) x within (counts-few seed units) means));
    }
