-- A map changes texts, and neither how many units and entries there are nor how many rows.
use Rattle.std.proofs.Common.{◌≡◌, suc, ◌+◌, List, [], ◌∷◌, length, map, refl, ap, arith}
use Rattle.dw_base.specs.Forests.{Forest, no_entries, entry}
use Rattle.dw_base.specs.LineMeanings.{LineMeaning, ShownRow, mapped_lines, mapped_row}
use Rattle.dw_base.specs.MappedUnits.{mapped_forest, mapped_units}
use Rattle.dw_base.specs.Paths.{PathMap}
use Rattle.dw_base.specs.UnitMeanings.{UnitMeaning}
use Rattle.dw_base.specs.ViewData.{Meaning, mapped}
use Rattle.gen_laws.specs.Counts.{entries_counted, entries_in, entries_of, rows_counted, rows_in}

forest-same : (m : PathMap) (f : Forest) → entries_of (mapped_forest m f) ≡ entries_of f
forest-same m no_entries = refl
forest-same m (entry tag attributes children siblings) = omega (arith, forest-same m children, forest-same m siblings)

entries-same : (m : PathMap) (us : List UnitMeaning) → entries_in (mapped_units m us) ≡ entries_in us
entries-same m [] = refl
entries-same m (u ∷ us) = omega (arith, forest-same m u.entries, entries-same m us)

rows-length : (m : PathMap) (rs : List ShownRow) → length (map (mapped_row m) rs) ≡ length rs
rows-length m [] = refl
rows-length m (r ∷ rs) = ap suc (rows-length m rs)

rows-same : (m : PathMap) (ts : List LineMeaning) → rows_in (mapped_lines m ts) ≡ rows_in ts
rows-same m [] = refl
rows-same m (t ∷ ts) = omega (arith, rows-length m t.rows, rows-same m ts)

pub mapped-entries : (m : PathMap) (x : Meaning) → entries_counted (mapped m x) ≡ entries_counted x
mapped-entries m x = entries-same m x.units

pub mapped-rows : (m : PathMap) (x : Meaning) → rows_counted (mapped m x) ≡ rows_counted x
mapped-rows m x = rows-same m x.lines
