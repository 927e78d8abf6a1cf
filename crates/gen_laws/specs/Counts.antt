-- How many units, entries and rows debug data mean (DWARF 5, 7.5.2, 7.5.3 and 6.2.2).
use Rattle.std.specs.Prelude.{ℕ, zero, suc, ◌+◌, List, [], ◌∷◌, length}
use Rattle.dw_base.specs.Forests.{Forest, entry, no_entries}
use Rattle.dw_base.specs.LineMeanings.{LineMeaning}
use Rattle.dw_base.specs.UnitMeanings.{UnitMeaning}
use Rattle.dw_base.specs.ViewData.{Meaning}
use Rattle.dbg_gen.specs.VariableCounts.{variable_count}

-- the units
abbrev pub units_counted : Meaning → ℕ
units_counted x = length x.units

-- the entries of a forest, with their children
abbrev pub entries_of : Forest → ℕ
entries_of no_entries = 0
entries_of (entry tag attributes children siblings) = 1 + entries_of children + entries_of siblings

-- the entries of units
abbrev pub entries_in : List UnitMeaning → ℕ
entries_in [] = 0
entries_in (u ∷ us) = entries_of u.entries + entries_in us

abbrev pub entries_counted : Meaning → ℕ
entries_counted x = entries_in x.units

-- the rows of line tables
abbrev pub rows_in : List LineMeaning → ℕ
rows_in [] = 0
rows_in (t ∷ ts) = length t.rows + rows_in ts

abbrev pub rows_counted : Meaning → ℕ
rows_counted x = rows_in x.lines

-- the variables of the first units of a seed
abbrev pub variables_counted : ℕ → ℕ → ℕ
variables_counted seed zero = 0
variables_counted seed (suc unit) = variables_counted seed unit + variable_count seed unit
