-- What units say, as it is printed, found by the places of what stands in them: the entries of a unit by their codes, the values of an entry
-- one behind another, a referenced entry among those of all units (DWARF 5, 7.5.2 to 7.5.6).
use Rattle.std.specs.Prelude.{ℕ, ◌+◌, ◌-◌, List, [], ◌∷◌, ◌++◌, Option, Some, None}
use Rattle.dw_base.specs.AbbreviationTables.{Abbreviation, abbreviation_of}
use Rattle.dw_base.specs.FileViews.{View}
use Rattle.dw_base.specs.Lebs.{uleb_at}
use Rattle.dw_base.specs.LineMeanings.{item_at}
use Rattle.dw_base.specs.Values.{value_at}
use Rattle.dw_base.specs.declared.units.Scanned.{Scanned}
use Rattle.dw_base.specs.declared.units.UnitHeader.{UnitHeader}
use Rattle.dw_base.specs.declared.values.Spec.{Spec}
use Rattle.dw_base.specs.declared.values.Value.{Value}
use Rattle.dw_entries.specs.ViewUnits.{unit_section_at}
use Rattle.dw_units.specs.declared.listed_unit.ListedUnit.{ListedUnit}
use Rattle.dbg_show.specs.UnitTexts.{attribute_line, entry_line, kind_name, unit_line, saying_text}
use Rattle.dw_attrs.specs.UnitValues.{SaidUnit, UnitSource, said_unit, unit_bytes, unit_entries, value_meant}

-- what a value says, as it is printed
abbrev pub value_shown : SaidUnit → Spec → ℕ → Value → List ℕ
value_shown u x place v = saying_text (value_meant u x place v)

-- the attributes whose values stand one behind another from a place on
abbrev pub values_behind : (ℕ → List ℕ) → SaidUnit → Spec → ℕ → Option Value → List ℕ
values_behind rest u x place None = []
values_behind rest u x place (Some v) = attribute_line x.name (value_shown u x place v) ++ rest (place + v.size)

abbrev pub values_shown : SaidUnit → List Spec → ℕ → List ℕ
values_shown u [] place = []
values_shown u (x ∷ xs) place = values_behind (λ p. values_shown u xs p) u x place (value_at u.header.params x u.bytes place)

-- entry `number`, with its attributes
abbrev pub entry_listed : SaidUnit → ℕ → Scanned → ℕ → Option Abbreviation → List ℕ
entry_listed u number e from None = []
entry_listed u number e from (Some a) = entry_line number e.depth a.tag ++ values_shown u a.specs from

abbrev pub entry_coded : SaidUnit → ℕ → Scanned → Option (ℕ × ℕ) → List ℕ
entry_coded u number e None = []
entry_coded u number e (Some (code, size)) = entry_listed u number e (e.offset + size) (abbreviation_of u.table code)

unfoldable pub entry_text : SaidUnit → ℕ → Scanned → List ℕ
entry_text u number e = entry_coded u number e (uleb_at u.bytes e.offset)

-- entries, numbered on
abbrev pub entries_text : SaidUnit → ℕ → List Scanned → List ℕ
entries_text u number [] = []
entries_text u number (e ∷ es) = entry_text u number e ++ entries_text u (number + 1) es

abbrev pub header_line : View → ℕ → UnitHeader → List ℕ
header_line v number h = unit_line number (kind_name (unit_section_at v h.section).kind) h.params.version h.params.width h.params.address h.kind h.signature

abbrev pub tabled_text : UnitSource → ℕ → UnitHeader → Option (List Abbreviation) → List ℕ
tabled_text g number h None = []
tabled_text g number h (Some table) = entries_text (said_unit g number h table) 0 (unit_entries h table (unit_bytes g.view h))

-- the unit of a number
abbrev pub one_shown : UnitSource → ℕ → ListedUnit → List ℕ
one_shown g number u = header_line g.view number u.header ++ tabled_text g number u.header (item_at g.tables u.table)

-- units, numbered on
abbrev pub all_shown : UnitSource → ℕ → List ListedUnit → List ℕ
all_shown g number [] = []
all_shown g number (u ∷ us) = one_shown g number u ++ all_shown g (number + 1) us
