-- Why a unit that can't be taken is a row of the debug data.
use Rattle.std.proofs.Common.{◌≡◌, ◌≢◌, ℕ, ◌+◌, List, length, Option, Some, refl, sym, ap, ◌∙◌}
use Rattle.dw_base.specs.AbbreviationTables.{Abbreviation, abbreviation_of}
use Rattle.dw_meaning.specs.DataFails.{no_text as text_row, text_table}
use Rattle.dw_meaning.specs.DataFails.DataFails.{entries}
use Rattle.dw_meaning.specs.RelocationFails.ValueRelocationFails.{value as relocation_row}
use Rattle.dw_base.specs.Cells.{Located}
use Rattle.dw_base.specs.DebugData.{DebugData}
use Rattle.dw_base.specs.EntryScans.{IsEntry, Scans}
use Rattle.dw_base.specs.EntryScans.EntryFails.{values}
use Rattle.dw_base.specs.EntryValues.{HasTable, HasValue, bytes_up_to}
use Rattle.dw_base.specs.Lebs.{uleb_at}
use Rattle.dw_base.specs.Refusals.{Blames}
use Rattle.dw_base.specs.RelocationRows.{is_section_offset}
use Rattle.dw_base.specs.UnitHeaders.{UnitSection}
use Rattle.dw_base.specs.Values.{offset_class}
use Rattle.dw_base.specs.declared.fault.Fault.{Fault}
use Rattle.dw_base.specs.declared.fault.Fault.TheVariants.{NoMemory, Refused}
use Rattle.dw_base.specs.declared.fault.Refusal.{Refusal}
use Rattle.dw_base.specs.declared.texts.TextSection.{TextSection}
use Rattle.dw_base.specs.declared.texts.TextSection.TheVariants.{InStr, InLineStr}
use Rattle.dw_base.specs.declared.units.Scanned.{Scanned}
use Rattle.dw_base.specs.declared.units.UnitHeader.{UnitHeader}
use Rattle.dw_base.specs.declared.values.Spec.{Spec}
use Rattle.dw_base.specs.declared.values.Value.{Value}
use Rattle.dw_base.specs.declared.values.ValueClass.{ValueClass}
use Rattle.dw_base.specs.declared.values.ValueClass.TheVariants.{StrOffset, LineStrOffset}
use Rattle.dw_unit_fields.specs.EntryTexts.{ValueRefuses, ValuesRefuse, fails, no_text, offset, relocation, table_by, value, value_field}
use Rattle.dw_unit_fields.specs.UnitTexts.{tables_of, UnitsRefuse, data_fails, relocation_fails, text_fails, UnitRefuses}
use Rattle.dw_unit_fields.specs.UnitTexts.EntryRefuses.{values as entry_values}
use Rattle.dw_unit_fields.specs.UnitTexts.UnitRefuses.{entries as unit_entries, entry as unit_entry}
use Rattle.dw_unit_fields.proofs.TextFieldLaws.{text-field}

-- the table of a class is that of the debug data
table-same : (d : DebugData) (z : UnitSection) (class : ValueClass) → table_by (tables_of d z) class ≡ text_table d class
table-same d z StrOffset = refl
table-same d z LineStrOffset = refl
table-same d z class = refl

-- a class that has one is that of an offset into it
text-class : (d : DebugData) (z : UnitSection) (class : ValueClass) (y : Located) → table_by (tables_of d z) class ≡ Some y → (t : TextSection) × (class ≡ offset_class t)
text-class d z StrOffset y e = (InStr, refl)
text-class d z LineStrOffset y e = (InLineStr, refl)
text-class d z class y e = absurd cc

-- a value that can't be taken, in a unit of debug data
value-row : (d : DebugData) (z : UnitSection) (h : UnitHeader) (table : List Abbreviation) (number : ℕ) (a : Abbreviation) (x : Spec) (place : ℕ) (v : Value) (r : Refusal)
    → HasTable d z h table → HasValue h table (bytes_up_to z h) number a x place v → ValueRefuses (tables_of d z) v r → UnitsRefuse d r
value-row d z h table number a x place v r there has (offset y class (no_text placed none)) =
    text_fails (text_row z h table number a x place v y there has (sym (table-same d z v.class) ∙ class) placed none)
value-row d z h table number a x place v r there has (offset y class (relocation f)) =
    let t : (t : TextSection) × (v.class ≡ offset_class t) = text-class d z v.class y class in
    relocation_fails (relocation_row z h table number a x place v (value_field v) there has
    (text-field h.params x (bytes_up_to z h) place v t.0 (is_section_offset number a.tag x.name) has.is t.1) refl f)

read-same : (a b : ℕ × ℕ) (o : Option (ℕ × ℕ)) → o ≡ Some a → o ≡ Some b → a ≡ b
read-same a b o e f = cc

-- an entry whose values can't be taken
entry-row : (d : DebugData) (z : UnitSection) (h : UnitHeader) (table : List Abbreviation) (items : List Scanned) (e : Scanned) (depth : ℕ) (a b : Abbreviation) (code size : ℕ) (r : Refusal)
    → HasTable d z h table → h.section ≡ z.number
    → Scans h table (bytes_up_to z h) items e.offset depth → IsEntry h.params table (bytes_up_to z h) e.offset a e.after
    → uleb_at (bytes_up_to z h) e.offset ≡ Some (code, size) → abbreviation_of table code ≡ Some b
    → ValuesRefuse (tables_of d z) h.params (bytes_up_to z h) h.section (e.offset + size) b.specs r → UnitsRefuse d r
entry-row d z h table items e depth a b code size r there section scans is spells listed refuses =
    let same : (is.code, is.size) ≡ (code, size) = read-same (is.code, is.size) (code, size) (uleb_at (bytes_up_to z h) e.offset) is.spells spells in
    let some : code ≢ 0 = λ zero. is.some (ap (λ (p : ℕ × ℕ). p.0) same ∙ zero) in
    by_values some refuses
  where
    by_values : code ≢ 0 → ValuesRefuse (tables_of d z) h.params (bytes_up_to z h) h.section (e.offset + size) b.specs r → UnitsRefuse d r
    by_values some (fails f) = data_fails (entries z h table there (values items e.offset depth code size b scans spells some listed f))
    by_values some (value before behind x place v cut spelled is_value f) =
        value-row d z h table (length items) b x place v r there (record {
          items = items;
          start = e.offset;
          depth = depth;
          scans = scans;
          nth = refl;
          code = code;
          size = size;
          spells = spells;
          some = some;
          listed = listed;
          before = before;
          behind = behind;
          attribute = cut;
          values = spelled;
          is = is_value;
        }) f

-- a unit that can't be taken
pub unit-row : (d : DebugData) (z : UnitSection) (h : UnitHeader) (table : List Abbreviation) (f : Fault) → HasTable d z h table
    → h.section ≡ z.number → Blames (UnitRefuses (tables_of d z) h table (bytes_up_to z h)) f
    → Blames (UnitsRefuse d) f
unit-row d z h table NoMemory there section b = tt
unit-row d z h table (Refused r) there section (unit_entries x) = data_fails (entries z h table there x)
unit-row d z h table (Refused r) there section (unit_entry items e depth a scans is (entry_values b code size spells listed x)) =
    entry-row d z h table items e depth a b code size r there section scans is spells listed x
