-- The fields of units, in the order of their places: the offset in the header (DWARF 5, 7.5.1), and the values of entries by their forms (7.5.5).
use Rattle.std.specs.Prelude.{Bool, ℕ, ◌+◌, List, [], ◌∷◌, ◌++◌, drop, Option, Some, None}
use Rattle.dw_base.specs.AbbreviationTables.{Abbreviation}
use Rattle.dw_base.specs.EntryScans.{AreEntries}
use Rattle.dw_base.specs.EntryValues.{bytes_up_to}
use Rattle.dw_base.specs.Forms.{ValueKind, form_in_front, kind_in}
use Rattle.dw_base.specs.Lebs.{initial_length_at, uleb_at}
use Rattle.dw_base.specs.RelocationRows.{FieldPlace, header_field, kind_field, is_section_offset}
use Rattle.dw_base.specs.UnitFails.{bytes_from}
use Rattle.dw_base.specs.UnitHeaders.{IsUnit, UnitBase, UnitSection, header_places}
use Rattle.dw_base.specs.UnitTables.{IsUnitTable}
use Rattle.dw_base.specs.declared.shared.Params.{Params}
use Rattle.dw_base.specs.declared.shared.Width.{Width}
use Rattle.dw_base.specs.declared.shared.Width.TheVariants.{W32, W64}
use Rattle.dw_base.specs.declared.units.Scanned.{Scanned}
use Rattle.dw_base.specs.declared.units.UnitHeader.{UnitHeader}
use Rattle.dw_base.specs.declared.values.Spec.{Spec}
use Rattle.dw_base.specs.declared.values.Value.{Value}
use Rattle.dw_meaning.specs.PieceRuns.{entries_out, entry_out, values_out}

-- the field of a value behind a form that was read at a place
abbrev pub chosen_fields : Params → Bool → ℕ → Option (ℕ × ℕ) → List FieldPlace
chosen_fields params start place None = []
chosen_fields params start place (Some n) = kind_field (kind_in params n.0) (place + n.1) start

-- that of a value of a kind at a place, which may be a form with the value behind it
abbrev pub fields_of_kind : ValueKind → Params → List ℕ → Bool → ℕ → List FieldPlace
fields_of_kind form_in_front params bytes start place = chosen_fields params start place (uleb_at bytes place)
fields_of_kind k params bytes start place = kind_field k place start

-- that of the value of an attribute at a place, in entry `number` of a tag
abbrev pub value_fields : Params → List ℕ → ℕ → ℕ → Spec → ℕ → List FieldPlace
value_fields params bytes number tag x place = fields_of_kind (kind_in params x.form) params bytes (is_section_offset number tag x.name) place

-- those of the values of entries, numbered from `number` on; an entry has none of its own
abbrev pub of_entry : ℕ → ℕ → ℕ → Abbreviation → List FieldPlace
of_entry number place depth a = []

abbrev pub of_value : Params → List ℕ → ℕ → ℕ → Spec → ℕ → Value → List FieldPlace
of_value params bytes number tag x place v = value_fields params bytes number tag x place

abbrev pub values_fields : Params → List ℕ → ℕ → ℕ → List Spec → ℕ → List FieldPlace
values_fields params bytes number tag xs place = values_out (of_value params bytes) params bytes number tag xs place

unfoldable pub entry_fields : Params → List Abbreviation → List ℕ → ℕ → Scanned → List FieldPlace
entry_fields params table bytes number e = entry_out of_entry (of_value params bytes) params table bytes number e

abbrev pub entries_fields : Params → List Abbreviation → List ℕ → ℕ → List Scanned → List FieldPlace
entries_fields params table bytes number es = entries_out of_entry (of_value params bytes) params table bytes number es

-- that of the header at a place of a section
abbrev pub front_fields : UnitBase → UnitSection → ℕ → List FieldPlace
front_fields base z start = header_field base.order start (drop start z.contents) (initial_length_at base.order (bytes_from z start) 0)

-- where it stands in a header, by the width and the version: behind the length, which has 4 bytes or 12
abbrev pub length_size : Width → ℕ
length_size W32 = 4
length_size W64 = 12

abbrev pub offset_place : Width → ℕ → ℕ
offset_place width version = (header_places width version (length_size width)).abbrevs

-- those of a unit with its table and entries
abbrev pub one_fields : UnitBase → UnitSection → ℕ → UnitHeader → List Abbreviation → List Scanned → List FieldPlace
one_fields base z start h table items = front_fields base z start ++ entries_fields h.params table (bytes_up_to z h) 0 items

-- units that can be read whole stand one after another from the section's start up to a place, with these fields
pub data UnitsFields (base : UnitBase) (z : UnitSection) : List UnitHeader → ℕ → List FieldPlace → Type 0 where
  none_fields : UnitsFields base z [] 0 []
  more_fields : (list : List UnitHeader) (h : UnitHeader) (start : ℕ) (table : List Abbreviation) (items : List Scanned) (fs : List FieldPlace)
      → UnitsFields base z list start fs → IsUnit base z start h → IsUnitTable base h table → AreEntries h table (bytes_up_to z h) items
      → UnitsFields base z (list ++ h ∷ []) h.end (fs ++ one_fields base z start h table items)
