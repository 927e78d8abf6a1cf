-- What units mean: each its head, and the forest of its entries.
use Rattle.std.specs.Prelude.{◌+◌, ℕ, ◌==◌, if◌then◌else◌, List, [], ◌∷◌, ◌++◌, Option, Some, None}
use Rattle.dw_base.specs.AbbreviationTables.{Abbreviation, abbreviation_of}
use Rattle.dw_base.specs.Cells.{Cell}
use Rattle.dw_base.specs.DebugData.{Lasting, Around, DebugData, DataReadings, around_of}
use Rattle.dw_base.specs.Forests.{AttributeMeaning, Forest, no_entries, HeadMeaning, Mark, begins, opens, attribute, null, no_mark, all_entries, with_entry}
use Rattle.dw_base.specs.Forms.{ValueKind, form_in_front, kind_in}
use Rattle.dw_base.specs.Pieces.{Piece}
use Rattle.dw_base.specs.Readings.{Readings}
use Rattle.dw_base.specs.Roles.{use_of}
use Rattle.dw_base.specs.UnitStates.{Mode, at_header, at_code, at_values, at_chosen, stuck, UnitState, code_value, piece_header}
use Rattle.dw_base.specs.ValueMeanings.{found_entry, meaning_of_value}
use Rattle.dw_base.specs.declared.debug_sections.DebugSection.TheVariants.{Info}
use Rattle.dw_base.specs.declared.units.UnitHeader.{UnitHeader}
use Rattle.dw_base.specs.declared.values.Spec.{Spec}
use Rattle.dw_base.specs.declared.dwarf_numbers.TheConstants.{DW_UT_type}

-- a unit: the number of its section, its head, and its entries with their children
pub record UnitMeaning : Type 0 where
  pub section : ℕ
  pub head : HeadMeaning
  pub entries : Forest

-- the head that a header gives; the entry of a type is named by its place in the unit (DWARF 5, 7.5.1.3)
abbrev pub head_meaning : Lasting → UnitHeader → HeadMeaning
head_meaning g h = record {
  version = h.params.version;
  width = h.params.width;
  address = h.params.address;
  kind = h.kind;
  signature = h.signature;
  type_entry = if h.kind == DW_UT_type then Some (found_entry (g.kept Info).entries h.section (h.start + h.type_offset) h.type_offset) else None;
}

abbrev pub head_mark : Lasting → Option UnitHeader → Mark
head_mark g None = no_mark
head_mark g (Some h) = begins (head_meaning g h)

-- the entry of an abbreviation, or a null
abbrev pub entry_mark : Option Abbreviation → Mark
entry_mark None = null
entry_mark (Some a) = opens a.tag a.children

abbrev pub code_mark : List Abbreviation → ℕ → Mark
code_mark table n = if n == 0 then null else entry_mark (abbreviation_of table n)

-- the mark of a value of a kind, of an attribute of entry `number`, of a tag
abbrev pub value_mark : ValueKind → Around → UnitState → ℕ → ℕ → Spec → List Cell → Mark
value_mark form_in_front around s number tag x p = no_mark
value_mark k around s number tag x p =
    attribute (record { name = x.name; value = meaning_of_value around s (use_of number tag x.name) x k p })

-- what the cells of a mode are
abbrev pub mark_by : Mode → Around → UnitState → List Cell → Mark
mark_by at_header around s p = head_mark around.lasting (piece_header around.lasting.base s p)
mark_by at_code around s p = code_mark s.table (code_value p)
mark_by (at_values number tag []) around s p = no_mark
mark_by (at_values number tag (x ∷ xs)) around s p = value_mark (kind_in s.header.params x.form) around s number tag x p
mark_by (at_chosen number tag start x xs) around s p = value_mark (kind_in s.header.params x.form) around s number tag x p
mark_by stuck around s p = no_mark

-- what a piece is
abbrev pub mark_of : Around → Piece UnitState → Mark
mark_of around x = mark_by x.state.mode around x.state x.cells

-- what follows a place of a unit section, which is read from its end: the attributes up to the next entry, the entries up
-- to the end of each list that is open at the place, the innermost first, and the units
pub record Following : Type 0 where
  pub attributes : List AttributeMeaning
  pub levels : List Forest
  pub units : List UnitMeaning

-- the unit that begins with this head: a null that ended no list of children was padding between its entries
abbrev pub unit_meaning : ℕ → HeadMeaning → List Forest → UnitMeaning
unit_meaning section head levels = record { section = section; head = head; entries = all_entries levels }

-- what follows the place in front of a piece
abbrev pub with_mark : ℕ → Mark → Following → Following
with_mark section (begins head) r = record { attributes = []; levels = []; units = unit_meaning section head r.levels ∷ r.units }
with_mark section (opens tag children) r =
    record { attributes = []; levels = with_entry tag children r.attributes r.levels; units = r.units }
with_mark section (attribute a) r = record { attributes = a ∷ r.attributes; levels = r.levels; units = r.units }
with_mark section null r = record { attributes = []; levels = no_entries ∷ r.levels; units = r.units }
with_mark section no_mark r = r

-- what pieces are that follow a place
abbrev pub following : ℕ → Around → List (Piece UnitState) → Following
following section around [] = record { attributes = []; levels = []; units = [] }
following section around (x ∷ xs) = with_mark section (mark_of around x) (following section around xs)

-- what the units of a section of a number mean
abbrev pub unit_meanings : ℕ → Around → List (Piece UnitState) → List UnitMeaning
unit_meanings section around xs = (following section around xs).units

-- and those of all sections that were read
abbrev pub units_read : Around → Readings → List UnitMeaning
units_read around [] = []
units_read around (r ∷ rs) = unit_meanings r.number around r.pieces ++ units_read around rs

-- what the units of debug data mean that were read so
unfoldable pub units_of : DebugData → DataReadings → List UnitMeaning
units_of d r = units_read (around_of d r) r.units
