-- What a pass over the entries of units meets of texts: where they stand, each place with its role, and the values that name them by
-- index (DWARF 5, 7.5.5, class string), or say where line tables and macro units start (DWARF 5, 3.1.1); and what these places say of source paths.
use Rattle.std.specs.Prelude.{Bool, true, false, ◌≡◌, ℕ, ◌+◌, ◌-◌, ◌==◌, ◌||◌, List, [], ◌∷◌, ◌++◌, IsTrue, ⊤, Option, Some, None, length}
use Rattle.dw_base.specs.AbbreviationTables.{Abbreviation}
use Rattle.dw_base.specs.Cells.{Cell, Located, bytes_of, cells_at, field_of, is_placed, located_cells, offset_of}
use Rattle.dw_base.specs.DebugData.{DebugData}
use Rattle.dw_base.specs.EntryScans.{AreEntries}
use Rattle.dw_base.specs.EntryValues.{bytes_up_to}
use Rattle.dw_base.specs.Forms.{ValueKind, number_of, leb_number, kind_in}
use Rattle.dw_base.specs.InlinePaths.{inline_fits}
use Rattle.dw_base.specs.Numbers.{spelled}
use Rattle.dw_base.specs.Paths.{PathMap}
use Rattle.dw_base.specs.Pieces.{Piece}
use Rattle.dw_base.specs.Roles.{Role, fixed, offset, inline_path, line_start, role_of, is_macros, is_path, is_start_name, use_of}
use Rattle.dw_base.specs.TableStarts.{is_start_form, macro_value_by, own_form, start_form_by}
use Rattle.dw_base.specs.TextIndexes.{SaidBase, IndexUse, is_base}
use Rattle.dw_base.specs.Texts.{ends_in}
use Rattle.dw_base.specs.UnitHeaders.{UnitBase, UnitSection, IsUnit}
use Rattle.dw_base.specs.UnitTables.{IsUnitTable}
use Rattle.dw_base.specs.UnitStates.{Mode, at_values, at_chosen, UnitState, code_value}
use Rattle.dw_base.specs.declared.debug_sections.DebugSection.{DebugSection}
use Rattle.dw_base.specs.declared.debug_sections.DebugSection.TheVariants.{Str, LineStr, StrOffsets, Line, Macro}
use Rattle.dw_base.specs.declared.dwarf_numbers.TheConstants.{DW_AT_stmt_list}
use Rattle.dw_base.specs.declared.shared.Order.{Order}
use Rattle.dw_base.specs.declared.shared.Params.{Params}
use Rattle.dw_offsets.specs.declared.fields.OffsetField.{OffsetField}
use Rattle.dw_base.specs.declared.texts.TextSection.{TextSection}
use Rattle.dw_base.specs.declared.texts.TextSection.TheVariants.{InStr, InLineStr}
use Rattle.dw_base.specs.declared.units.Scanned.{Scanned}
use Rattle.dw_base.specs.declared.units.UnitHeader.{UnitHeader}
use Rattle.dw_base.specs.declared.values.Spec.{Spec}
use Rattle.dw_base.specs.declared.values.Value.{Value}
use Rattle.dw_base.specs.declared.values.ValueClass.{ValueClass}
use Rattle.dw_base.specs.declared.values.ValueClass.TheVariants.{InlineText, Number, StrOffset, LineStrOffset, StrIndex, SecOffset}
use Rattle.dw_meaning.specs.PieceRuns.{entries_out, entry_out, values_out}
use Rattle.dw_unit_fields.specs.SectionFields.{SectionFields, field_by, inline_text, lists_by}
use Rattle.dw_unit_fields.specs.declared.fields.InlinePath.{InlinePath}
use Rattle.dw_unit_fields.specs.declared.fields.TextBase.{TextBase}
use Rattle.dw_unit_fields.specs.declared.fields.TextBase.TheVariants.{Field as BaseField, Number as BaseNumber}
use Rattle.dw_unit_fields.specs.declared.fields.TextIndex.{TextIndex}

-- what a value that stays says: nothing; of texts by index the base of its unit, as a number or as an offset into the section of string
-- offsets, or the index of a text, of a path or not; that it says where a macro unit starts; or that it is to say where that or a line table
-- starts, and has a form that can't
pub data Indexed : Type 0 where
  no_index : Indexed
  unit_base : ℕ → Indexed
  base_offset : Indexed
  text_index : Bool → ℕ → Indexed
  unit_start : Indexed
  no_start : Indexed

-- bytes that an edit may change: their role, where they stand in the section, and how many they are; or the place of a value that
-- stays as it is, its form with it, and what it says of texts by index
pub record TextPlace : Type 0 where
  pub role : Role
  pub at : ℕ
  pub len : ℕ
  pub says : Indexed

-- the bytes of a role at a place, of so many
abbrev pub place_of : Role → ℕ → ℕ → List TextPlace
place_of fixed at len = []
place_of r at len = record { role = r; at = at; len = len; says = no_index } ∷ []

-- a value at a place that says this by index
abbrev pub indexed_at : ℕ → Indexed → List TextPlace
indexed_at at i = record { role = fixed; at = at; len = 0; says = i } ∷ []

-- the base that a value says, which begins at a place and whose bytes stand at another, so many: the field of an offset, or else a number
abbrev pub said_base : Bool → ℕ → ℕ → ℕ → ℕ → List TextPlace
said_base true begin at len n = record { role = fixed; at = at; len = len; says = base_offset } ∷ []
said_base false begin at len n = indexed_at begin (unit_base n)

-- what the cells of a value of a kind say by index, of an attribute that holds a path or not, and a unit's base or not; it begins at a
-- place, and its bytes stand at another, so many
abbrev pub indexed_kind : ValueKind → Bool → Bool → Order → ℕ → ℕ → ℕ → List Cell → List TextPlace
indexed_kind (number_of StrIndex n) path base order begin at len p = indexed_at begin (text_index path (spelled order (bytes_of p) 0 (length p)))
indexed_kind (leb_number StrIndex) path base order begin at len p = indexed_at begin (text_index path (code_value p))
indexed_kind (number_of Number n) path true order begin at len p = said_base (n == 4 || n == 8) begin at len (spelled order (bytes_of p) 0 (length p))
indexed_kind (number_of SecOffset n) path true order begin at len p = said_base true begin at len (spelled order (bytes_of p) 0 (length p))
indexed_kind (leb_number Number) path true order begin at len p = said_base false begin at len (code_value p)
indexed_kind k path base order begin at len p = []

-- what a value that begins at a place, and whose bytes stand at another, so many, says of starts: where it is to say one and its form
-- can't, that, where it begins; else the field of the start of a macro unit, where it says one
abbrev pub said_start : Bool → Bool → ℕ → ℕ → ℕ → List TextPlace
said_start false macro begin at len = indexed_at begin no_start
said_start true true begin at len = record { role = fixed; at = at; len = len; says = unit_start } ∷ []
said_start true false begin at len = []

-- what a piece says so
abbrev pub indexed_in : Mode → UnitState → List Cell → List TextPlace
indexed_in (at_values number tag (x ∷ xs)) s p =
    indexed_kind (kind_in s.header.params x.form) (is_path number tag x.name) (is_base number x.name) s.header.params.order s.place s.place (length p) p
    ++ said_start (start_form_by (kind_in s.header.params x.form) (use_of number tag x.name)) (macro_value_by (kind_in s.header.params x.form) (use_of number tag x.name))
    s.place s.place (length p)
indexed_in (at_chosen number tag start x xs) s p =
    indexed_kind (kind_in s.header.params x.form) (is_path number tag x.name) (is_base number x.name) s.header.params.order start s.place (length p) p
    ++ said_start (start_form_by (kind_in s.header.params x.form) (use_of number tag x.name)) (macro_value_by (kind_in s.header.params x.form) (use_of number tag x.name))
    start s.place (length p)
indexed_in m s p = []

-- the places of pieces, in order
abbrev pub places_in : List (Piece UnitState) → List TextPlace
places_in [] = []
places_in (x ∷ xs) =
    place_of (role_of x) x.state.place (length x.cells) ++ (indexed_in x.state.mode x.state x.cells ++ places_in xs)

-- those of a value of a class that stands at a place, of an attribute that holds a path or not, and a unit's base or not, and of a form
-- that can be an offset or not; an inline path has its NUL behind it
abbrev pub class_places : ValueClass → Bool → Bool → Bool → ℕ → Value → List TextPlace
class_places StrOffset path base field place v = record { role = offset InStr path; at = v.at; len = v.len; says = no_index } ∷ []
class_places LineStrOffset path base field place v = record { role = offset InLineStr path; at = v.at; len = v.len; says = no_index } ∷ []
class_places InlineText true base field place v = record { role = inline_path; at = v.at; len = v.len + 1; says = no_index } ∷ []
class_places StrIndex path base field place v = indexed_at place (text_index path v.number)
class_places Number path true field place v = said_base field place v.at v.len v.number
class_places SecOffset path true field place v = said_base field place v.at v.len v.number
class_places class path base field place v = []

-- the field of a value of a form that says where a line table starts, where it is to say that
abbrev pub line_at : Bool → Value → List TextPlace
line_at true v = record { role = line_start; at = v.at; len = v.len; says = no_index } ∷ []
line_at false v = []

abbrev pub line_places : Bool → ℕ → Value → List TextPlace
line_places true form v = line_at (is_start_form form) v
line_places false form v = []

-- where a value begins that is to say a start, and its form can't; else the field of the start of a macro unit
abbrev pub said_value : Bool → Bool → ℕ → Value → List TextPlace
said_value false macro place v = indexed_at place no_start
said_value true true place v = record { role = fixed; at = v.at; len = v.len; says = unit_start } ∷ []
said_value true false place v = []

abbrev pub said_places : Bool → Bool → ℕ → ℕ → Value → List TextPlace
said_places true macro form place v = said_value (is_start_form form) macro place v
said_places false macro form place v = []

-- those of a value at a place of some bytes, of an attribute of entry `number`, whose tag is `tag`
abbrev pub value_places : ℕ → ℕ → Spec → List ℕ → ℕ → Value → List TextPlace
value_places number tag x bytes place v =
    line_places (x.name == DW_AT_stmt_list) (own_form x bytes place) v
    ++ (class_places v.class (is_path number tag x.name) (is_base number x.name) (is_start_form (own_form x bytes place)) place v
    ++ said_places (is_start_name x.name) (is_macros x.name) (own_form x bytes place) place v)

-- those of the values of entries, of which the first has this number; an entry has none of its own
abbrev pub of_entry : ℕ → ℕ → ℕ → Abbreviation → List TextPlace
of_entry number place depth a = []

abbrev pub of_value : List ℕ → ℕ → ℕ → Spec → ℕ → Value → List TextPlace
of_value bytes number tag x place v = value_places number tag x bytes place v

abbrev pub values_places : Params → List ℕ → ℕ → ℕ → List Spec → ℕ → List TextPlace
values_places params bytes number tag xs place = values_out (of_value bytes) params bytes number tag xs place

unfoldable pub entry_places : Params → List Abbreviation → List ℕ → ℕ → Scanned → List TextPlace
entry_places params table bytes number x = entry_out of_entry (of_value bytes) params table bytes number x

abbrev pub entries_places : Params → List Abbreviation → List ℕ → ℕ → List Scanned → List TextPlace
entries_places params table bytes number xs = entries_out of_entry (of_value bytes) params table bytes number xs

-- what the values of a unit in the section of a number, of these cells, say
pub record UnitSays : Type 0 where
  pub section : ℕ
  pub cells : List Cell
  pub places : List TextPlace

-- units that can be read whole stand one after another from the section's start up to a place, and these are their places, all
-- together and unit by unit
pub data UnitsPlaced (base : UnitBase) (z : UnitSection) : List UnitHeader → ℕ → List TextPlace → List UnitSays → Type 0 where
  none_placed : UnitsPlaced base z [] 0 [] []
  more_placed : (list : List UnitHeader) (h : UnitHeader) (start : ℕ) (places : List TextPlace) (units : List UnitSays) (table : List Abbreviation)
      (items : List Scanned) → UnitsPlaced base z list start places units → IsUnit base z start h → IsUnitTable base h table
      → AreEntries h table (bytes_up_to z h) items
      → UnitsPlaced base z (list ++ h ∷ []) h.end (places ++ entries_places h.params table (bytes_up_to z h) 0 items)
      (units ++ record { section = z.number; cells = z.contents; places = entries_places h.params table (bytes_up_to z h) 0 items } ∷ [])

-- all units of the section
abbrev pub ArePlaced : UnitBase → UnitSection → List UnitHeader → List TextPlace → List UnitSays → Type 0
ArePlaced base z list places units = UnitsPlaced base z list (length z.contents) places units

-- an offset at a place names a text that ends in its table
abbrev pub PlaceNames : Role → DebugData → List Cell → Type 0
PlaceNames (offset InStr path) d p = IsTrue (ends_in (d.found Str).bytes (offset_of d.base.order (d.found Str) p))
PlaceNames (offset InLineStr path) d p = IsTrue (ends_in (d.found LineStr).bytes (offset_of d.base.order (d.found LineStr) p))
PlaceNames r d p = ⊤

-- each offset at these places does
abbrev pub PlacesName : DebugData → List Cell → List TextPlace → Type 0
PlacesName d cells [] = ⊤
PlacesName d cells (t ∷ ts) = PlaceNames t.role d (cells_at cells t.at t.len) × PlacesName d cells ts

-- the fields of offsets into a table of texts among these places
abbrev pub fields_in : TextSection → List TextPlace → List OffsetField
fields_in table [] = []
fields_in table (t ∷ ts) = field_by table t.role t.at t.len ++ fields_in table ts

-- and the paths that stand in their values
abbrev pub inline_at : Role → ℕ → ℕ → List InlinePath
inline_at inline_path at len = record { at = at; len = len - 1 } ∷ []
inline_at r at len = []

abbrev pub inline_in : List TextPlace → List InlinePath
inline_in [] = []
inline_in (t ∷ ts) = inline_at t.role t.at t.len ++ inline_in ts

-- the fields that say where line tables start
abbrev pub start_at : Role → ℕ → ℕ → List OffsetField
start_at line_start at len = record { at = at; size = len; path = false } ∷ []
start_at r at len = []

abbrev pub starts_in : List TextPlace → List OffsetField
starts_in [] = []
starts_in (t ∷ ts) = start_at t.role t.at t.len ++ starts_in ts

-- those that say where macro units start
abbrev pub unit_start_at : ℕ → ℕ → Indexed → List OffsetField
unit_start_at at len unit_start = record { at = at; size = len; path = false } ∷ []
unit_start_at at len i = []

abbrev pub macros_in : List TextPlace → List OffsetField
macros_in [] = []
macros_in (t ∷ ts) = unit_start_at t.at t.len t.says ++ macros_in ts

-- the fields among these places that hold offsets into a section of debug data
abbrev pub places_into : List TextPlace → DebugSection → List OffsetField
places_into ts Str = fields_in InStr ts
places_into ts LineStr = fields_in InLineStr ts
places_into ts Line = starts_in ts
places_into ts Macro = macros_in ts
places_into ts s = []

-- and where the first value begins that can't say a start
abbrev pub stray_or : ℕ → Indexed → Option ℕ → Option ℕ
stray_or at no_start o = Some at
stray_or at i o = o

abbrev pub stray_in : List TextPlace → Option ℕ
stray_in [] = None
stray_in (t ∷ ts) = stray_or t.at t.says (stray_in ts)

-- the values by index among the places of a unit: where each stands, whether it is a path, and the index
abbrev pub index_at : ℕ → Indexed → List TextIndex
index_at at (text_index path n) = record { place = at; path = path; index = n } ∷ []
index_at at i = []

abbrev pub indexes_in : List TextPlace → List TextIndex
indexes_in [] = []
indexes_in (t ∷ ts) = index_at t.at t.says ++ indexes_in ts

-- the base that a place says, or else those behind it
abbrev pub base_or : ℕ → ℕ → Indexed → Option TextBase → Option TextBase
base_or at len (unit_base n) o = Some (BaseNumber n)
base_or at len base_offset o = Some (BaseField (record { at = at; size = len; path = false }))
base_or at len i o = o

-- the base among the places of a unit: where several values say one, the first counts
abbrev pub base_in : List TextPlace → Option TextBase
base_in [] = None
base_in (t ∷ ts) = base_or t.at t.len t.says (base_in ts)

-- the base that a value says: a field of an offset, or else a number
abbrev pub said_of : Bool → Value → TextBase
said_of true v = BaseField (record { at = v.at; size = v.len; path = false })
said_of false v = BaseNumber v.number

-- what bases go by: the byte order, and the section of string offsets
pub record BaseSource : Type 0 where
  pub order : Order
  pub offsets : Located

abbrev pub base_source : DebugData → BaseSource
base_source d = record { order = d.base.order; offsets = located_cells (d.found StrOffsets) }

-- the number of a base that values in these cells say
abbrev pub base_number : BaseSource → List Cell → TextBase → ℕ
base_number g cells (BaseNumber n) = n
base_number g cells (BaseField f) = offset_of g.order g.offsets (cells_at cells f.at f.size)

abbrev pub number_said : BaseSource → List Cell → Option TextBase → Option ℕ
number_said g cells None = None
number_said g cells (Some b) = Some (base_number g cells b)

-- it is placed, where it is the field of an offset
abbrev pub number_placed : BaseSource → List Cell → TextBase → Bool
number_placed g cells (BaseNumber n) = true
number_placed g cells (BaseField f) = is_placed (field_of g.order (cells_at cells f.at f.size))

abbrev pub said_placed : BaseSource → List Cell → Option TextBase → Bool
said_placed g cells None = true
said_placed g cells (Some b) = number_placed g cells b

-- those of a unit
abbrev pub unit_number : BaseSource → UnitSays → Option ℕ
unit_number g u = number_said g u.cells (base_in u.places)

abbrev pub unit_base_placed : BaseSource → UnitSays → Bool
unit_base_placed g u = said_placed g u.cells (base_in u.places)

abbrev pub AllBasesPlaced : BaseSource → List UnitSays → Type 0
AllBasesPlaced g [] = ⊤
AllBasesPlaced g (u ∷ us) = (unit_base_placed g u ≡ true) × AllBasesPlaced g us

-- the same as values by index of the whole file, in the section and the unit of a number
abbrev pub use_at : ℕ → ℕ → ℕ → Indexed → List IndexUse
use_at section unit at (text_index path n) = record { section = section; place = at; unit = unit; path = path; index = n } ∷ []
use_at section unit at i = []

abbrev pub uses_among : ℕ → ℕ → List TextPlace → List IndexUse
uses_among section unit [] = []
uses_among section unit (t ∷ ts) = use_at section unit t.at t.says ++ uses_among section unit ts

abbrev pub base_at : BaseSource → List Cell → ℕ → ℕ → ℕ → Indexed → List SaidBase
base_at g cells unit at len (unit_base n) = record { unit = unit; base = n; placed = true } ∷ []
base_at g cells unit at len base_offset =
    record { unit = unit; base = offset_of g.order g.offsets (cells_at cells at len); placed = is_placed (field_of g.order (cells_at cells at len)) } ∷ []
base_at g cells unit at len i = []

abbrev pub bases_among : BaseSource → List Cell → ℕ → List TextPlace → List SaidBase
bases_among g cells unit [] = []
bases_among g cells unit (t ∷ ts) = base_at g cells unit t.at t.len t.says ++ bases_among g cells unit ts

-- those of units, of which the first has this number
abbrev pub numbered_uses : ℕ → List UnitSays → List IndexUse
numbered_uses unit [] = []
numbered_uses unit (u ∷ us) = uses_among u.section unit u.places ++ numbered_uses (unit + 1) us

abbrev pub numbered_bases : BaseSource → ℕ → List UnitSays → List SaidBase
numbered_bases g unit [] = []
numbered_bases g unit (u ∷ us) = bases_among g u.cells unit u.places ++ numbered_bases g (unit + 1) us

-- what a unit section says of paths, by its number and its places of texts
abbrev pub paths_by : ℕ → List TextPlace → SectionFields
paths_by number ts = record {
  number = number;
  fields = lists_by (places_into ts);
  inline = inline_in ts;
  stray = stray_in ts;
}

-- the units of a section can be read whole, and texts stand at these places
pub record SectionPlaced (base : UnitBase) (z : UnitSection) (ts : List TextPlace) : Type 0 where
  pub list : List UnitHeader
  pub units : List UnitSays
  pub placed : ArePlaced base z list ts units

-- the units of a section can be read, each offset names a text, and they say this of paths
pub record SectionSays (d : DebugData) (z : UnitSection) (u : SectionFields) : Type 0 where
  pub places : List TextPlace
  pub section : SectionPlaced d.base z places
  pub names : PlacesName d z.contents places
  pub says : u ≡ paths_by z.number places

-- so do those of all sections
abbrev pub AllPlaced : DebugData → List UnitSection → List SectionFields → Type 0
AllPlaced d [] [] = ⊤
AllPlaced d [] (u ∷ us) = ⊥
AllPlaced d (z ∷ zs) [] = ⊥
AllPlaced d (z ∷ zs) (u ∷ us) = SectionSays d z u × AllPlaced d zs us

-- each path that stands in its value fits its room when it is mapped
abbrev pub InlinesFit : PathMap → List ℕ → List InlinePath → Type 0
InlinesFit m info [] = ⊤
InlinesFit m info (p ∷ ps) = IsTrue (inline_fits m (inline_text info p)) × InlinesFit m info ps

-- in all sections
abbrev pub AllFitRooms : PathMap → List UnitSection → List SectionFields → Type 0
AllFitRooms m [] us = ⊤
AllFitRooms m (z ∷ zs) [] = ⊤
AllFitRooms m (z ∷ zs) (u ∷ us) = InlinesFit m (bytes_of z.contents) u.inline × AllFitRooms m zs us
