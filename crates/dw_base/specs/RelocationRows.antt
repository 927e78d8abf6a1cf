-- The relocations that may stand on the fields of sections that are read, and the refusal of kind Relocation for others (gABI ch. 4
-- "Relocation"; DWARF 5, 7.5.5 and 7.4). A relocation is followed where it gives an offset; a field that is one in part, or by a symbol that
-- has no place, can't be read; and a relocation that names a place in a table of texts or in the line tables from elsewhere would be left
-- behind when these change. This is this project's profile. What is left out, a block and an address, may have any.
use Rattle.std.specs.Prelude.{Bool, true, false, ◌≡◌, ℕ, ◌+◌, ◌<◌, ◌≤◌, ◌==◌, ◌&&◌, ◌||◌, if◌then◌else◌, List, [], ◌∷◌, ◌++◌, drop, Option, Some, None}
use Rattle.dw_base.specs.Cells.{Cell, Relocation, bytes_of, cells_at, field_of, is_placed}
use Rattle.dw_base.specs.DebugSections.{debug_section}
use Rattle.dw_base.specs.FileViews.{View, ViewSection}
use Rattle.dw_base.specs.Forms.{ValueKind, number_of, text_offset, kind_in, width_size}
use Rattle.dw_base.specs.Lebs.{initial_length_at}
use Rattle.dw_base.specs.MacroPieces.{MacroMode, at_line, at_offset, MacroState}
use Rattle.dw_base.specs.NamePieces.{NameMode, at_string, NameState}
use Rattle.dw_base.specs.Numbers.{spelled}
use Rattle.dw_base.specs.OffsetPieces.{OffsetMode, at_slot, OffsetState}
use Rattle.dw_base.specs.Pieces.{Piece}
use Rattle.dw_base.specs.Refusals.{at}
use Rattle.dw_base.specs.RelocationFields.{LiesPartly, reach_of, relocation_at}
use Rattle.dw_base.specs.RelocationSectionFails.{moves}
use Rattle.dw_base.specs.Roles.{use_of}
use Rattle.dw_base.specs.TextIndexes.{holds_number, is_base}
use Rattle.dw_base.specs.UnitFails.{bytes_from}
use Rattle.dw_base.specs.UnitHeaders.{HeaderPlaces, IsUnit, UnitBase, UnitSection, UnitsUpTo, header_places}
use Rattle.dw_base.specs.UnitStates.{Mode, at_header, at_values, at_chosen, UnitState}
use Rattle.dw_base.specs.declared.fault.Kind.TheVariants.{Relocation as RelocationKind}
use Rattle.dw_base.specs.declared.fault.Refusal.{Refusal}
use Rattle.dw_base.specs.declared.shared.Order.{Order}
use Rattle.dw_base.specs.declared.shared.Width.{Width}
use Rattle.dw_base.specs.declared.units.UnitHeader.{UnitHeader}
use Rattle.dw_base.specs.declared.values.AttributeUse.{AttributeUse}
use Rattle.dw_base.specs.declared.values.AttributeUse.TheVariants.{NamesLineTable, NamesMacroUnit}
use Rattle.dw_base.specs.declared.values.ValueClass.{ValueClass}
use Rattle.dw_base.specs.declared.values.ValueClass.TheVariants.{Address, GlobalRef, Number, SecOffset}

-- what a field is: an offset into another section, which is followed, or a number that is meant as it stands
pub data FieldUse : Type 0 where
  offset_field : FieldUse
  plain_field : FieldUse

-- a field of a section: where it is, how many bytes it has, and what it is
pub record FieldPlace : Type 0 where
  pub place : ℕ
  pub size : ℕ
  pub use_is : FieldUse

abbrev pub field_place : ℕ → ℕ → FieldUse → FieldPlace
field_place place size u = record { place = place; size = size; use_is = u }

-- a number of a class, in so many bytes, that can be an offset into another section (DWARF 5, 7.5.5; before version 4 it is a number of 4 or
-- 8 bytes)
abbrev pub can_be_offset : ValueClass → ℕ → Bool
can_be_offset SecOffset n = true
can_be_offset Number n = n == 4 || n == 8
can_be_offset class n = false

-- an attribute that says where a line table or a macro unit starts
abbrev pub names_start : AttributeUse → Bool
names_start NamesLineTable = true
names_start NamesMacroUnit = true
names_start u = false

-- what a number of a class is, of an attribute that says where a table of its own starts or begins, or of another
abbrev pub use_of_number : ValueClass → ℕ → Bool → Option FieldUse
use_of_number Address n start = None
use_of_number GlobalRef n start = Some offset_field
use_of_number class n start = Some (if start && can_be_offset class n then offset_field else plain_field)

abbrev pub listed_field : ℕ → ℕ → Option FieldUse → List FieldPlace
listed_field place n None = []
listed_field place n (Some u) = field_place place n u ∷ []

-- the field of a value of a kind, of entry `number`, tag and name of its attribute: none of a block, a text, a number in LEB128
abbrev pub kind_field : ValueKind → ℕ → Bool → List FieldPlace
kind_field (text_offset table n) place start = field_place place n offset_field ∷ []
kind_field (number_of class n) place start = listed_field place n (use_of_number class n start)
kind_field k place start = []

-- an attribute of an entry says where something of another section starts: a line table, a macro unit, the unit's slots
abbrev pub is_section_offset : ℕ → ℕ → ℕ → Bool
is_section_offset number tag name = names_start (use_of number tag name) || is_base number name

-- the offset of abbreviations in a header, by its length: width, length, and the size of the length's field
abbrev pub header_field : Order → ℕ → List Cell → Option (Width × ℕ × ℕ) → List FieldPlace
header_field order place p None = []
header_field order place p (Some l) =
    let places : HeaderPlaces = header_places l.0 (spelled order (bytes_of p) l.2 2) l.2 in
    field_place (place + places.abbrevs) (width_size l.0) offset_field ∷ []

-- the fields of a piece of a unit
abbrev pub unit_field : Mode → Order → UnitState → List Cell → List FieldPlace
unit_field at_header order s p = header_field order s.place p (initial_length_at order (bytes_of p) 0)
unit_field (at_values number tag (x ∷ xs)) order s p = kind_field (kind_in s.header.params x.form) s.place (is_section_offset number tag x.name)
unit_field (at_chosen number tag start x xs) order s p = kind_field (kind_in s.header.params x.form) s.place (is_section_offset number tag x.name)
unit_field m order s p = []

abbrev pub unit_fields : Order → List (Piece UnitState) → List FieldPlace
unit_fields order [] = []
unit_fields order (x ∷ xs) = unit_field x.state.mode order x.state x.cells ++ unit_fields order xs

-- the slots among pieces of string offsets, and the string offsets among those of name tables
abbrev pub slot_field : OffsetMode → ℕ → List FieldPlace
slot_field (at_slot width end) place = field_place place (width_size width) offset_field ∷ []
slot_field m place = []

abbrev pub slot_fields : List (Piece OffsetState) → List FieldPlace
slot_fields [] = []
slot_fields (x ∷ xs) = slot_field x.state.mode x.state.place ++ slot_fields xs

abbrev pub name_field : NameMode → ℕ → List FieldPlace
name_field (at_string width left end) place = field_place place (width_size width) offset_field ∷ []
name_field m place = []

abbrev pub name_fields : List (Piece NameState) → List FieldPlace
name_fields [] = []
name_fields (x ∷ xs) = name_field x.state.mode x.state.place ++ name_fields xs

-- those of macro units: of a line table, a text, and a unit
abbrev pub macro_field : MacroMode → ℕ → List FieldPlace
macro_field (at_line width) place = field_place place (width_size width) offset_field ∷ []
macro_field (at_offset width names) place = field_place place (width_size width) offset_field ∷ []
macro_field m place = []

abbrev pub macro_fields : List (Piece MacroState) → List FieldPlace
macro_fields [] = []
macro_fields (x ∷ xs) = macro_field x.state.mode x.state.place ++ macro_fields xs

-- one of the fields is an offset at a place
abbrev pub is_offset_use : FieldUse → Bool
is_offset_use offset_field = true
is_offset_use plain_field = false

abbrev pub has_offset_at : List FieldPlace → ℕ → Bool
has_offset_at [] place = false
has_offset_at (f ∷ fs) place = if is_offset_use f.use_is && f.place == place then true else has_offset_at fs place

-- a field of a list
pub record IsField (fs : List FieldPlace) (f : FieldPlace) : Type 0 where
  pub before : List FieldPlace
  pub behind : List FieldPlace
  pub is : fs ≡ before ++ f ∷ behind

-- the symbol of a relocation lies in one of these sections
abbrev pub lies_in : List ℕ → Option (ℕ × ℕ) → Bool
lies_in numbers None = false
lies_in numbers (Some t) = holds_number numbers t.0

-- what is wrong with an offset, at the relocation that lies on it in part, or at the field, whose relocation gives no place
pub data OffsetFails (order : Order) (section : ℕ) (cells : List Cell) (f : FieldPlace) : Refusal → Type 0 where
  partly : (p : ℕ) → LiesPartly cells f.place f.size p → OffsetFails order section cells f (at RelocationKind section p)
  no_place : is_placed (field_of order (cells_at cells f.place f.size)) ≡ false → OffsetFails order section cells f (at RelocationKind section f.place)

-- what is wrong with relocations in a section of a number: with an offset; one begins inside a number; or the symbol of one that gives no
-- offset lies in a section whose places change
pub data FieldsFail (order : Order) (section : ℕ) (cells : List Cell) (moving : List ℕ) (fs : List FieldPlace) : Refusal → Type 0 where
  offset : (f : FieldPlace) {r : Refusal} → IsField fs f → f.use_is ≡ offset_field → OffsetFails order section cells f r
      → FieldsFail order section cells moving fs r
  inside : (f : FieldPlace) (p : ℕ) (r : Relocation) → IsField fs f → f.use_is ≡ plain_field → relocation_at cells p ≡ Some r
      → f.place < p → p < f.place + f.size → FieldsFail order section cells moving fs (at RelocationKind section p)
  elsewhere : (p : ℕ) (r : Relocation) → relocation_at cells p ≡ Some r → lies_in moving r.target ≡ true → has_offset_at fs p ≡ false
      → FieldsFail order section cells moving fs (at RelocationKind section p)

-- and what holds where nothing is
pub record OffsetReads (order : Order) (cells : List Cell) (f : FieldPlace) : Type 0 where
  pub whole : (p : ℕ) → LiesPartly cells f.place f.size p → ⊥
  pub placed : is_placed (field_of order (cells_at cells f.place f.size)) ≡ true

pub record FieldsRead (order : Order) (cells : List Cell) (moving : List ℕ) (fs : List FieldPlace) : Type 0 where
  pub offsets : (f : FieldPlace) → IsField fs f → f.use_is ≡ offset_field → OffsetReads order cells f
  pub numbers : (f : FieldPlace) (p : ℕ) (r : Relocation) → IsField fs f → f.use_is ≡ plain_field → relocation_at cells p ≡ Some r
      → f.place < p → p < f.place + f.size → ⊥
  pub kept : (p : ℕ) (r : Relocation) → relocation_at cells p ≡ Some r → lies_in moving r.target ≡ true → has_offset_at fs p ≡ true

-- the row of the offset of abbreviations in a unit's header, all else of which is one that a unit may have; and what holds where there is none
pub data HeaderOffsetFails (base : UnitBase) (z : UnitSection) : Refusal → Type 0 where
  header : (list : List UnitHeader) (h : UnitHeader) (start : ℕ) (f : FieldPlace) {r : Refusal} → UnitsUpTo base z list start → IsUnit base z start h
      → header_field base.order start (drop start z.contents) (initial_length_at base.order (bytes_from z start) 0) ≡ f ∷ []
      → OffsetFails base.order z.number z.contents f r → HeaderOffsetFails base z r

pub record HeaderOffsetsRead (base : UnitBase) (z : UnitSection) : Type 0 where
  pub all : (list : List UnitHeader) (h : UnitHeader) (start : ℕ) (f : FieldPlace) → UnitsUpTo base z list start → IsUnit base z start h
      → header_field base.order start (drop start z.contents) (initial_length_at base.order (bytes_from z start) 0) ≡ f ∷ []
      → OffsetReads base.order z.contents f

-- in the header of a line table, up to where its lists end, only offsets of texts have relocations; and none reaches into it
pub data HeaderFails (section start behind : ℕ) (cells : List Cell) (fs : List FieldPlace) : Refusal → Type 0 where
  other_field : (p : ℕ) (r : Relocation) → relocation_at cells p ≡ Some r → start ≤ p → p < behind → has_offset_at fs p ≡ false
      → HeaderFails section start behind cells fs (at RelocationKind section p)
  reaches : (p : ℕ) (r : Relocation) → relocation_at cells p ≡ Some r → p < start → start < p + reach_of r
      → HeaderFails section start behind cells fs (at RelocationKind section p)

-- and what holds where nothing is
pub record HeaderReads (start behind : ℕ) (cells : List Cell) (fs : List FieldPlace) : Type 0 where
  pub own : (p : ℕ) (r : Relocation) → relocation_at cells p ≡ Some r → start ≤ p → p < behind → has_offset_at fs p ≡ true
  pub apart : (p : ℕ) (r : Relocation) → relocation_at cells p ≡ Some r → p < start → p + reach_of r ≤ start

-- the numbers of the sections whose places change, of a list whose first section has this number
abbrev pub moving_from : ℕ → List ViewSection → List ℕ
moving_from i [] = []
moving_from i (s ∷ ss) = if moves (debug_section s.name) then i ∷ moving_from (i + 1) ss else moving_from (i + 1) ss

unfoldable pub moving_sections : View → List ℕ
moving_sections v = moving_from 0 v.sections
