-- What units say, found by the places of what stands in them: the entries of a unit by their codes, the values of an entry one behind another, a
-- referenced entry among those of all units (DWARF 5, 7.5.2 to 7.5.6).
use Rattle.std.specs.Prelude.{Bool, true, false, ℕ, ℤ, zero, suc, ◌+◌, ◌-◌, ◌==◌, ◌&&◌, ◌||◌, not, nat_lt, nat_le, if◌then◌else◌, List, [], ◌∷◌, length, take, drop, Option, Some, None, option_map}
use Rattle.std.specs.Int.{w64, cast_signed}
use Rattle.dw_base.specs.AbbreviationTables.{Abbreviation, abbreviation_of}
use Rattle.dw_base.specs.Cells.{offset_into}
use Rattle.dw_base.specs.DebugData.{info_numbers, start_number}
use Rattle.dw_base.specs.EntryScans.{depth_behind, scanned}
use Rattle.dw_base.specs.EntryValues.{bytes_up_to}
use Rattle.dw_base.specs.FileViews.{View, address_at, field_at, section_bytes, section_named}
use Rattle.dw_base.specs.DebugSections.{name_of}
use Rattle.dw_base.specs.Forms.{width_size}
use Rattle.dw_base.specs.Lebs.{uleb_at}
use Rattle.dw_base.specs.LineMeanings.{item_at}
use Rattle.dw_base.specs.StringOffsets.{slot_place}
use Rattle.dw_base.specs.TextIndexes.{holds_number}
use Rattle.dw_base.specs.Texts.{text_in}
use Rattle.dw_base.specs.Values.{value_at}
use Rattle.dw_base.specs.ViewData.{debug_data, located}
use Rattle.dw_base.specs.declared.debug_sections.DebugSection.{DebugSection}
use Rattle.dw_base.specs.declared.debug_sections.DebugSection.TheVariants.{Info, Str, LineStr, StrOffsets, Line, Macro}
use Rattle.dw_base.specs.declared.dwarf_numbers.TheConstants.{DW_AT_stmt_list, DW_AT_str_offsets_base, DW_FORM_udata, DW_FORM_ref_udata, DW_FORM_strx, DW_FORM_addrx, DW_FORM_implicit_const, DW_FORM_loclistx, DW_FORM_rnglistx}
use Rattle.dw_base.specs.declared.shared.Params.{Params}
use Rattle.dw_base.specs.declared.string_offsets.Contribution.{Contribution}
use Rattle.dw_base.specs.declared.units.Scanned.{Scanned}
use Rattle.dw_base.specs.declared.units.UnitHeader.{UnitHeader}
use Rattle.dw_base.specs.declared.values.Spec.{Spec}
use Rattle.dw_base.specs.declared.values.Value.{Value}
use Rattle.dw_base.specs.declared.values.ValueClass.{ValueClass}
use Rattle.dw_base.specs.declared.values.ValueClass.TheVariants.{Address, Signed, Bytes, InlineText, StrOffset, LineStrOffset, StrIndex, LocalRef, GlobalRef, Number, SecOffset}
use Rattle.dw_base.specs.declared.view_fields.Field.{Field}
use Rattle.dw_base.specs.declared.view_fields.Field.TheVariants.{Num, Into, Sym}
use Rattle.dw_entries.specs.ViewUnits.{unit_section_at}
use Rattle.dw_starts.specs.UnitPlaces.{unit_number}
use Rattle.dw_units.specs.declared.listed_unit.ListedUnit.{ListedUnit}
use Rattle.dw_attrs.specs.Sayings.{said_bytes, said_entry, said_field, said_lines, said_macros, said_signed, said_stray, said_text, Saying}
use Rattle.dw_base.specs.Roles.{is_macros}
use Rattle.dw_base.specs.TableStarts.{is_start_form, own_form}
use Rattle.dw_meaning.specs.PieceRuns.{values_end}

-- where units and their entries start, in order
pub record EntryIndex : Type 0 where
  pub starts : List ℕ
  pub entries : List (List ℕ)

-- what units are read by again: the view, all its units in order, their tables of abbreviations by their numbers, where they and their entries
-- start, the contributions of string offsets, where line tables start, and where macro units start, as `place_key` says
pub record UnitSource : Type 0 where
  pub view : View
  pub units : List ListedUnit
  pub tables : List (List Abbreviation)
  pub index : EntryIndex
  pub contributions : List Contribution
  pub starts : List ℕ
  pub keys : List ℕ

-- the bytes of the section of a unit, up to the unit's end
abbrev pub unit_bytes : View → UnitHeader → List ℕ
unit_bytes v h = bytes_up_to (unit_section_at v h.section) h

-- the entries from a place on, where so many lists of children are open
abbrev pub entry_ended : (ℕ → ℕ → List Scanned) → ℕ → ℕ → Abbreviation → Option ℕ → List Scanned
entry_ended rest place depth a None = []
entry_ended rest place depth a (Some after) = scanned place depth a after ∷ rest after (depth_behind a depth)

abbrev pub entry_met : (ℕ → ℕ → List Scanned) → Params → List ℕ → ℕ → ℕ → ℕ → Option Abbreviation → List Scanned
entry_met rest params bytes place depth from None = []
entry_met rest params bytes place depth from (Some a) = entry_ended rest place depth a (values_end params bytes a.specs from)

abbrev pub code_met : (ℕ → ℕ → List Scanned) → Params → List Abbreviation → List ℕ → ℕ → ℕ → Option (ℕ × ℕ) → List Scanned
code_met rest params table bytes place depth None = []
code_met rest params table bytes place depth (Some (code, size)) =
    if code == 0 then rest (place + size) (depth - 1) else entry_met rest params bytes place depth (place + size) (abbreviation_of table code)

abbrev pub entries_left : ℕ → Params → List Abbreviation → List ℕ → ℕ → ℕ → List Scanned
entries_left zero params table bytes place depth = []
entries_left (suc more) params table bytes place depth =
    code_met (λ p d. entries_left more params table bytes p d) params table bytes place depth (uleb_at bytes place)

-- the entries of a unit
unfoldable pub unit_entries : UnitHeader → List Abbreviation → List ℕ → List Scanned
unit_entries h table bytes = entries_left (length bytes + 1) h.params table bytes h.first 0

-- the number of the entry that starts at a place, of entries numbered on
abbrev pub entry_number : ℕ → ℕ → List Scanned → Option ℕ
entry_number n place [] = None
entry_number n place (e ∷ es) = if e.offset == place then Some n else entry_number (n + 1) place es

-- a place of a section lies in a unit
abbrev pub lies_in : UnitHeader → ℕ → ℕ → Bool
lies_in h section place = h.section == section && nat_le h.start place && nat_lt place h.end

abbrev pub number_in : View → UnitHeader → ℕ → Option (List Abbreviation) → Option ℕ
number_in v h place None = None
number_in v h place (Some table) = entry_number 0 place (unit_entries h table (unit_bytes v h))

-- the entry that starts at a place of a section, by the numbers of its unit and in it, among units numbered on
abbrev pub or_behind : ℕ → Option ℕ → Option (ℕ × ℕ) → Option (ℕ × ℕ)
or_behind unit None rest = rest
or_behind unit (Some k) rest = Some (unit, k)

abbrev pub named_in : View → List (List Abbreviation) → ℕ → List ListedUnit → ℕ → ℕ → Option (ℕ × ℕ)
named_in v tables unit [] section place = None
named_in v tables unit (u ∷ us) section place =
    or_behind unit (if lies_in u.header section place then number_in v u.header place (item_at tables u.table) else None) (named_in v tables (unit + 1) us section place)

abbrev pub place_meant : Option (ℕ × ℕ) → ℕ → Saying
place_meant None offset = said_stray offset
place_meant (Some e) offset = said_entry e.0 e.1

unfoldable pub entry_meant : UnitSource → ℕ → ℕ → ℕ → Saying
entry_meant g section place offset = place_meant (named_in g.view g.tables 0 g.units section place) offset

-- the first section of the name .debug_info, or 0
abbrev pub or_zero : Option ℕ → ℕ
or_zero None = 0
or_zero (Some n) = n

abbrev pub info_section : View → ℕ
info_section v = or_zero (section_named v (name_of Info))

-- the first section of macro units, or 0
abbrev pub first_macro : View → ℕ
first_macro v = (located v Macro).number

-- what an offset of an entry of another unit says: of an entry of the first section .debug_info, or of the section that a relocation leads to,
-- where that is such a section
abbrev pub reference_meant : UnitSource → Field → Saying
reference_meant g (Num n) = entry_meant g (info_section g.view) n n
reference_meant g (Into section n) =
    if holds_number (info_numbers ((debug_data g.view).found Info)) section then entry_meant g section n n else said_stray n
reference_meant g (Sym symbol kind addend) = said_field GlobalRef (Sym symbol kind addend)

-- how many bytes the slots of a base have
abbrev pub slot_size : List Contribution → ℕ → ℕ
slot_size [] base = 4
slot_size (c ∷ cs) base = if c.base == base then width_size c.width else slot_size cs base

-- what the slot at a place of a section, of so many bytes, reads as
abbrev pub slot_in : View → ℕ → ℕ → ℕ → Field
slot_in v section place size = if nat_le (place + size) (length (section_bytes v section)) then field_at v section place size else Num 0

abbrev pub slot_field : View → Option ℕ → ℕ → ℕ → Field
slot_field v None place size = Num 0
slot_field v (Some section) place size = slot_in v section place size

-- the text of the slot at a place, of so many bytes
unfoldable pub slot_text : View → ℕ → ℕ → List ℕ
slot_text v place size = text_in (located v Str).bytes (offset_into (located v Str) (slot_field v (section_named v (name_of StrOffsets)) place size))

-- the text of an index in the contribution of a base
abbrev pub index_text : View → List Contribution → Option ℕ → ℕ → Option (List ℕ)
index_text v list None index = None
index_text v list (Some base) index = option_map (λ place. slot_text v place (slot_size list base)) (slot_place list base index)

-- what a value by index says; these are its own bytes
abbrev pub indexed_meant : Option (List ℕ) → List ℕ → Saying
indexed_meant None own = said_bytes own
indexed_meant (Some text) own = said_text text

abbrev pub index_meant : View → List Contribution → Option ℕ → ℕ → List ℕ → Saying
index_meant v list base index own = indexed_meant (index_text v list base index) own

-- a number of 64 bits in two's complement
abbrev pub signed_of : ℕ → ℤ
signed_of n = cast_signed w64 n

-- a value at a place says where a line table starts (DWARF 5, 3.1.1)
abbrev pub says_start : Spec → List ℕ → ℕ → Bool
says_start x bytes place = x.name == DW_AT_stmt_list && is_start_form (own_form x bytes place)

-- the line table that starts where a value says
abbrev pub lines_meant : Option ℕ → ℕ → Saying
lines_meant None offset = said_stray offset
lines_meant (Some k) offset = said_lines k

-- that of an offset
abbrev pub table_meant : UnitSource → ℕ → Saying
table_meant g offset = lines_meant (start_number 0 g.starts offset) offset

-- a value at a place says where a macro unit starts (DWARF 5, 3.1.1)
abbrev pub says_unit : Spec → List ℕ → ℕ → Bool
says_unit x bytes place = is_macros x.name && is_start_form (own_form x bytes place)

-- the macro unit that starts where a value says
abbrev pub start_meant : Option ℕ → Field → Saying
start_meant None field = said_field SecOffset field
start_meant (Some k) field = said_macros k

-- the number of the one that a field names, among where they start: of the first section of macro units, or of the section that a relocation
-- leads to
abbrev pub named_at : View → List ℕ → Field → Option ℕ
named_at v keys (Num n) = unit_number keys (first_macro v) n
named_at v keys (Into section n) = unit_number keys section n
named_at v keys (Sym symbol kind addend) = None

abbrev pub macro_named : UnitSource → Field → Option ℕ
macro_named g field = named_at g.view g.keys field

-- that of a field
abbrev pub macro_meant : UnitSource → Field → Saying
macro_meant g field = start_meant (macro_named g field) field

-- a form of numbers in LEB128 (DWARF 5, 7.5.6)
abbrev pub is_leb_form : ℕ → Bool
is_leb_form form =
    form == DW_FORM_udata || form == DW_FORM_ref_udata || form == DW_FORM_strx || form == DW_FORM_addrx || form == DW_FORM_loclistx || form == DW_FORM_rnglistx

-- a value has 1 to 8 bytes, which stand in these
abbrev pub has_field : List ℕ → Value → Bool
has_field bytes x = nat_lt 0 x.len && nat_le x.len 8 && nat_le (x.at + x.len) (length bytes)

-- what the number of a value of a form in a section reads as, of which these are the bytes: its field, but a number in LEB128 and a flag
-- without bytes are no fields
abbrev pub number_field : View → ℕ → List ℕ → ℕ → Value → Field
number_field v section bytes form x = if is_leb_form form || not (has_field bytes x) then Num x.number else field_at v section x.at x.len

-- what the address of a value reads as
abbrev pub address_field : View → ℕ → List ℕ → Value → Field
address_field v section bytes x = if has_field bytes x then address_at v section x.at x.len else Num x.number

-- a unit that is printed: its number, header, abbreviations, bytes, and the base of its texts by index
pub record SaidUnit : Type 0 where
  pub source : UnitSource
  pub number : ℕ
  pub header : UnitHeader
  pub table : List Abbreviation
  pub bytes : List ℕ
  pub base : Option ℕ

-- the bytes of a value
abbrev pub value_bytes : SaidUnit → Value → List ℕ
value_bytes u v = take v.len (drop v.at u.bytes)

-- what the number of a value of a form reads as, and its address
abbrev pub value_field : SaidUnit → ℕ → Value → Field
value_field u form v = number_field u.source.view u.header.section u.bytes form v

abbrev pub value_address : SaidUnit → Value → Field
value_address u v = address_field u.source.view u.header.section u.bytes v

-- the offset that a value of a form says into a section of a name
abbrev pub value_offset : SaidUnit → DebugSection → ℕ → Value → ℕ
value_offset u name form v = offset_into (located u.source.view name) (value_field u form v)

-- the text of one of a table of texts
abbrev pub offset_text : SaidUnit → DebugSection → ℕ → Value → List ℕ
offset_text u name form v = text_in (located u.source.view name).bytes (value_offset u name form v)

-- what a value of a form says, by its class
unfoldable pub class_meant : SaidUnit → ValueClass → ℕ → Value → Saying
class_meant u Address form v = said_field Address (value_address u v)
class_meant u Signed form v = said_signed (signed_of v.number)
class_meant u Bytes form v = said_bytes (value_bytes u v)
class_meant u InlineText form v = said_text (value_bytes u v)
class_meant u StrOffset form v = said_text (offset_text u Str form v)
class_meant u LineStrOffset form v = said_text (offset_text u LineStr form v)
class_meant u StrIndex form v = index_meant u.source.view u.source.contributions u.base v.number (value_bytes u v)
class_meant u LocalRef form v = entry_meant u.source u.header.section (u.header.start + v.number) v.number
class_meant u GlobalRef form v = reference_meant u.source (value_field u form v)
class_meant u class form v = said_field class (value_field u form v)

-- a value that stands in its abbreviation, or of a class
abbrev pub plain_meant : SaidUnit → Spec → ℕ → Value → Saying
plain_meant u x form v = if x.form == DW_FORM_implicit_const then said_signed x.implicit else class_meant u v.class form v

-- what a value says that says no start of a line table
abbrev pub other_meant : SaidUnit → Spec → ℕ → Value → Saying
other_meant u x place v =
    if says_unit x u.bytes place then macro_meant u.source (value_field u (own_form x u.bytes place) v) else plain_meant u x (own_form x u.bytes place) v

unfoldable pub value_meant : SaidUnit → Spec → ℕ → Value → Saying
value_meant u x place v =
    if says_start x u.bytes place then table_meant u.source (value_offset u Line (own_form x u.bytes place) v) else other_meant u x place v

-- a value of an attribute that says the base of the texts by index of its unit (DWARF 5, 3.1.1)
abbrev pub is_base_class : ValueClass → Bool
is_base_class Number = true
is_base_class SecOffset = true
is_base_class class = false

abbrev pub says_base : Spec → ValueClass → Bool
says_base x class = x.name == DW_AT_str_offsets_base && is_base_class class

-- the base that a value of a form says: as an offset where that can be one, else its number
abbrev pub base_number : View → UnitHeader → List ℕ → ℕ → Value → ℕ
base_number v h bytes form x =
    if is_start_form form then offset_into (located v StrOffsets) (number_field v h.section bytes form x) else x.number

-- the base that the values of an entry say, from a place on: the first counts
abbrev pub base_behind : (ℕ → Option ℕ) → View → UnitHeader → List ℕ → Spec → ℕ → Option Value → Option ℕ
base_behind rest v h bytes x place None = None
base_behind rest v h bytes x place (Some y) = if says_base x y.class then Some (base_number v h bytes (own_form x bytes place) y) else rest (place + y.size)

abbrev pub values_base : View → UnitHeader → List ℕ → List Spec → ℕ → Option ℕ
values_base v h bytes [] place = None
values_base v h bytes (x ∷ xs) place = base_behind (λ p. values_base v h bytes xs p) v h bytes x place (value_at h.params x bytes place)

abbrev pub listed_base : View → UnitHeader → List ℕ → ℕ → Option Abbreviation → Option ℕ
listed_base v h bytes from None = None
listed_base v h bytes from (Some a) = values_base v h bytes a.specs from

abbrev pub coded_base : View → UnitHeader → List Abbreviation → List ℕ → ℕ → Option (ℕ × ℕ) → Option ℕ
coded_base v h table bytes place None = None
coded_base v h table bytes place (Some (code, size)) = listed_base v h bytes (place + size) (abbreviation_of table code)

unfoldable pub entry_base : View → UnitHeader → List Abbreviation → List ℕ → Scanned → Option ℕ
entry_base v h table bytes e = coded_base v h table bytes e.offset (uleb_at bytes e.offset)

abbrev pub first_base : View → UnitHeader → List Abbreviation → List ℕ → List Scanned → Option ℕ
first_base v h table bytes [] = None
first_base v h table bytes (e ∷ es) = entry_base v h table bytes e

-- a unit with its table of abbreviations
abbrev pub said_unit : UnitSource → ℕ → UnitHeader → List Abbreviation → SaidUnit
said_unit g number h table = record {
  source = g;
  number = number;
  header = h;
  table = table;
  bytes = unit_bytes g.view h;
  base = first_base g.view h table (unit_bytes g.view h) (unit_entries h table (unit_bytes g.view h));
}
