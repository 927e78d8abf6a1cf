-- What a value of an attribute means (DWARF 5, 7.5.5). It is said in names, numbers and texts: where a text stands in its
-- table, which form holds it and where a section lies are not in it.
use Rattle.std.specs.Prelude.{Bool, ◌+◌, ℕ, ℤ, pos, ◌==◌, ◌&&◌, if◌then◌else◌, List, [], ◌∷◌, drop, length, get_or, Option, Some, None}
use Rattle.dw_base.specs.Cells.{Cell, address_by, bytes_of, field_of, first_relocation, offset_of}
use Rattle.dw_base.specs.DebugData.{Lasting, Around, EntryPlace, line_table, macro_unit, table_of}
use Rattle.dw_base.specs.Forms.{ValueKind, number_of, leb_number, signed_leb, block_of, counted, counted_leb, inline_text, text_offset, present, in_abbreviation, form_in_front, supplementary, unlisted}
use Rattle.dw_base.specs.Lebs.{uleb_at, sleb_at}
use Rattle.dw_base.specs.Numbers.{spelled}
use Rattle.dw_base.specs.Roles.{is_line_start, is_macro_start, is_path_use}
use Rattle.dw_base.specs.TextIndexes.{holds_number, slot_of}
use Rattle.dw_base.specs.Texts.{text, text_in}
use Rattle.dw_base.specs.UnitStates.{UnitState, code_value}
use Rattle.dw_base.specs.declared.debug_sections.DebugSection.TheVariants.{Info, StrOffsets, Line}
use Rattle.dw_base.specs.declared.shared.Order.{Order}
use Rattle.dw_base.specs.declared.values.AttributeUse.{AttributeUse}
use Rattle.dw_base.specs.declared.values.Spec.{Spec}
use Rattle.dw_base.specs.declared.values.ValueClass.{ValueClass}
use Rattle.dw_base.specs.declared.view_fields.Field.{Field}
use Rattle.dw_base.specs.declared.view_fields.Field.TheVariants.{Num, Into, Sym}
use Rattle.dw_base.specs.declared.values.ValueClass.TheVariants.{Address, Flag, LocalRef, GlobalRef, SecOffset, StrIndex}

-- how a text is held: where its value stands, by an offset into a table, or by the slot of a number
pub data TextForm : Type 0 where
  inline : TextForm
  by_offset : TextForm
  by_slot : ℕ → TextForm

-- what a value means: a string, which is a source path or not; an entry, by the numbers of its unit and in it; a reference
-- to a place where no entry starts; the line table or the macro unit of a number; bytes; a signed number; or a number, with
-- the class that says of what
pub data ValueMeaning : Type 0 where
  string : Bool → TextForm → List ℕ → ValueMeaning
  entry_of : ℕ → ℕ → ValueMeaning
  stray : ℕ → ValueMeaning
  table_number : ℕ → ValueMeaning
  macro_number : ℕ → ValueMeaning
  raw : List Cell → ValueMeaning
  signed_number : ℤ → ValueMeaning
  of_class : ValueClass → Field → ValueMeaning

-- the entry that starts at a place of a section; where none does, the offset that was to name one
abbrev pub found_entry : List EntryPlace → ℕ → ℕ → ℕ → ValueMeaning
found_entry [] section place n = stray n
found_entry (e ∷ es) section place n =
    if e.section == section && e.place == place then entry_of e.unit e.number else found_entry es section place n

-- the first section of a list, or 0
abbrev pub first_of : List ℕ → ℕ
first_of [] = 0
first_of (i ∷ rest) = i

-- what a field refers to in .debug_info
abbrev pub global_entry : Lasting → Field → ValueMeaning
global_entry g (Num n) = found_entry (g.kept Info).entries (first_of (g.kept Info).infos) n n
global_entry g (Into z n) = if holds_number (g.kept Info).infos z then found_entry (g.kept Info).entries z n n else stray n
global_entry g (Sym s k a) = of_class GlobalRef (Sym s k a)

-- what a number refers to in its unit, from whose start it counts
abbrev pub local_entry : Lasting → UnitState → ℕ → ValueMeaning
local_entry g s n = found_entry (g.kept Info).entries s.section (s.header.start + n) n

-- the address that cells hold
unfoldable pub address_of : Order → List Cell → Field
address_of order p = address_by (first_relocation p) (spelled order (bytes_of p) 0 (length p))

-- what the cells of a number of a class mean
abbrev pub meaning_of_number : Lasting → UnitState → ValueClass → List Cell → ValueMeaning
meaning_of_number g s Address p = of_class Address (address_of g.base.order p)
meaning_of_number g s LocalRef p = local_entry g s (spelled g.base.order (bytes_of p) 0 (length p))
meaning_of_number g s GlobalRef p = global_entry g (field_of g.base.order p)
meaning_of_number g s class p = of_class class (field_of g.base.order p)

-- and those of one in LEB128
abbrev pub meaning_of_leb : Lasting → UnitState → ValueClass → ℕ → ValueMeaning
meaning_of_leb g s LocalRef n = local_entry g s n
meaning_of_leb g s class n = of_class class (Num n)

-- how many bytes a count in front of a block has
abbrev pub read_size : Option (ℕ × ℕ) → ℕ
read_size None = 0
read_size (Some n) = n.1

-- the value of a signed number that was read, 0 where nothing was
abbrev pub read_signed : Option (ℤ × ℕ) → ℤ
read_signed None = pos 0
read_signed (Some n) = n.0

-- what a value by index means: the text of its slot, with the slot's number
abbrev pub indexed : List (List ℕ) → Bool → Option ℕ → List Cell → ValueMeaning
indexed texts path None p = raw p
indexed texts path (Some n) p = string path (by_slot n) (get_or texts n [])

-- a value that says an index
abbrev pub by_index : Around → UnitState → AttributeUse → ℕ → List Cell → ValueMeaning
by_index around s u index p = indexed (around.stands StrOffsets) (is_path_use u) (slot_of (around.lasting.kept StrOffsets) s.unit index) p

abbrev pub number_meaning : Around → UnitState → AttributeUse → ValueClass → List Cell → ValueMeaning
number_meaning around s u StrIndex p = by_index around s u (spelled around.lasting.base.order (bytes_of p) 0 (length p)) p
number_meaning around s u class p = meaning_of_number around.lasting s class p

abbrev pub leb_meaning : Around → UnitState → AttributeUse → ValueClass → List Cell → ValueMeaning
leb_meaning around s u StrIndex p = by_index around s u (code_value p) p
leb_meaning around s u class p = meaning_of_leb around.lasting s class (code_value p)

-- what a value means that says where a line table starts: the number of the table
abbrev pub table_named : Option ℕ → ℕ → ValueMeaning
table_named None n = stray n
table_named (Some k) n = table_number k

abbrev pub line_meaning : Around → List Cell → ValueMeaning
line_meaning around p = table_named (line_table around p) (offset_of around.lasting.base.order (around.stands Line).located p)

-- what a value means that says where a macro unit starts: the number of the unit
abbrev pub unit_meant : Option ℕ → Field → ValueMeaning
unit_meant None f = of_class SecOffset f
unit_meant (Some k) f = macro_number k

abbrev pub macro_meaning : Lasting → List Cell → ValueMeaning
macro_meaning g p = unit_meant (macro_unit g p) (field_of g.base.order p)

-- a number that isn't the start of a line table
abbrev pub plain_meaning : Around → UnitState → AttributeUse → ValueClass → ℕ → List Cell → ValueMeaning
plain_meaning around s u class n p =
    if is_macro_start u class n then macro_meaning around.lasting p else number_meaning around s u class p

-- what the cells of a value of a kind mean, of an attribute of a unit; cells of a form that isn't listed are never read
abbrev pub meaning_of_value : Around → UnitState → AttributeUse → Spec → ValueKind → List Cell → ValueMeaning
meaning_of_value around s u x (number_of class n) p =
    if is_line_start u class n then line_meaning around p else plain_meaning around s u class n p
meaning_of_value around s u x (leb_number class) p = leb_meaning around s u class p
meaning_of_value around s u x signed_leb p = signed_number (read_signed (sleb_at (bytes_of p) 0))
meaning_of_value around s u x (block_of n) p = raw p
meaning_of_value around s u x (counted n) p = raw (drop n p)
meaning_of_value around s u x counted_leb p = raw (drop (read_size (uleb_at (bytes_of p) 0)) p)
meaning_of_value around s u x inline_text p = string (is_path_use u) inline (text (bytes_of p))
meaning_of_value around s u x (text_offset table n) p =
    string (is_path_use u) by_offset
    (text_in (table_of around table).bytes (offset_of around.lasting.base.order (table_of around table) p))
meaning_of_value around s u x present p = of_class Flag (Num 1)
meaning_of_value around s u x in_abbreviation p = signed_number x.implicit
meaning_of_value around s u x form_in_front p = raw p
meaning_of_value around s u x supplementary p = raw p
meaning_of_value around s u x unlisted p = raw p
