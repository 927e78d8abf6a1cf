-- Why name tables can't be read: the refusals of kind NameTable, at the table, and of kind StringOffset, at the field (DWARF 5,
-- 6.1.1.4). The tables before it can be read.
use Rattle.std.specs.Prelude.{true, false, ◌≡◌, ◌≢◌, ℕ, ◌+◌, ◌<◌, ◌≤◌, List, length, Some, None}
use Rattle.dw_base.specs.Cells.{is_placed}
use Rattle.dw_base.specs.FileViews.{View, field_at}
use Rattle.dw_base.specs.Forms.{width_size}
use Rattle.dw_base.specs.Lebs.{initial_length_at}
use Rattle.dw_base.specs.Numbers.{spelled}
use Rattle.dw_base.specs.Refusals.{at}
use Rattle.dw_base.specs.declared.fault.Kind.TheVariants.{NameTable as NameTableKind, StringOffset}
use Rattle.dw_base.specs.declared.fault.Refusal.{Refusal}
use Rattle.dw_base.specs.declared.shared.Order.{Order}
use Rattle.dw_base.specs.declared.shared.Width.{Width}
use Rattle.dw_base.specs.NameTables.{IsNameTable, string_place, names_text, NamesTexts, TablesUpTo, names_of}
use Rattle.dw_base.specs.NameHeaders.{name_counts, before_strings, from_strings}
use Rattle.dw_base.specs.declared.name_tables.NameTable.{NameTable}

-- what is wrong with the table at a place: no length can be read there, its end passes the section's, it has no room for version
-- and counts, its version isn't 5, or its parts don't fit
pub data TableFails (order : Order) (bytes : List ℕ) (section start : ℕ) : Refusal → Type 0 where
  no_length : initial_length_at order bytes start ≡ None → TableFails order bytes section start (at NameTableKind section start)
  passes : (l : Width × ℕ × ℕ) → initial_length_at order bytes start ≡ Some l → length bytes < start + l.2 + l.1
      → TableFails order bytes section start (at NameTableKind section start)
  no_counts : (l : Width × ℕ × ℕ) → initial_length_at order bytes start ≡ Some l → l.1 < 32
      → TableFails order bytes section start (at NameTableKind section start)
  other_version : (l : Width × ℕ × ℕ) → initial_length_at order bytes start ≡ Some l → start + l.2 + 2 ≤ length bytes
      → spelled order bytes (start + l.2) 2 ≢ 5 → TableFails order bytes section start (at NameTableKind section start)
  no_room : (l : Width × ℕ × ℕ) → initial_length_at order bytes start ≡ Some l → start + l.2 + 32 ≤ length bytes
      → l.1 < 32 + before_strings l.0 (name_counts order bytes (start + l.2)) + from_strings l.0 (name_counts order bytes (start + l.2))
      → TableFails order bytes section start (at NameTableKind section start)

-- a string offset of a table, the first that does so, names no text, at its field; a symbol without a place is no offset
pub data TextFails (v : View) (section : ℕ) (t : NameTable) : Refusal → Type 0 where
  no_text : (i : ℕ) → i < t.names → NamesTexts v section t i → is_placed (field_at v section (string_place t i) (width_size t.width)) ≡ true
      → names_text v section t i ≡ false
      → TextFails v section t (at StringOffset section (string_place t i))

-- what is wrong with the table at a place, or with one of its string offsets
pub data NamedFails (v : View) (section : ℕ) (bytes : List ℕ) (start : ℕ) : Refusal → Type 0 where
  table : {r : Refusal} → TableFails v.order bytes section start r → NamedFails v section bytes start r
  texts : (t : NameTable) {r : Refusal} → IsNameTable v.order bytes start t → TextFails v section t r → NamedFails v section bytes start r

-- some table of the bytes of a section can't be read
pub data TablesFail (v : View) (section : ℕ) (bytes : List ℕ) : Refusal → Type 0 where
  one : (list : List NameTable) (start : ℕ) {r : Refusal} → TablesUpTo v section bytes list start → start < length bytes
      → NamedFails v section bytes start r → TablesFail v section bytes r

-- some table of a view can't be read
abbrev pub NameTablesFail : View → Refusal → Type 0
NameTablesFail v r = TablesFail v (names_of v).number (names_of v).bytes r
