-- The string offsets of name tables as fields with relocations (DWARF 5, 6.1.1.4.6; gABI ch. 4 "Relocation"): which can be read, and why name tables
-- are refused for one that can't.
use Rattle.std.specs.Prelude.{◌≡◌, ℕ, ◌<◌, List, [], ◌∷◌, ◌++◌, length, Ok, Err}
use Rattle.dw_base.specs.FileViews.{View, field_at}
use Rattle.dw_base.specs.Forms.{width_size}
use Rattle.dw_base.specs.NameTableFails.{NamedFails, TablesFail, TextFails}
use Rattle.dw_base.specs.NameTables.{IsNamedTable, IsNameTable, NamesTexts, names_of, string_place}
use Rattle.dw_base.specs.declared.fault.Refusal.{Refusal}
use Rattle.dw_base.specs.declared.name_tables.NameTable.{NameTable}
use Rattle.dw_base.specs.ViewOffsets.{offset_read}

-- the first string offsets of a table in a section of a view can be read
pub record OffsetsRead (v : View) (section : ℕ) (t : NameTable) (count : ℕ) : Type 0 where
  pub all : (i : ℕ) → i < count
      → offset_read v section (string_place t i) (width_size t.width) ≡ Ok (field_at v section (string_place t i) (width_size t.width))

-- tables whose string offsets can be read stand one after another from the section's start up to a place
pub data ReadUpTo (v : View) (section : ℕ) (bytes : List ℕ) : List NameTable → ℕ → Type 0 where
  none_read : ReadUpTo v section bytes [] 0
  more_read : (list : List NameTable) (t : NameTable) (start : ℕ) → ReadUpTo v section bytes list start → IsNamedTable v section bytes start t
      → OffsetsRead v section t t.names → ReadUpTo v section bytes (list ++ t ∷ []) t.end

-- the name tables of a view: they fill the section
abbrev pub AreRead : View → List NameTable → Type 0
AreRead v list = ReadUpTo v (names_of v).number (names_of v).bytes list (length (names_of v).bytes)

-- a string offset of a table, the first that does so, can't be read: the refusal of kind Relocation, at the field or at a relocation that lies on it
-- only in part
pub data OffsetRefuses (v : View) (section : ℕ) (t : NameTable) : Refusal → Type 0 where
  no_offset : (i : ℕ) {r : Refusal} → i < t.names → NamesTexts v section t i → OffsetsRead v section t i
      → offset_read v section (string_place t i) (width_size t.width) ≡ Err r → OffsetRefuses v section t r

-- one of the string offsets of a table can't be read, or names no text
pub data TextRefuses (v : View) (section : ℕ) (t : NameTable) : Refusal → Type 0 where
  names_none : {r : Refusal} → TextFails v section t r → TextRefuses v section t r
  reads_none : {r : Refusal} → OffsetRefuses v section t r → TextRefuses v section t r

-- the table at a place can't be read, or one of its string offsets can't
pub data TableRefuses (v : View) (section : ℕ) (bytes : List ℕ) (start : ℕ) : Refusal → Type 0 where
  table_fails : {r : Refusal} → NamedFails v section bytes start r → TableRefuses v section bytes start r
  offset_fails : (t : NameTable) {r : Refusal} → IsNameTable v.order bytes start t → OffsetRefuses v section t r → TableRefuses v section bytes start r

-- some table of the bytes of a section can't be read, or some string offset can't, behind tables that can
pub data TablesRefuse (v : View) (section : ℕ) (bytes : List ℕ) : Refusal → Type 0 where
  tables : {r : Refusal} → TablesFail v section bytes r → TablesRefuse v section bytes r
  offsets : (list : List NameTable) (start : ℕ) (t : NameTable) {r : Refusal} → ReadUpTo v section bytes list start → start < length bytes
      → IsNameTable v.order bytes start t → OffsetRefuses v section t r → TablesRefuse v section bytes r

-- why the name tables of a view can't be read
abbrev pub NamesRefuse : View → Refusal → Type 0
NamesRefuse v r = TablesRefuse v (names_of v).number (names_of v).bytes r
