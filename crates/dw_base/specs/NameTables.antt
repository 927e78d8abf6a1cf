-- Name tables (DWARF 5, 6.1.1.4): a length, the version 5, two bytes of padding, seven counts of 4 bytes, and the parts that
-- they count, of which the string offsets of the names are one.
use Rattle.std.specs.Prelude.{Bool, true, ◌≡◌, ℕ, ◌+◌, ◌*◌, ◌<◌, ◌≤◌, List, [], ◌∷◌, ◌++◌, length, Some}
use Rattle.dw_base.specs.Cells.{Located, offset_into}
use Rattle.dw_base.specs.FileViews.{View, field_at}
use Rattle.dw_base.specs.Forms.{width_size}
use Rattle.dw_base.specs.Lebs.{initial_length_at}
use Rattle.dw_base.specs.NameHeaders.{name_counts, before_strings, from_strings}
use Rattle.dw_base.specs.Numbers.{spelled}
use Rattle.dw_base.specs.Texts.{ends_in}
use Rattle.dw_base.specs.ViewData.{located}
use Rattle.dw_base.specs.declared.debug_sections.DebugSection.TheVariants.{Names, Str}
use Rattle.dw_base.specs.declared.shared.Order.{Order}
use Rattle.dw_base.specs.declared.shared.Width.{Width}
use Rattle.dw_base.specs.declared.name_tables.NameTable.{NameTable}

-- the section of name tables of a view: no bytes where there is none
abbrev pub names_of : View → Located
names_of v = located v Names

-- the table at a place, by its length: width, length, and the size of the length's field
abbrev pub table_from : Order → List ℕ → ℕ → Width × ℕ × ℕ → NameTable
table_from order bytes start l =
    let counts = name_counts order bytes (start + l.2) in
    record {
      start = start;
      end = start + l.2 + l.1;
      width = l.0;
      names = counts.names;
      strings = start + l.2 + 32 + before_strings l.0 counts;
    }

-- a table that can be read starts at a place: it lies in the section, its version is 5, and all its parts fit
pub record IsNameTable (order : Order) (bytes : List ℕ) (start : ℕ) (t : NameTable) : Type 0 where
  pub lengths : Width × ℕ × ℕ
  pub length_is : initial_length_at order bytes start ≡ Some lengths
  pub is : t ≡ table_from order bytes start lengths
  pub within : t.end ≤ length bytes
  pub header : start + lengths.2 + 32 ≤ t.end
  pub version : spelled order bytes (start + lengths.2) 2 ≡ 5
  pub parts : t.strings + from_strings lengths.0 (name_counts order bytes (start + lengths.2)) ≤ t.end

-- the place of a string offset of a table
abbrev pub string_place : NameTable → ℕ → ℕ
string_place t i = t.strings + i * width_size t.width

-- the texts that string offsets name
abbrev pub texts_in : View → Located
texts_in v = located v Str

-- a text begins where a string offset of a table in a section of a view says
abbrev pub names_text : View → ℕ → NameTable → ℕ → Bool
names_text v section t i = ends_in (texts_in v).bytes (offset_into (texts_in v) (field_at v section (string_place t i) (width_size t.width)))

-- each of the first string offsets names a text
pub record NamesTexts (v : View) (section : ℕ) (t : NameTable) (count : ℕ) : Type 0 where
  pub all : (i : ℕ) → i < count → names_text v section t i ≡ true

-- a table that can be read, each of whose string offsets names a text
pub record IsNamedTable (v : View) (section : ℕ) (bytes : List ℕ) (start : ℕ) (t : NameTable) : Type 0 where
  pub table : IsNameTable v.order bytes start t
  pub texts : NamesTexts v section t t.names

-- tables stand one after another from the section's start up to a place
pub data TablesUpTo (v : View) (section : ℕ) (bytes : List ℕ) : List NameTable → ℕ → Type 0 where
  no_tables : TablesUpTo v section bytes [] 0
  more_tables : (list : List NameTable) (t : NameTable) (start : ℕ) → TablesUpTo v section bytes list start
      → IsNamedTable v section bytes start t → TablesUpTo v section bytes (list ++ t ∷ []) t.end

-- the name tables of a view: they fill the section
abbrev pub AreNameTables : View → List NameTable → Type 0
AreNameTables v list = TablesUpTo v (names_of v).number (names_of v).bytes list (length (names_of v).bytes)
