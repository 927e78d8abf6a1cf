-- Where the offsets of texts stand in the lists of a line table's header, and where the lists end (DWARF 5, 6.2.4).
use Rattle.std.specs.Prelude.{◌≡◌, ℕ, ◌==◌, ◌||◌, if◌then◌else◌, List, [], ◌∷◌, ◌++◌, Ok}
use Rattle.dw_base.specs.Forms.{width_size}
use Rattle.dw_base.specs.Lebs.{uleb_at}
use Rattle.dw_base.specs.LineEntries.{counted_entries, entries_at, list_end}
use Rattle.dw_base.specs.LineFields.{list_fields, table_fields}
use Rattle.dw_base.specs.LineReadings.{LineReading, ReadsTable, table_read}
use Rattle.dw_base.specs.LineSources.{LineSource}
use Rattle.dw_base.specs.LineTables.{HasLists, IsLineTable, LineTable}
use Rattle.dw_base.specs.RelocationRows.{FieldPlace, field_place, offset_field}
use Rattle.dw_base.specs.declared.dwarf_numbers.TheConstants.{DW_FORM_line_strp, DW_FORM_strp}
use Rattle.dw_base.specs.declared.line_tables.FilePlace.{FilePlace}
use Rattle.dw_base.specs.declared.line_tables.LineHeader.{LineHeader}
use Rattle.dw_base.specs.declared.line_tables.TextPlace.{TextPlace}
use Rattle.dw_base.specs.declared.shared.Width.{Width}
use Rattle.dw_base.specs.declared.values.Spec.{Spec}

-- offsets of a width at these places
abbrev pub offsets_at : Width → List ℕ → List FieldPlace
offsets_at width [] = []
offsets_at width (p ∷ ps) = field_place p (width_size width) offset_field ∷ offsets_at width ps

-- the place of a column, where an offset of a text stands there
abbrev pub offset_places : Spec → ℕ → List ℕ
offset_places spec place = if spec.form == DW_FORM_strp || spec.form == DW_FORM_line_strp then place ∷ [] else []

-- the fields of the lists of a header
abbrev pub header_fields : LineSource → LineHeader → List ℕ → List FieldPlace
header_fields g h table =
    if h.version == 5 then list_fields g h table h.lists ++ list_fields g h table (list_end g h table h.lists) else []

-- where entries end: those behind a format, those of a list, and both lists
pub record EntriesEnd (g : LineSource) (h : LineHeader) (table : List ℕ) (specs : List Spec) (place next : ℕ) : Type 0 where
  pub files : List FilePlace
  pub read : counted_entries g h table specs place (uleb_at table place) ≡ Ok (files, next)

pub record ListEnds (g : LineSource) (h : LineHeader) (table : List ℕ) (place next : ℕ) : Type 0 where
  pub files : List FilePlace
  pub read : entries_at g h table place ≡ Ok (files, next)

pub record ListsEnd (g : LineSource) (h : LineHeader) (table : List ℕ) (behind : ℕ) : Type 0 where
  pub dirs : List TextPlace
  pub files : List FilePlace
  pub read : HasLists g h table dirs files behind

-- a table can be read that starts at a place
pub record HasTable (g : LineSource) (start : ℕ) : Type 0 where
  pub table : LineTable
  pub is : IsLineTable g start table

-- whatever is read of the table that starts at a place: the places of its offsets, and where its lists end
pub record HeaderHas (g : LineSource) (start : ℕ) (places : List ℕ) (behind : ℕ) : Type 0 where
  pub fields : (r : LineReading) → ReadsTable g start r → offsets_at r.header.width places ≡ table_fields g r
  pub end : (r : LineReading) → ReadsTable g start r → behind ≡ r.behind

-- what was read of a table, with the places of its offsets, and where its lists end
pub record AreHeaderFields (g : LineSource) (t : LineTable) (places : List ℕ) (behind : ℕ) : Type 0 where
  pub reading : LineReading
  pub reads : ReadsTable g t.start reading
  pub is : t ≡ table_read g reading
  pub fields : offsets_at t.width places ≡ table_fields g reading
  pub end : behind ≡ reading.behind
