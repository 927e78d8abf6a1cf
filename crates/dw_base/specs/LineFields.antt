-- The fields of a line table's header that hold offsets of texts (DWARF 5, 6.2.4): columns of directories and files, paths and others.
use Rattle.std.specs.Prelude.{ℕ, zero, suc, ◌+◌, ◌==◌, ◌||◌, if◌then◌else◌, List, [], ◌∷◌, ◌++◌, Option, Some, None, Result, Ok, Err}
use Rattle.dw_base.specs.Forms.{width_size}
use Rattle.dw_base.specs.Lebs.{uleb_at}
use Rattle.dw_base.specs.LineEntries.{column_at, entry_at, list_end}
use Rattle.dw_base.specs.LineFormats.{format_at}
use Rattle.dw_base.specs.LineReadings.{LineReading}
use Rattle.dw_base.specs.LineSources.{LineSource}
use Rattle.dw_base.specs.LineTables.{table_bytes}
use Rattle.dw_base.specs.RelocationRows.{FieldPlace, field_place, offset_field}
use Rattle.dw_base.specs.declared.dwarf_numbers.TheConstants.{DW_FORM_strp, DW_FORM_line_strp}
use Rattle.dw_base.specs.declared.fault.Refusal.{Refusal}
use Rattle.dw_base.specs.declared.line_tables.Column.{Column}
use Rattle.dw_base.specs.declared.line_tables.FilePlace.{FilePlace}
use Rattle.dw_base.specs.declared.line_tables.LineHeader.{LineHeader}
use Rattle.dw_base.specs.declared.values.Spec.{Spec}

-- the field of a column at a place, where its form is an offset of a text
abbrev pub column_field : LineHeader → Spec → ℕ → List FieldPlace
column_field h spec place =
    if spec.form == DW_FORM_strp || spec.form == DW_FORM_line_strp then field_place place (width_size h.width) offset_field ∷ [] else []

-- those of the columns of an entry from a place on
abbrev pub fields_behind : (ℕ → List FieldPlace) → Result Column Refusal → List FieldPlace
fields_behind rest (Err r) = []
fields_behind rest (Ok c) = rest c.next

abbrev pub entry_fields : LineSource → LineHeader → List ℕ → List Spec → ℕ → List FieldPlace
entry_fields g h table [] place = []
entry_fields g h table (spec ∷ specs) place =
    column_field h spec place ++ fields_behind (λ p. entry_fields g h table specs p) (column_at g h table spec place)

-- of so many entries
abbrev pub fields_there : (ℕ → List FieldPlace) → Result (FilePlace × ℕ) Refusal → List FieldPlace
fields_there rest (Err r) = []
fields_there rest (Ok f) = rest f.1

abbrev pub entries_fields : LineSource → LineHeader → List ℕ → List Spec → ℕ → ℕ → List FieldPlace
entries_fields g h table specs zero place = []
entries_fields g h table specs (suc n) place =
    entry_fields g h table specs place ++ fields_there (λ p. entries_fields g h table specs n p) (entry_at g h table specs place)

-- of a list whose format stands at a place
abbrev pub fields_counted : LineSource → LineHeader → List ℕ → List Spec → ℕ → Option (ℕ × ℕ) → List FieldPlace
fields_counted g h table specs place None = []
fields_counted g h table specs place (Some n) = entries_fields g h table specs n.0 (place + n.1)

abbrev pub fields_formed : LineSource → LineHeader → List ℕ → Option (List Spec × ℕ) → List FieldPlace
fields_formed g h table None = []
fields_formed g h table (Some f) = fields_counted g h table f.0 f.1 (uleb_at table f.1)

abbrev pub list_fields : LineSource → LineHeader → List ℕ → ℕ → List FieldPlace
list_fields g h table place = fields_formed g h table (format_at table place)

-- of a table that was read: before version 5 all texts stand inline
abbrev pub table_fields : LineSource → LineReading → List FieldPlace
table_fields g r =
    if r.header.version == 5
    then list_fields g r.header (table_bytes g r.header) r.header.lists
    ++ list_fields g r.header (table_bytes g r.header) (list_end g r.header (table_bytes g r.header) r.header.lists)
    else []

-- of all tables
abbrev pub line_fields : LineSource → List LineReading → List FieldPlace
line_fields g [] = []
line_fields g (r ∷ rs) = table_fields g r ++ line_fields g rs
