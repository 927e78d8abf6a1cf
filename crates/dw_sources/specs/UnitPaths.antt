-- The paths of sources that a unit names: its own, and those of the files in the header of its line table (DWARF 5, 3.1.1 and 6.2.4).
-- Texts are as they stand.
use Rattle.std.specs.Prelude.{Bool, ℕ, ◌-◌, ◌==◌, ◌&&◌, not, nat_eq, if◌then◌else◌, List, [], ◌∷◌, ◌++◌, Option, Some, None}
use Rattle.std.specs.List.{starts_with}
use Rattle.dw_base.specs.AbbreviationBytes.{abbreviations_at}
use Rattle.dw_base.specs.Cells.{located_cells}
use Rattle.dw_base.specs.DebugData.{DebugData, line_source}
use Rattle.dw_base.specs.EntryValues.{bytes_up_to}
use Rattle.dw_base.specs.Forms.{width_size}
use Rattle.dw_base.specs.LineMeanings.{place_text, item_at}
use Rattle.dw_base.specs.LineReadings.{LineReading, table_read}
use Rattle.dw_base.specs.LineSources.{LineSource}
use Rattle.dw_base.specs.LineTables.{LineTable}
use Rattle.dw_base.specs.Numbers.{number_at}
use Rattle.dw_base.specs.RelocationFields.{field_in}
use Rattle.dw_base.specs.StringOffsets.{slot_place}
use Rattle.dw_base.specs.Texts.{text_in, ends_in}
use Rattle.dw_base.specs.UnitHeaders.{UnitSection}
use Rattle.dw_base.specs.declared.debug_sections.DebugSection.TheVariants.{Str, LineStr, StrOffsets, Line}
use Rattle.dw_base.specs.declared.line_tables.FilePlace.{FilePlace}
use Rattle.dw_base.specs.declared.line_tables.TextPlace.{TextPlace}
use Rattle.dw_base.specs.declared.shared.Width.{Width}
use Rattle.dw_base.specs.declared.string_offsets.Contribution.{Contribution}
use Rattle.dw_base.specs.declared.units.UnitHeader.{UnitHeader}
use Rattle.dw_base.specs.declared.values.Value.{Value}
use Rattle.dw_base.specs.declared.values.ValueClass.{ValueClass}
use Rattle.dw_base.specs.declared.values.ValueClass.TheVariants.{InlineText, StrOffset, LineStrOffset, StrIndex}
use Rattle.dw_paths.specs.CleanPaths.{joined_path}
use Rattle.dw_sources.specs.FieldOffsets.{field_offset, root_offset, value_offset}
use Rattle.dw_sources.specs.RootValues.{root_at}
use Rattle.dw_sources.specs.declared.roots.Root.{Root}

-- the width of the contribution whose slots begin at a base
abbrev pub base_width : List Contribution → ℕ → Option Width
base_width [] base = None
base_width (c ∷ cs) base = if c.base == base then Some c.width else base_width cs base

-- the text at a place of a table; none where no NUL follows
abbrev pub named_text : List ℕ → ℕ → Option (List ℕ)
named_text table n = if ends_in table n then Some (text_in table n) else None

-- the text of the slot of an index, in the contribution of a base
abbrev pub number_text : List ℕ → Option ℕ → Option (List ℕ)
number_text table None = None
number_text table (Some n) = named_text table n

-- the offset in a slot at a place, from which a number was read
abbrev pub slot_offset : DebugData → ℕ → ℕ → Option ℕ → Option ℕ
slot_offset d place n None = None
slot_offset d place n (Some number) = field_offset (d.found Str) number (field_in d.base.order (d.found StrOffsets).number (d.found StrOffsets).contents place n)

abbrev pub slot_text_at : DebugData → Option Width → Option ℕ → Option (List ℕ)
slot_text_at d None place = None
slot_text_at d (Some w) None = None
slot_text_at d (Some w) (Some place) =
    number_text (d.found Str).bytes
    (slot_offset d place (width_size w) (number_at d.base.order (located_cells (d.found StrOffsets)).bytes place (width_size w)))

unfoldable pub slot_text : DebugData → List Contribution → ℕ → ℕ → Option (List ℕ)
slot_text d list base index = slot_text_at d (base_width list base) (slot_place list base index)

abbrev pub index_text : DebugData → List Contribution → Option ℕ → ℕ → Option (List ℕ)
index_text d list None index = None
index_text d list (Some base) index = slot_text d list base index

-- the text that a value holds in a unit of a section with these bytes up to its end and this base
abbrev pub class_text : ValueClass → DebugData → List Contribution → UnitSection → List ℕ → Option ℕ → Value → Option (List ℕ)
class_text InlineText d list z bytes base v = named_text bytes v.at
class_text StrOffset d list z bytes base v = number_text (d.found Str).bytes (value_offset d.base.order z (d.found Str) bytes v)
class_text LineStrOffset d list z bytes base v = number_text (d.found LineStr).bytes (value_offset d.base.order z (d.found LineStr) bytes v)
class_text StrIndex d list z bytes base v = index_text d list base v.number
class_text class d list z bytes base v = None

abbrev pub value_text : DebugData → List Contribution → UnitSection → List ℕ → Option ℕ → Option Value → Option (List ℕ)
value_text d list z bytes base None = None
value_text d list z bytes base (Some v) = class_text v.class d list z bytes base v

-- a text that names no file, as `<built-in>`
abbrev pub is_made_up : List ℕ → Bool
is_made_up text = starts_with nat_eq text (60 ∷ [])

-- a path, but for one whose own text names no file
abbrev pub listed : List ℕ → List ℕ → List (List ℕ)
listed text path = if is_made_up text then [] else path ∷ []

-- the path of a unit of a name, compiled in a folder
abbrev pub unit_path : List ℕ → Option (List ℕ) → List (List ℕ)
unit_path folder None = []
unit_path folder (Some name) = listed name (joined_path folder name)

-- the path of a file in a directory of its line table
abbrev pub file_in : List ℕ → List ℕ → Option (List ℕ) → List (List ℕ)
file_in folder name None = []
file_in folder name (Some dir) = listed name (joined_path (joined_path folder dir) name)

-- the text of the directory of a number: version 5 counts from 0; before, directories count from 1, and 0 is the folder itself
abbrev pub dir_place : ℕ → List TextPlace → ℕ → Option TextPlace
dir_place version dirs i = if version == 5 then item_at dirs i else item_at dirs (i - 1)

abbrev pub text_of_place : LineSource → Option TextPlace → Option (List ℕ)
text_of_place g None = None
text_of_place g (Some x) = Some (place_text g x)

abbrev pub dir_text : LineSource → ℕ → List TextPlace → ℕ → Option (List ℕ)
dir_text g version dirs i =
    if not (version == 5) && i == 0 then Some [] else text_of_place g (dir_place version dirs i)

abbrev pub file_path : LineSource → List ℕ → LineTable → FilePlace → List (List ℕ)
file_path g folder t f = file_in folder (place_text g f.text) (dir_text g t.version t.dirs f.dir)

abbrev pub files_paths : LineSource → List ℕ → LineTable → List FilePlace → List (List ℕ)
files_paths g folder t [] = []
files_paths g folder t (f ∷ fs) = file_path g folder t f ++ files_paths g folder t fs

-- the table that starts at a place
abbrev pub started_table : LineSource → List LineReading → ℕ → Option LineTable
started_table g [] n = None
started_table g (r ∷ rs) n = if r.header.start == n then Some (table_read g r) else started_table g rs n

-- the paths of the files of a table, where a unit names one
abbrev pub table_paths : LineSource → List ℕ → Option LineTable → List (List ℕ)
table_paths g folder None = []
table_paths g folder (Some t) = files_paths g folder t t.files

abbrev pub lines_paths : LineSource → (ℕ → Option LineTable) → List ℕ → Option ℕ → List (List ℕ)
lines_paths g tables folder None = []
lines_paths g tables folder (Some n) = table_paths g folder (tables n)

-- the folder of a unit: empty where it says none
abbrev pub folder_of : Option (List ℕ) → List ℕ
folder_of None = []
folder_of (Some folder) = folder

-- the paths of a unit whose first entry says this, by the line tables that start at places
abbrev pub paths_in : DebugData → (ℕ → Option LineTable) → List ℕ → Option (List ℕ) → Option ℕ → List (List ℕ)
paths_in d tables folder name lines = unit_path folder name ++ lines_paths (line_source d) tables folder lines

abbrev pub paths_by : DebugData → List Contribution → (ℕ → Option LineTable) → UnitSection → List ℕ → Root → Option ℕ → Option ℕ → List (List ℕ)
paths_by d list tables z bytes r base lines =
    paths_in d tables (folder_of (value_text d list z bytes base r.comp_dir)) (value_text d list z bytes base r.name) lines

unfoldable pub root_paths : DebugData → List Contribution → (ℕ → Option LineTable) → UnitSection → List ℕ → Root → List (List ℕ)
root_paths d list tables z bytes r =
    paths_by d list tables z bytes r (root_offset d.base.order z (located_cells (d.found StrOffsets)) bytes r.base)
    (root_offset d.base.order z (located_cells (d.found Line)) bytes r.lines)

-- the paths of a unit
unfoldable pub unit_paths : DebugData → List Contribution → (ℕ → Option LineTable) → UnitSection → UnitHeader → List (List ℕ)
unit_paths d list tables z h =
    root_paths d list tables z (bytes_up_to z h)
    (root_at h.params (abbreviations_at d.base.abbrevs.bytes h.abbrevs) (bytes_up_to z h) h.first)
