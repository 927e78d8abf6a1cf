-- Line tables of DWARF 2 to 5 (DWARF 5, 6.2.4; for versions 2 to 4 the standards' own): their numbers, directories and files,
-- and the files that their programs define.
use Rattle.std.specs.Prelude.{Bool, ◌≡◌, ◌≢◌, ℕ, ℤ, ◌≤◌, List, [], ◌++◌, map, take, Some, Ok}
use Rattle.dw_base.specs.Cells.{Cell}
use Rattle.dw_base.specs.LineSources.{LineSource}
use Rattle.dw_base.specs.declared.shared.Width.{Width}
use Rattle.dw_base.specs.declared.line_tables.TextPlace.{TextPlace}
use Rattle.dw_base.specs.LineEntries.{entries_at}
use Rattle.dw_base.specs.LineHeaders.{line_header}
use Rattle.dw_base.specs.OldLineLists.{next_dir, next_file}
use Rattle.dw_base.specs.LinePrograms.{next_opcode}
use Rattle.dw_base.specs.TableTexts.{texts_by}
use Rattle.dw_base.specs.Walks.{ComesTo}
use Rattle.dw_base.specs.declared.line_tables.LineHeader.{LineHeader}
use Rattle.dw_base.specs.declared.line_tables.FilePlace.{FilePlace}
use Rattle.dw_base.specs.declared.line_tables.LineText.{LineText}

-- a line table, with all places in bytes from its section's start: the numbers of its header, its directories and files, the files that its
-- program defines, and all texts of its directories and files
pub record LineTable : Type 0 where
  pub section : ℕ
  pub start : ℕ
  pub end : ℕ
  pub version : ℕ
  pub width : Width
  pub address : ℕ
  pub min_length : ℕ
  pub max_ops : ℕ
  pub default_stmt : Bool
  pub line_base : ℤ
  pub line_range : ℕ
  pub opcode_base : ℕ
  pub program : ℕ
  pub dirs : List TextPlace
  pub files : List FilePlace
  pub defined : List FilePlace
  pub texts : List LineText

-- the bytes of a section up to the end of a table
abbrev pub table_bytes : LineSource → LineHeader → List ℕ
table_bytes g h = take h.end g.bytes

-- the texts of entries
abbrev pub texts_of : List FilePlace → List TextPlace
texts_of files = map (λ f. f.text) files

-- the table of a header, with its lists and their texts
abbrev pub table_made : ℕ → LineHeader → List TextPlace → List FilePlace → List FilePlace → List LineText → LineTable
table_made section h dirs files defined texts = record {
  section = section;
  start = h.start;
  end = h.end;
  version = h.version;
  width = h.width;
  address = h.address;
  min_length = h.min_length;
  max_ops = h.max_ops;
  default_stmt = h.default_stmt;
  line_base = h.line_base;
  line_range = h.line_range;
  opcode_base = h.opcode_base;
  program = h.program;
  dirs = dirs;
  files = files;
  defined = defined;
  texts = texts;
}

-- the same of a section, whose texts are those that stand in the lists
abbrev pub table_with : LineSource → LineHeader → List TextPlace → List FilePlace → List FilePlace → LineTable
table_with g h dirs files defined = table_made g.number h dirs files defined (texts_by g h (table_bytes g h) (dirs ++ texts_of files))

-- the cells of a section up to the end of a table
abbrev pub table_cells : LineSource → LineHeader → List Cell
table_cells g h = take h.end g.cells

-- directories and files stand where the header's lists start, up to a place
pub data HasLists (g : LineSource) (h : LineHeader) (table : List ℕ) : List TextPlace → List FilePlace → ℕ → Type 0 where
  old_lists : (dirs : List TextPlace) (files : List FilePlace) (place behind : ℕ) → h.version ≢ 5
      → ComesTo (next_dir g.number table) ([], h.lists) (dirs, place) → ComesTo (next_file g.number table) ([], place) (files, behind)
      → HasLists g h table dirs files behind
  new_lists : (dirs files : List FilePlace) (place behind : ℕ) → h.version ≡ 5 → entries_at g h table h.lists ≡ Ok (dirs, place)
      → entries_at g h table place ≡ Ok (files, behind) → HasLists g h table (texts_of dirs) files behind

-- a table that can be read starts at a place of a section: its lists end where its program starts, or before, and its program
-- is whole opcodes
pub record IsLineTable (g : LineSource) (start : ℕ) (t : LineTable) : Type 0 where
  pub header : LineHeader
  pub dirs : List TextPlace
  pub files : List FilePlace
  pub defined : List FilePlace
  pub behind : ℕ
  pub is : t ≡ table_with g header dirs files defined
  pub header_is : line_header g.order g.bytes start ≡ Some header
  pub lists : HasLists g header (table_bytes g header) dirs files behind
  pub before : behind ≤ header.program
  pub program : ComesTo (next_opcode g.number header (table_bytes g header)) ([], header.program) defined
