-- When two line tables agree part by part, so that no row need be found (DWARF 5, 6.2).
use Rattle.std.specs.Prelude.{◌≡◌, ℕ, List, [], map}
use Rattle.dw_base.specs.FileViews.{View}
use Rattle.dw_base.specs.LineMeanings.{FileText, dir_columns, dir_texts, file_columns, file_texts, line_meaning}
use Rattle.dw_base.specs.LineReadings.{LineReading}
use Rattle.dw_base.specs.LineSources.{LineSource}
use Rattle.dw_base.specs.Paths.{PathMap, mapped_path}
use Rattle.dw_base.specs.declared.line_tables.FilePlace.{FilePlace}
use Rattle.dw_base.specs.declared.line_tables.TextPlace.{TextPlace}
use Rattle.dw_macros.specs.EventMeanings.{text_bytes}
use Rattle.dbg_check.specs.Parts.{AgreeAll}

-- a path, with the map applied, is the other
abbrev pub PathAgrees : PathMap → List ℕ → List ℕ → Type 0
PathAgrees m t u = mapped_path m t ≡ u

-- so is that of a file, whose directory has the same number
pub record FileAgrees (m : PathMap) (f h : FileText) : Type 0 where
  pub path : PathAgrees m f.path h.path
  pub dir : f.dir ≡ h.dir

-- two tables of one byte order, whose programs define no files, have the same numbers, gap and program, the same further columns, and
-- directories and files that agree one by one
pub record TablesAgree (m : PathMap) (g k : LineSource) (r q : LineReading) : Type 0 where
  pub order : g.order ≡ k.order
  pub none : r.defined ≡ []
  pub none_there : q.defined ≡ []
  pub version : r.header.version ≡ q.header.version
  pub width : r.header.width ≡ q.header.width
  pub sizes : (line_meaning g r).sizes ≡ (line_meaning k q).sizes
  pub numbers : (line_meaning g r).numbers ≡ (line_meaning k q).numbers
  pub gap : (line_meaning g r).gap ≡ (line_meaning k q).gap
  pub program : (line_meaning g r).program ≡ (line_meaning k q).program
  pub dirs : AgreeAll (PathAgrees m) (dir_texts g r.dirs) (dir_texts k q.dirs)
  pub dir_columns : dir_columns g r ≡ dir_columns k q
  pub files : AgreeAll (FileAgrees m) (file_texts g r.files) (file_texts k q.files)
  pub file_columns : file_columns g r ≡ file_columns k q

-- the texts of directories at their places in a view, and the file that stands at one
abbrev pub dirs_said : View → List TextPlace → List (List ℕ)
dirs_said v ts = map (text_bytes v) ts

abbrev pub file_said : View → FilePlace → FileText
file_said v f = record { path = text_bytes v f.text; dir = f.dir }

abbrev pub files_said : View → List FilePlace → List FileText
files_said v fs = map (file_said v) fs
