-- What the line tables of a view's section are read from (DWARF 5, 6.2.4).
use Rattle.std.specs.Prelude.{ℕ, is_some}
use Rattle.dw_base.specs.FileViews.{View, kind_at, section_bytes, view_cells}
use Rattle.dw_base.specs.LineSources.{LineSource}
use Rattle.dw_base.specs.ViewData.{located}
use Rattle.dw_base.specs.declared.debug_sections.DebugSection.TheVariants.{Str, LineStr}

-- the section of a number of a view, and the tables of texts of the view; for the section of line tables that is `line_source` of
-- the view's debug data
abbrev pub view_source : View → ℕ → LineSource
view_source v section = record {
  order = v.order;
  number = section;
  is_read = is_some (kind_at v section);
  bytes = section_bytes v section;
  cells = view_cells v section;
  str = located v Str;
  line_str = located v LineStr;
}
