-- What a value of an attribute means, as the code has it: its text lent, its cells where they stand in a view; and whether its text is
-- another with a prefix map applied (DWARF 5, 7.5.5).
use Rattle.std.specs.Prelude.{Bool, true, false, ◌≡◌, ℕ, ◌+◌, ◌<◌, ◌≤◌, ◌&&◌, List, length, is_some, ⊤}
use Rattle.dw_base.specs.Cells.{Cell, cells_at}
use Rattle.dw_base.specs.FileViews.{View, kind_at, section_bytes, view_cells}
use Rattle.dw_base.specs.InlinePaths.{inline_fits, mapped_inline}
use Rattle.dw_base.specs.Paths.{PathMap, mapped_path}
use Rattle.dw_base.specs.Texts.{same_text}
use Rattle.dw_base.specs.ValueMeanings.{TextForm, inline, by_offset, by_slot, ValueMeaning, string, entry_of, stray, table_number, macro_number, raw, signed_number, of_class}
use Rattle.dbg_check.specs.declared.values.CellRun.{CellRun}
use Rattle.dbg_check.specs.declared.values.MeantValue.{MeantValue}
use Rattle.dbg_check.specs.declared.values.MeantValue.TheVariants as meant
use Rattle.dbg_check.specs.declared.values.TextHold.{TextHold}
use Rattle.dbg_check.specs.declared.values.TextHold.TheVariants as hold

-- how a text is held
abbrev pub form_of : TextHold → TextForm
form_of hold.Inline = inline
form_of hold.ByOffset = by_offset
form_of (hold.BySlot n) = by_slot n

-- the cells of a run in a view, and that they stand in a section that is read
abbrev pub cells_meant : View → CellRun → List Cell
cells_meant v r = cells_at (view_cells v r.place.section) r.place.at r.len

pub record CellsStand (v : View) (r : CellRun) : Type 0 where
  pub section : r.place.section < length v.sections
  pub read : is_some (kind_at v r.place.section) ≡ true
  pub inside : r.place.at + r.len ≤ length (section_bytes v r.place.section)

-- what a value means, and that its cells stand where it says
abbrev pub meaning_in : View → MeantValue → ValueMeaning
meaning_in v (meant.Text path held text) = string path (form_of held) text.now
meaning_in v (meant.Entry unit number) = entry_of unit number
meaning_in v (meant.Stray offset) = stray offset
meaning_in v (meant.Lines number) = table_number number
meaning_in v (meant.Macros number) = macro_number number
meaning_in v (meant.Cells run) = raw (cells_meant v run)
meaning_in v (meant.Signed number) = signed_number number
meaning_in v (meant.Field class field) = of_class class field

abbrev pub MeantStands : View → MeantValue → Type 0
MeantStands v (meant.Cells run) = CellsStand v run
MeantStands v x = ⊤

-- a text that is a source path or not, and is held so, is another with the map applied: one that stands in its value fits its room
abbrev pub text_agrees : PathMap → Bool → TextForm → List ℕ → List ℕ → Bool
text_agrees m false f t u = same_text t u
text_agrees m true inline t u = inline_fits m t && same_text (mapped_inline m t) u
text_agrees m true by_offset t u = same_text (mapped_path m t) u
text_agrees m true (by_slot n) t u = same_text (mapped_path m t) u
