-- What a pass over the slots keeps of its section and of the table of texts.
use Rattle.std.specs.Prelude.{true, ◌≡◌, ℕ, ◌<◌, List, length, is_some}
use Rattle.dw_base.specs.FileViews.{View, kind_at}
use Rattle.dw_base.specs.ViewData.{located}
use Rattle.dw_base.specs.declared.debug_sections.DebugSection.TheVariants.{Str}
use Rattle.dw_offsets.specs.TextEnds.{IsTexts}
use Rattle.dw_offsets.specs.declared.name_texts.Texts.{Texts}

-- a section that is read, and the texts of the view
pub record TableFits (v : View) (section : ℕ) (texts : Texts) (str : List ℕ) : Type 0 where
  pub there : section < length v.sections
  pub kind : is_some (kind_at v section) ≡ true
  pub texts_are : IsTexts (located v Str) texts
  pub str_is : str ≡ (located v Str).bytes
