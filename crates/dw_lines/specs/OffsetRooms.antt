-- That the offset of a text lies in the section of line tables, where the text doesn't stand in that section itself.
use Rattle.std.specs.Prelude.{◌≢◌, ℕ, ◌+◌, ◌≤◌, List, All}
use Rattle.dw_base.specs.Forms.{width_size}
use Rattle.dw_base.specs.declared.line_tables.LineText.{LineText}
use Rattle.dw_base.specs.declared.line_tables.TextPlace.{TextPlace}
use Rattle.dw_base.specs.declared.shared.Width.{Width}

-- the field of an offset of a width lies in so many bytes of the section of a number
pub record HasRoom (section : ℕ) (width : Width) (size : ℕ) (x : TextPlace) : Type 0 where
  pub inside : x.section ≢ section → x.field + width_size width ≤ size

abbrev pub AllHaveRoom : ℕ → Width → ℕ → List LineText → Type 0
AllHaveRoom section width size xs = All (λ x. HasRoom section width size x.place) xs
