-- What is kept of a string table: where its last text ends.
use Rattle.std.specs.Prelude.{◌≡◌}
use Rattle.dw_base.specs.Cells.{Located}
use Rattle.dw_base.specs.Texts.{IsNulEnd}
use Rattle.dw_macros.specs.declared.texts.Texts.{Texts}

-- the number of a string table, and the place behind its last NUL
pub record IsTexts (z : Located) (t : Texts) : Type 0 where
  pub number : t.number ≡ z.number
  pub end : IsNulEnd z.bytes t.end
