-- What line tables are read from: their section, and the tables of texts that their offsets are of; and what a field reads as there (gABI ch. 4
-- "Relocation").
use Rattle.std.specs.Prelude.{Bool, ℕ, if◌then◌else◌, List, None, Result}
use Rattle.dw_base.specs.Cells.{Cell, Located, field_by}
use Rattle.dw_base.specs.Numbers.{spelled}
use Rattle.dw_base.specs.RelocationFields.{field_unless, partly_at, relocation_at}
use Rattle.dw_base.specs.declared.fault.Refusal.{Refusal}
use Rattle.dw_base.specs.declared.shared.Order.{Order}
use Rattle.dw_base.specs.declared.view_fields.Field.{Field}

-- the byte order; the number of the section of line tables, whether it is one that is read, its bytes and its cells; and the two tables of texts
pub record LineSource : Type 0 where
  pub order : Order
  pub number : ℕ
  pub is_read : Bool
  pub bytes : List ℕ
  pub cells : List Cell
  pub str : Located
  pub line_str : Located

-- what a field of so many bytes at a place of the section reads as; in a section that is read, refused at a relocation that lies on it only in
-- part
unfoldable pub line_field : LineSource → ℕ → ℕ → Result Field Refusal
line_field g place size =
    field_unless (if g.is_read then partly_at g.cells place size else None) g.number
    (field_by (relocation_at g.cells place) size (spelled g.order g.bytes place size))
