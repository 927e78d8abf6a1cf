-- What the field of an offset reads as (gABI ch. 4 "Relocation"; DWARF 5, 7.4): a number or a place in a section. It is refused at a relocation that
-- lies on it only in part, and at itself where the relocation that begins there gives no place.
use Rattle.std.specs.Prelude.{ℕ, if◌then◌else◌, Result, Ok, Err}
use Rattle.dw_base.specs.Cells.{is_placed}
use Rattle.dw_base.specs.FileViews.{View, field_read}
use Rattle.dw_base.specs.Refusals.{at}
use Rattle.dw_base.specs.declared.fault.Kind.TheVariants.{Relocation as RelocationKind}
use Rattle.dw_base.specs.declared.fault.Refusal.{Refusal}
use Rattle.dw_base.specs.declared.view_fields.Field.{Field}

-- the field at a place of a section, by its answer
abbrev pub if_placed : ℕ → ℕ → Result Field Refusal → Result Field Refusal
if_placed section place (Ok f) = if is_placed f then Ok f else Err (at RelocationKind section place)
if_placed section place (Err r) = Err r

unfoldable pub offset_read : View → ℕ → ℕ → ℕ → Result Field Refusal
offset_read v section place n = if_placed section place (field_read v section place n)
