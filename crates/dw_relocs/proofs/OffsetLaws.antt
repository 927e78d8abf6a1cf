-- The field of an offset that is read, and why it is refused.
use Rattle.std.proofs.Common.{◌≡◌, ℕ, ◌+◌, ◌<◌, ◌≤◌, true, length, sym}
use Rattle.std.specs.Prelude.{Ok, Err, is_some}
use Rattle.dw_base.specs.FileViews.{View, kind_at, section_bytes, view_cells}
use Rattle.dw_base.specs.RelocationRows.{OffsetFails, OffsetReads, field_place, offset_field}
use Rattle.dw_base.specs.ViewOffsets.{offset_read}
use Rattle.dw_base.specs.declared.fault.Refusal.{Refusal}
use Rattle.dw_base.specs.declared.view_fields.Field.{Field}
use Rattle.dw_base.proofs.ViewOffsetLaws.{offset-fails, offset-reads}

pub check-reads : (v : View) (i place n : ℕ) (f : Field) → is_some (kind_at v i) ≡ true → 0 < n → place + n ≤ length (section_bytes v i)
    → Ok f ≡ offset_read v i place n → OffsetReads v.order (view_cells v i) (field_place place n offset_field)
check-reads v i place n f kind some inside e = offset-reads v i place n f kind some inside (sym e)

pub check-fails : (v : View) (i place n : ℕ) (r : Refusal) → 0 < n → place + n ≤ length (section_bytes v i) → Err r ≡ offset_read v i place n
    → OffsetFails v.order i (view_cells v i) (field_place place n offset_field) r
check-fails v i place n r some inside e = offset-fails v i place n r some inside (sym e)

pub ruleset check_rules = (check-reads, check-fails)
