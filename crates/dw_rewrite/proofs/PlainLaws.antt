-- Fields of a section in which no relocation begins: the number in one is its offset, and it says another by that number.
use Rattle.std.proofs.Common.{◌≡◌, ◌⊎◌, ℕ, ◌+◌, ◌≤◌, List, length, drop, Option, None, sym, ap, ◌∙◌}
use Rattle.dw_base.specs.Cells.{Cell, Located, Relocation, bytes_of, cells_at, first_relocation, offset_into, offset_of}
use Rattle.dw_base.specs.FileViews.{View, view_cells}
use Rattle.dw_base.specs.NewOffsets.{with_offset, with_offset_by}
use Rattle.dw_base.specs.Numbers.{number_bytes, spelled}
use Rattle.dw_base.specs.declared.shared.Order.{Order}
use Rattle.dw_base.proofs.NumberLaws.{length-number_bytes}
use Rattle.dw_base.proofs.OffsetPutLaws.{bytes_of-with_bytes}
use Rattle.dw_base.proofs.RelocationFieldLaws.{first-take, length-cells_at}
use Rattle.dw_unit_fields.specs.PlainSections.{IsPlain}
use Rattle.dw_unit_fields.proofs.FieldOffsetLaws.{offset-cells, offset-few, offset-some}
use Rattle.dw_unit_fields.proofs.PlainLaws.{plain-field, plain-inside}

-- the number in it is its offset
pub plain-offset : (v : View) (section place n offset : ℕ) (z : Located) (bytes : List ℕ) → (n ≡ 4) ⊎ (n ≡ 8) → place + n ≤ length (view_cells v section)
    → IsPlain v section bytes → offset ≡ spelled v.order bytes place n → offset ≡ offset_of v.order z (cells_at (view_cells v section) place n)
plain-offset v section place n offset z bytes sized inside plain is =
    offset-cells v section place n offset z sized inside (is ∙ sym (ap (offset_into z) (plain-field v section place n bytes plain)))

pub ruleset offset_rules = (offset-some, offset-few, plain-inside, plain-offset)

-- and it says another by that number
put-plain : (o : Order) (p : List Cell) (n : ℕ) → first_relocation p ≡ None → bytes_of (with_offset o p n) ≡ number_bytes o (length p) n
unfolding with_offset
put-plain o p n none =
    ap (λ (f : Option Relocation). bytes_of (with_offset_by f o p n)) none
    ∙ bytes_of-with_bytes p (number_bytes o (length p) n) (length-number_bytes o (length p) n)

pub plain-number : (v : View) (section place n low offset : ℕ) (bytes : List ℕ) → (n ≡ 4) ⊎ (n ≡ 8) → place + n ≤ length (view_cells v section)
    → IsPlain v section bytes → ((o : Order) → number_bytes o n low ≡ number_bytes o n offset)
    → number_bytes v.order n low ≡ bytes_of (with_offset v.order (cells_at (view_cells v section) place n) offset)
plain-number v section place n low offset bytes sized inside plain same =
    let own : length (cells_at (view_cells v section) place n) ≡ n = length-cells_at (view_cells v section) place n inside in
    let first : first_relocation (cells_at (view_cells v section) place n) ≡ None =
    first-take n (drop place (view_cells v section)) (offset-some n sized) ∙ plain.none place in
    same v.order ∙ ap (λ (k : ℕ). number_bytes v.order k offset) (sym own)
    ∙ sym (put-plain v.order (cells_at (view_cells v section) place n) offset first)

pub ruleset number_rules = (plain-number)
