-- Fields of a section in which no relocation begins: the number in one is its offset.
use Rattle.std.proofs.Common.{true, ◌≡◌, ◌⊎◌, ℕ, ◌+◌, ◌≤◌, List, length, Option, None, Some, sym, ap, ◌∙◌, subst, arith}
use Rattle.std.specs.Prelude.{IfSome}
use Rattle.dw_base.specs.Cells.{Located, Relocation, cells_at, field_by, field_of, is_placed, offset_into, offset_of}
use Rattle.dw_base.specs.FileViews.{View, field_at, kind_at, section_bytes, view_cells}
use Rattle.dw_base.specs.Numbers.{spelled}
use Rattle.dw_base.specs.declared.debug_sections.DebugSection.{DebugSection}
use Rattle.dw_base.proofs.ViewCellLaws.{field_at-by, length-view_cells}
use Rattle.dw_view.specs.Relocations.{HasNoNext, IsNextPlace}
use Rattle.dw_unit_fields.specs.PlainSections.{IsNotPlain, IsPlain}
use Rattle.dw_unit_fields.specs.PlainSections.IsNotPlain.{unread, begins}
use Rattle.dw_unit_fields.proofs.FieldOffsetLaws.{offset-cells, offset-few, offset-some, placed-cells}

-- no relocation begins from the start on
pub plain-none : (v : View) (section : ℕ) (bytes : List ℕ) → bytes ≡ section_bytes v section → HasNoNext v section 0 → IsPlain v section bytes
plain-none v section bytes is h = record { bytes_are = is; none = λ p. h.none p (omega arith) }

pub plain-unread : (v : View) (section : ℕ) (k : Option DebugSection) → k ≡ kind_at v section → k ≡ None → IsNotPlain v section
plain-unread v section k is none = unread (sym is ∙ none)

pub plain-begins : (v : View) (section place : ℕ) → IsNextPlace v section 0 place → IsNotPlain v section
plain-begins v section place h = begins place h.begins

pub ruleset plain_rules = (plain-none, plain-unread, plain-begins)

-- what holds where bytes are known holds of these
pub some-holds : {X : Type 0} (P : X → Type 0) (o : Option X) (x : X) → o ≡ Some x → IfSome o P → P x
some-holds P None x e h = absurd cc
some-holds P (Some y) x e h = let same : y ≡ x = cc in subst P same h

-- a field lies in the bytes
pub plain-inside : (v : View) (section place n : ℕ) (bytes : List ℕ) → IsPlain v section bytes → place + n ≤ length (view_cells v section) → place + n ≤ length bytes
plain-inside v section place n bytes plain inside =
    let size : length (view_cells v section) ≡ length (section_bytes v section) = length-view_cells v section in
    let long : length bytes ≡ length (section_bytes v section) = ap length plain.bytes_are in
    omega (arith, inside, size, long)

-- the number in it is its offset, and it has a place
pub plain-field : (v : View) (section place n : ℕ) (bytes : List ℕ) → IsPlain v section bytes → field_at v section place n ≡ field_by None n (spelled v.order bytes place n)
plain-field v section place n bytes plain =
    field_at-by v section place n
    ∙ ap (λ (r : Option Relocation). field_by r n (spelled v.order (section_bytes v section) place n)) (plain.none place)
    ∙ ap (λ (bs : List ℕ). field_by None n (spelled v.order bs place n)) (sym plain.bytes_are)

pub plain-offset : (v : View) (section place n offset : ℕ) (z : Located) (bytes : List ℕ) → (n ≡ 4) ⊎ (n ≡ 8) → place + n ≤ length (view_cells v section)
    → IsPlain v section bytes → offset ≡ spelled v.order bytes place n → offset ≡ offset_of v.order z (cells_at (view_cells v section) place n)
plain-offset v section place n offset z bytes sized inside plain is =
    offset-cells v section place n offset z sized inside (is ∙ sym (ap (offset_into z) (plain-field v section place n bytes plain)))

pub plain-placed : (v : View) (section place n : ℕ) (bytes : List ℕ) → (n ≡ 4) ⊎ (n ≡ 8) → place + n ≤ length (view_cells v section)
    → IsPlain v section bytes → is_placed (field_of v.order (cells_at (view_cells v section) place n)) ≡ true
plain-placed v section place n bytes sized inside plain =
    placed-cells v section place n sized inside (ap is_placed (plain-field v section place n bytes plain))

pub ruleset offset_rules = (offset-some, offset-few, plain-inside, plain-offset, plain-placed)
