-- What reads of the relocations on fields excludes each row; and rows of a worked unit.
use Rattle.std.proofs.Common.{◌≡◌, ℕ, true, List, [], ◌∷◌, length, Option, Some, refl, ap, arith}
use Rattle.std.proofs.lemmas.Bool.{ltb-true}
use Rattle.dw_base.specs.AbsoluteTypes.{absolute_size, absolute_types}
use Rattle.dw_base.specs.Cells.{Cell, Relocation, bytes_of, field_by, field_of, is_placed}
use Rattle.dw_base.specs.Numbers.{number_at, spelled}
use Rattle.dw_base.specs.Refusals.{at}
use Rattle.dw_base.specs.RelocationRows.{FieldPlace, FieldsFail, FieldsRead, HeaderFails, HeaderOffsetFails, HeaderOffsetsRead, HeaderReads, OffsetFails, OffsetReads, field_place, header_field, offset_field}
use Rattle.dw_base.specs.RelocationRows.FieldsFail.{offset, inside, elsewhere}
use Rattle.dw_base.specs.RelocationRows.HeaderFails.{other_field, reaches}
use Rattle.dw_base.specs.RelocationRows.HeaderOffsetFails.{header}
use Rattle.dw_base.specs.RelocationRows.OffsetFails.{partly, no_place}
use Rattle.dw_base.specs.SectionRelocations.{relocations_in, records_in, relocation_of, is_none_type}
use Rattle.dw_base.specs.Symbols.{symbol_at}
use Rattle.dw_base.specs.UnitHeaders.{UnitBase, UnitSection}
use Rattle.dw_base.specs.declared.fault.Kind.TheVariants.{Relocation as RelocationKind}
use Rattle.dw_base.specs.declared.fault.Refusal.{Refusal}
use Rattle.dw_base.specs.declared.shared.Order.{Order}
use Rattle.dw_base.specs.declared.shared.Order.TheVariants.{Little}
use Rattle.dw_base.proofs.PlainCellLaws.{IsPlain, first-plain}
use Rattle.dw_base.proofs.WorkedRelocations.{cells_by, record_of, rela_info, word_of}
use Rattle.dw_base.specs.Lebs.{initial_length_at}
use Rattle.dw_base.specs.declared.shared.Class.TheVariants.{C64}
use Rattle.std.specs.Prelude.{pos}

offset-excludes : (o : Order) (s : ℕ) (cells : List Cell) (f : FieldPlace) (r : Refusal) → OffsetReads o cells f → OffsetFails o s cells f r → ⊥
offset-excludes o s cells f r h (partly p lies) = h.whole p lies
offset-excludes o s cells f r h (no_place e) = let p = h.placed in absurd cc

pub fields_exclude : (o : Order) (s : ℕ) (cells : List Cell) (moving : List ℕ) (fs : List FieldPlace) (r : Refusal) → FieldsRead o cells moving fs
    → FieldsFail o s cells moving fs r → ⊥
fields_exclude o s cells moving fs r h (offset f is u f_fails) = offset-excludes o s cells f r (h.offsets f is u) f_fails
fields_exclude o s cells moving fs r h (inside f p x is u begins before behind) = h.numbers f p x is u begins before behind
fields_exclude o s cells moving fs r h (elsewhere p x begins lies other) = let kept = h.kept p x begins lies in absurd cc

pub header_excludes : (s start behind : ℕ) (cells : List Cell) (fs : List FieldPlace) (r : Refusal) → HeaderReads start behind cells fs
    → HeaderFails s start behind cells fs r → ⊥
header_excludes s start behind cells fs r h (other_field p x begins from below none) = let own = h.own p x begins from below in absurd cc
header_excludes s start behind cells fs r h (reaches p x begins before reach) = let apart = h.apart p x begins before in absurd (omega (arith, apart, reach))

pub header_offsets_exclude : (base : UnitBase) (z : UnitSection) (r : Refusal) → HeaderOffsetsRead base z → HeaderOffsetFails base z r → ⊥
header_offsets_exclude base z r h (header list u start f units is there fails) =
    offset-excludes base.order z.number z.contents f r (h.all list u start f units is there) fails

pub placed-plain : (o : Order) (p : List Cell) → IsPlain p → is_placed (field_of o p) ≡ true
unfolding field_of
placed-plain o p h = ap (λ (r : Option Relocation). is_placed (field_by r (length p) (spelled o (bytes_of p) 0 (length p)))) (first-plain p h)

-- the fields of the worked unit: the offsets of its abbreviations, name and directory
abbrev worked_fields : List FieldPlace
worked_fields = field_place 6 4 offset_field ∷ field_place 12 4 offset_field ∷ field_place 16 4 offset_field ∷ []

-- a relative type at the directory; one that reaches into it; one into the texts at the unit's length
worked-header : header_field Little 0 (cells_by 62 []) (initial_length_at Little rela_info 0) ≡ field_place 6 4 offset_field ∷ []
unfolding initial_length_at relocations_in records_in spelled number_at
worked-header = refl

worked-rows :
    FieldsFail Little 1 (cells_by 62 (record_of 16 2 2 13)) (3 ∷ []) worked_fields (at RelocationKind 1 16)
    × FieldsFail Little 1 (cells_by 62 (record_of 14 2 10 13)) (3 ∷ []) worked_fields (at RelocationKind 1 14)
    × FieldsFail Little 1 (cells_by 62 (record_of 0 2 10 0)) (3 ∷ []) worked_fields (at RelocationKind 1 0)
    × FieldsFail Little 1 (cells_by 62 (record_of 11 2 10 0)) (3 ∷ []) worked_fields (at RelocationKind 1 11)
unfolding relocations_in records_in relocation_of is_none_type symbol_at absolute_size absolute_types field_of spelled number_at
worked-rows = (
  offset (field_place 16 4 offset_field) (record { before = field_place 6 4 offset_field ∷ field_place 12 4 offset_field ∷ []; behind = []; is = refl }) refl (no_place refl),
  offset (field_place 16 4 offset_field) (record { before = field_place 6 4 offset_field ∷ field_place 12 4 offset_field ∷ []; behind = []; is = refl }) refl
      (partly 14 (record { relocation = word_of C64 2 10 (Some (pos 13)) 3; begins = refl; before = ltb-true _ _ refl; behind = ltb-true _ _ refl; other = λ e. omega (arith, e) })),
  elsewhere 0 (word_of C64 2 10 (Some (pos 0)) 3) refl refl refl,
  elsewhere 11 (word_of C64 2 10 (Some (pos 0)) 3) refl refl refl,
)
