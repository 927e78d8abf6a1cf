-- The kinds of values as the code has them, and the definition's (DWARF 5, 7.5.5 and 7.5.6).
use Rattle.std.specs.Prelude.{ℕ, ◌<◌, ◌≤◌, ⊤}
use Rattle.dw_base.specs.Forms.{ValueKind, number_of, leb_number, signed_leb, block_of, counted, counted_leb, inline_text, text_offset, present, in_abbreviation, form_in_front, supplementary, unlisted, reference_size, width_size}
use Rattle.dw_base.specs.declared.fault.Kind.{Kind}
use Rattle.dw_base.specs.declared.fault.Kind.TheVariants.{Entry, Form, Supplementary as SupplementaryKind}
use Rattle.dw_base.specs.declared.shared.Params.{Params}
use Rattle.dw_base.specs.declared.texts.TextSection.TheVariants.{InStr, InLineStr}
use Rattle.dw_forms.specs.declared.kinds.FieldSize.{FieldSize}
use Rattle.dw_forms.specs.declared.kinds.FieldSize.TheVariants.{Bytes, Address, Offset, Reference}
use Rattle.dw_forms.specs.declared.kinds.FormKind.{FormKind}
use Rattle.dw_forms.specs.declared.kinds.FormKind.TheVariants.{Number, LebNumber, SignedLeb, Block, Counted, CountedLeb, InlineText, StrOffset, LineStrOffset, Present, InAbbreviation, FormInFront, Supplementary, Unlisted}

-- the size of a field in a unit of these parameters, in bytes
abbrev pub field_size : Params → FieldSize → ℕ
field_size params (Bytes n) = n
field_size params Address = params.address
field_size params Offset = width_size params.width
field_size params Reference = reference_size params

-- the definition's kind in such a unit
abbrev pub as_kind : Params → FormKind → ValueKind
as_kind params (Number class size) = number_of class (field_size params size)
as_kind params (LebNumber class) = leb_number class
as_kind params SignedLeb = signed_leb
as_kind params (Block n) = block_of n
as_kind params (Counted n) = counted n
as_kind params CountedLeb = counted_leb
as_kind params InlineText = inline_text
as_kind params StrOffset = text_offset InStr (width_size params.width)
as_kind params LineStrOffset = text_offset InLineStr (width_size params.width)
as_kind params Present = present
as_kind params InAbbreviation = in_abbreviation
as_kind params FormInFront = form_in_front
as_kind params Supplementary = supplementary
as_kind params Unlisted = unlisted

-- a number of so many bytes can be read
pub record IsFieldSize (n : ℕ) : Type 0 where
  pub some : 0 < n
  pub few : n ≤ 8

-- a number of this size can be read in every unit
abbrev pub HasRoom : FieldSize → Type 0
HasRoom (Bytes n) = IsFieldSize n
HasRoom Address = ⊤
HasRoom Offset = ⊤
HasRoom Reference = ⊤

-- the numbers of a kind can be read
abbrev pub HasFields : FormKind → Type 0
HasFields (Number class size) = HasRoom size
HasFields (Counted n) = IsFieldSize n
HasFields k = ⊤

-- as what a value of a kind is refused where none stands
abbrev pub refused_as : ValueKind → Kind
refused_as unlisted = Form
refused_as supplementary = SupplementaryKind
refused_as k = Entry
