-- The forms of values (DWARF 5, 7.5.5 and 7.5.6, table 7.6): which bytes a form takes, and what they are.
use Rattle.std.specs.Prelude.{ℕ, ◌==◌, if◌then◌else◌, List, [], ◌∷◌}
use Rattle.dw_base.specs.declared.shared.Params.{Params}
use Rattle.dw_base.specs.declared.shared.Width.{Width}
use Rattle.dw_base.specs.declared.shared.Width.TheVariants.{W32, W64}
use Rattle.dw_base.specs.declared.texts.TextSection.{TextSection}
use Rattle.dw_base.specs.declared.texts.TextSection.TheVariants.{InStr, InLineStr}
use Rattle.dw_base.specs.declared.values.ValueClass.{ValueClass}
use Rattle.dw_base.specs.declared.values.ValueClass.TheVariants.{Address, Number, Flag, StrIndex, AddrIndex, ListIndex, LocalRef, GlobalRef, Signature, SecOffset}
use Rattle.dw_base.specs.declared.dwarf_numbers.TheConstants.{DW_FORM_addr, DW_FORM_block2, DW_FORM_block4, DW_FORM_data2, DW_FORM_data4, DW_FORM_data8, DW_FORM_string, DW_FORM_block, DW_FORM_block1, DW_FORM_data1, DW_FORM_flag, DW_FORM_sdata, DW_FORM_strp, DW_FORM_udata, DW_FORM_ref_addr, DW_FORM_ref1, DW_FORM_ref2, DW_FORM_ref4, DW_FORM_ref8, DW_FORM_ref_udata, DW_FORM_indirect, DW_FORM_sec_offset, DW_FORM_exprloc, DW_FORM_flag_present, DW_FORM_strx, DW_FORM_addrx, DW_FORM_ref_sup4, DW_FORM_strp_sup, DW_FORM_data16, DW_FORM_line_strp, DW_FORM_ref_sig8, DW_FORM_implicit_const, DW_FORM_loclistx, DW_FORM_rnglistx, DW_FORM_ref_sup8, DW_FORM_strx1, DW_FORM_strx2, DW_FORM_strx3, DW_FORM_strx4, DW_FORM_addrx1, DW_FORM_addrx2, DW_FORM_addrx3, DW_FORM_addrx4, DW_FORM_GNU_ref_alt, DW_FORM_GNU_strp_alt}

-- what a value of a form is: a number of a class in so many bytes, or in LEB128; a signed number; so many bytes, or a block
-- behind a count of so many bytes, or of LEB128; a text, or an offset of so many bytes of one in a table; a flag without
-- bytes; a number that stands in the abbreviation; a form in front of a value; a value of a supplementary file; or of a
-- form that isn't listed
pub data ValueKind : Type 0 where
  number_of : ValueClass → ℕ → ValueKind
  leb_number : ValueClass → ValueKind
  signed_leb : ValueKind
  block_of : ℕ → ValueKind
  counted : ℕ → ValueKind
  counted_leb : ValueKind
  inline_text : ValueKind
  text_offset : TextSection → ℕ → ValueKind
  present : ValueKind
  in_abbreviation : ValueKind
  form_in_front : ValueKind
  supplementary : ValueKind
  unlisted : ValueKind

-- the size of an offset, in bytes (DWARF 5, 7.4)
abbrev pub width_size : Width → ℕ
width_size W32 = 4
width_size W64 = 8

-- a reference into another unit has the size of an address in version 2 (DWARF 2, 7.5.4), else that of an offset
abbrev pub reference_size : Params → ℕ
reference_size params = if params.version == 2 then params.address else width_size params.width

-- a row of the table of forms
pub record FormRow : Type 0 where
  pub form : ℕ
  pub kind : ValueKind

abbrev row : ℕ → ValueKind → FormRow
row form kind = record { form = form; kind = kind }

-- the table of forms (DWARF 5, table 7.6), in a unit of these parameters
unfoldable pub form_rows : Params → List FormRow
form_rows params =
    row DW_FORM_addr (number_of Address params.address)
    ∷ row DW_FORM_block2 (counted 2)
    ∷ row DW_FORM_block4 (counted 4)
    ∷ row DW_FORM_data2 (number_of Number 2)
    ∷ row DW_FORM_data4 (number_of Number 4)
    ∷ row DW_FORM_data8 (number_of Number 8)
    ∷ row DW_FORM_string inline_text
    ∷ row DW_FORM_block counted_leb
    ∷ row DW_FORM_block1 (counted 1)
    ∷ row DW_FORM_data1 (number_of Number 1)
    ∷ row DW_FORM_flag (number_of Flag 1)
    ∷ row DW_FORM_sdata signed_leb
    ∷ row DW_FORM_strp (text_offset InStr (width_size params.width))
    ∷ row DW_FORM_udata (leb_number Number)
    ∷ row DW_FORM_ref_addr (number_of GlobalRef (reference_size params))
    ∷ row DW_FORM_ref1 (number_of LocalRef 1)
    ∷ row DW_FORM_ref2 (number_of LocalRef 2)
    ∷ row DW_FORM_ref4 (number_of LocalRef 4)
    ∷ row DW_FORM_ref8 (number_of LocalRef 8)
    ∷ row DW_FORM_ref_udata (leb_number LocalRef)
    ∷ row DW_FORM_indirect form_in_front
    ∷ row DW_FORM_sec_offset (number_of SecOffset (width_size params.width))
    ∷ row DW_FORM_exprloc counted_leb
    ∷ row DW_FORM_flag_present present
    ∷ row DW_FORM_strx (leb_number StrIndex)
    ∷ row DW_FORM_addrx (leb_number AddrIndex)
    ∷ row DW_FORM_ref_sup4 supplementary
    ∷ row DW_FORM_strp_sup supplementary
    ∷ row DW_FORM_data16 (block_of 16)
    ∷ row DW_FORM_line_strp (text_offset InLineStr (width_size params.width))
    ∷ row DW_FORM_ref_sig8 (number_of Signature 8)
    ∷ row DW_FORM_implicit_const in_abbreviation
    ∷ row DW_FORM_loclistx (leb_number ListIndex)
    ∷ row DW_FORM_rnglistx (leb_number ListIndex)
    ∷ row DW_FORM_ref_sup8 supplementary
    ∷ row DW_FORM_strx1 (number_of StrIndex 1)
    ∷ row DW_FORM_strx2 (number_of StrIndex 2)
    ∷ row DW_FORM_strx3 (number_of StrIndex 3)
    ∷ row DW_FORM_strx4 (number_of StrIndex 4)
    ∷ row DW_FORM_addrx1 (number_of AddrIndex 1)
    ∷ row DW_FORM_addrx2 (number_of AddrIndex 2)
    ∷ row DW_FORM_addrx3 (number_of AddrIndex 3)
    ∷ row DW_FORM_addrx4 (number_of AddrIndex 4)
    ∷ row DW_FORM_GNU_ref_alt supplementary
    ∷ row DW_FORM_GNU_strp_alt supplementary
    ∷ []

-- the kind in the row of a form
abbrev pub kind_by : List FormRow → ℕ → ValueKind
kind_by [] form = unlisted
kind_by (r ∷ rs) form = if r.form == form then r.kind else kind_by rs form

-- what a value of a form is, in a unit of these parameters
unfoldable pub kind_in : Params → ℕ → ValueKind
kind_in params form = kind_by (form_rows params) form
