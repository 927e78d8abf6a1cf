-- The field of a value of a form: how many bytes it has, and whether it is an offset into another section (DWARF 5, 7.5.5).
use Rattle.std.specs.Prelude.{Bool, true, false, ℕ, ◌+◌, ◌<◌, ◌||◌, if◌then◌else◌, List, [], ◌∷◌, Option, Some, None}
use Rattle.dw_abbrev.specs.QuietSpecs.{is_text_form}
use Rattle.dw_base.specs.Forms.{ValueKind, form_in_front, number_of, text_offset}
use Rattle.dw_base.specs.RelocationRows.{FieldPlace, FieldUse, field_place, is_offset_use, offset_field, plain_field, use_of_number}
use Rattle.dw_base.specs.declared.dwarf_numbers.TheConstants.{DW_FORM_data1, DW_FORM_data2, DW_FORM_data4, DW_FORM_data8, DW_FORM_flag, DW_FORM_ref4, DW_FORM_sec_offset}
use Rattle.dw_forms.specs.Fixed.{is_among}
use Rattle.dw_relocs.specs.declared.forms.FieldForm.{FieldForm}

-- that of a number of so many bytes, by what it is
abbrev pub form_by_use : ℕ → Option FieldUse → Option FieldForm
form_by_use n None = None
form_by_use n (Some u) = Some (record { size = n; offset = is_offset_use u })

-- that of a value of a kind, of an attribute that says where something starts, or of another
abbrev pub form_of : ValueKind → Bool → Option FieldForm
form_of (text_offset table n) start = Some (record { size = n; offset = true })
form_of (number_of class n) start = form_by_use n (use_of_number class n start)
form_of k start = None

-- the field at a place, and where it ends
abbrev pub use_by : Bool → FieldUse
use_by t = if t then offset_field else plain_field

abbrev pub fields_by : ℕ → Option FieldForm → List FieldPlace
fields_by place None = []
fields_by place (Some f) = field_place place f.size (use_by f.offset) ∷ []

abbrev pub form_end : ℕ → Option FieldForm → ℕ
form_end place None = place
form_end place (Some f) = place + f.size

-- a form that stands in front of a value
abbrev pub is_front : ValueKind → Bool
is_front form_in_front = true
is_front k = false

-- a value of a form of most values that may be an offset into another section: that of a text, and one of an attribute that says where something
-- starts
abbrev pub is_followed : Bool → ℕ → Bool
is_followed start form = start || is_text_form form

-- the fields of a value of n bytes at a place that holds no offset: none, or that of a number that is meant as it stands
pub data IsStill (place n : ℕ) : List FieldPlace → Type 0 where
  no_field : IsStill place n []
  number_field : 0 < n → IsStill place n (field_place place n plain_field ∷ [])

-- the forms of most values that are numbers, but for addresses
unfoldable pub number_forms : List ℕ
number_forms =
    DW_FORM_data1 ∷ DW_FORM_flag ∷ DW_FORM_data2 ∷ DW_FORM_data4 ∷ DW_FORM_ref4 ∷ DW_FORM_data8 ∷ DW_FORM_sec_offset ∷ []

-- a form is one of those
unfoldable pub is_number_form : ℕ → Bool
is_number_form form = is_among number_forms form
