-- Forms whose values take as many bytes everywhere, so that the size of an entry of such forms is found once.
use Rattle.std.specs.Prelude.{◌≡◌, ℕ, ◌+◌, ◌*◌, ◌^◌, ◌≤◌, ◌==◌, Bool, true, false, if◌then◌else◌, List, [], ◌∷◌, Option, Some, None, IfSome, IsTrue}
use Rattle.dw_base.specs.Forms.{ValueKind, number_of, block_of, text_offset, present, in_abbreviation, kind_in, reference_size, width_size}
use Rattle.dw_base.specs.UnitHeaders.{is_address_size}
use Rattle.dw_base.specs.Values.{value_at, value_size}
use Rattle.dw_base.specs.declared.dwarf_numbers.TheConstants.{DW_FORM_addr, DW_FORM_data1, DW_FORM_data2, DW_FORM_data4, DW_FORM_data8, DW_FORM_flag, DW_FORM_flag_present, DW_FORM_implicit_const, DW_FORM_ref4, DW_FORM_sec_offset, DW_FORM_strp}
use Rattle.dw_base.specs.declared.shared.Params.{Params}
use Rattle.dw_base.specs.declared.values.Spec.{Spec}
use Rattle.dw_forms.specs.Reads.{room_size}
use Rattle.dw_forms.specs.declared.fixed.FixedSize.{FixedSize}
use Rattle.dw_forms.specs.declared.kinds.FieldSize.{FieldSize}
use Rattle.dw_forms.specs.declared.kinds.FieldSize.TheVariants.{Bytes, Address, Offset, Reference}
use Rattle.dw_forms.specs.declared.kinds.FormKind.{FormKind}
use Rattle.dw_forms.specs.declared.kinds.FormKind.TheVariants.{Number, Block, StrOffset, LineStrOffset, Present, InAbbreviation}

-- how many bytes each value of a kind takes, where the kind says it
abbrev pub fixed_size : ValueKind → Option ℕ
fixed_size (number_of class n) = Some n
fixed_size (block_of n) = Some n
fixed_size (text_offset table n) = Some n
fixed_size present = Some 0
fixed_size in_abbreviation = Some 0
fixed_size k = None

-- a form is in a list
abbrev pub is_among : List ℕ → ℕ → Bool
is_among [] form = false
is_among (x ∷ xs) form = if x == form then true else is_among xs form

-- the forms of most values, each of which says the size of its values by itself (DWARF 5, 7.5.6)
unfoldable pub plain_forms : List ℕ
plain_forms =
    DW_FORM_flag_present
    ∷ DW_FORM_implicit_const
    ∷ DW_FORM_data1
    ∷ DW_FORM_flag
    ∷ DW_FORM_data2
    ∷ DW_FORM_data4
    ∷ DW_FORM_ref4
    ∷ DW_FORM_data8
    ∷ DW_FORM_strp
    ∷ DW_FORM_sec_offset
    ∷ DW_FORM_addr
    ∷ []

-- a form is one of those
unfoldable pub is_plain_form : ℕ → Bool
is_plain_form form = is_among plain_forms form

-- how many bytes a value of such a form takes; none of the other forms, whether or not they say it
abbrev pub plain_size : Params → ℕ → Option ℕ
plain_size params form = if is_plain_form form then fixed_size (kind_in params form) else None

-- a value of the attribute stands wherever so many bytes are left, and takes them
pub record IsFixedSize (params : Params) (spec : Spec) (n : ℕ) : Type 0 where
  pub size : (bytes : List ℕ) (at : ℕ) → value_size (value_at params spec bytes at) ≡ room_size bytes at n

-- the sum of two sizes, where both are known
abbrev pub added : Option ℕ → Option ℕ → Option ℕ
added None b = None
added (Some m) None = None
added (Some m) (Some n) = Some (m + n)

-- how many bytes the values of attributes take in a unit of these parameters, where each form says it
abbrev pub values_size : Params → List Spec → Option ℕ
values_size params [] = Some 0
values_size params (x ∷ xs) = added (fixed_size (kind_in params x.form)) (values_size params xs)

-- a size by what it depends on, in such a unit
abbrev pub bytes_in : Params → FixedSize → ℕ
bytes_in params s = s.bytes + s.addresses * params.address + s.offsets * width_size params.width + s.references * reference_size params

-- the size of a field, and of each value of a kind, by what it depends on
abbrev pub field_parts : FieldSize → FixedSize
field_parts (Bytes n) = record { bytes = n; addresses = 0; offsets = 0; references = 0 }
field_parts Address = record { bytes = 0; addresses = 1; offsets = 0; references = 0 }
field_parts Offset = record { bytes = 0; addresses = 0; offsets = 1; references = 0 }
field_parts Reference = record { bytes = 0; addresses = 0; offsets = 0; references = 1 }

abbrev pub fixed_parts : FormKind → Option FixedSize
fixed_parts (Number class size) = Some (field_parts size)
fixed_parts (Block n) = Some (field_parts (Bytes n))
fixed_parts StrOffset = Some (field_parts Offset)
fixed_parts LineStrOffset = Some (field_parts Offset)
fixed_parts Present = Some (field_parts (Bytes 0))
fixed_parts InAbbreviation = Some (field_parts (Bytes 0))
fixed_parts k = None

-- in every unit the second size is the first and that of a value of this form
pub record Adds (a : FixedSize) (form : ℕ) (b : FixedSize) : Type 0 where
  pub in_unit : (params : Params) → added (Some (bytes_in params a)) (fixed_size (kind_in params form)) ≡ Some (bytes_in params b)

-- in every unit the form doesn't say the size of its values, or the two sizes together are 2^32 or more
pub record AddsNone (a : FixedSize) (form : ℕ) : Type 0 where
  pub in_unit : (params : Params) → IsTrue (is_address_size params.address)
      → IfSome (added (Some (bytes_in params a)) (fixed_size (kind_in params form))) (λ n. 2 ^ 32 ≤ n)

-- in every unit this is the size of the attributes' values
pub record IsSizeOf (specs : List Spec) (size : FixedSize) : Type 0 where
  pub in_unit : (params : Params) → values_size params specs ≡ Some (bytes_in params size)

-- in every unit a form doesn't say the size of its values, or they all take 2^32 bytes or more
pub record HasNoSize (specs : List Spec) : Type 0 where
  pub in_unit : (params : Params) → IsTrue (is_address_size params.address) → IfSome (values_size params specs) (λ n. 2 ^ 32 ≤ n)
