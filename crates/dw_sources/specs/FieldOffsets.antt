-- The offsets that fields of units and slots hold into other sections (DWARF 5, 7.5.5 and 7.26; gABI ch. 4 "Relocation"): the number that stands there, or
-- where a relocation begins at it the place to which it leads. A field on which a relocation lies only in part holds none.
use Rattle.std.specs.Prelude.{Bool, ℕ, ◌-◌, ◌==◌, ◌&&◌, ◌||◌, nat_le, if◌then◌else◌, List, length, Option, Some, None, Result, Ok, Err}
use Rattle.dw_base.specs.Cells.{Located, bytes_of, offset_into}
use Rattle.dw_base.specs.Numbers.{spelled}
use Rattle.dw_base.specs.RelocationFields.{field_in}
use Rattle.dw_base.specs.UnitHeaders.{UnitSection}
use Rattle.dw_base.specs.declared.fault.Refusal.{Refusal}
use Rattle.dw_base.specs.declared.shared.Order.{Order}
use Rattle.dw_base.specs.declared.values.Value.{Value}
use Rattle.dw_base.specs.declared.view_fields.Field.{Field}
use Rattle.dw_base.specs.declared.view_fields.Field.TheVariants.{Num, Into, Sym}

-- the offset into a section that a field holds from which a number was read; a symbol that has no place counts as past the section
abbrev pub offset_with : Located → ℕ → Field → ℕ
offset_with t number (Num n) = number
offset_with t number (Into s n) = offset_into t (Into s n)
offset_with t number (Sym s k a) = length t.bytes

abbrev pub field_offset : Located → ℕ → Result Field Refusal → Option ℕ
field_offset t number (Ok f) = Some (offset_with t number f)
field_offset t number (Err r) = None

-- a value lies in the bytes up to its unit's end
abbrev pub lies_in : List ℕ → Value → Bool
lies_in bytes v = nat_le v.len (length bytes) && nat_le v.at (length bytes - v.len)

-- a value whose number is the one that its bytes spell stands in a field; one in LEB128 of several bytes doesn't
abbrev pub spelled_offset : Order → UnitSection → Located → Value → ℕ → Option ℕ
spelled_offset order z t v n =
    if spelled order (bytes_of z.contents) v.at n == v.number then field_offset t v.number (field_in order z.number z.contents v.at n) else Some v.number

-- the offset that a value of a unit holds into a section: it may stand in the field of one where it has 4 or 8 bytes
abbrev pub sized_offset : Order → UnitSection → Located → Value → ℕ → Option ℕ
sized_offset order z t v n = if n == 4 || n == 8 then spelled_offset order z t v n else Some v.number

abbrev pub value_offset : Order → UnitSection → Located → List ℕ → Value → Option ℕ
value_offset order z t bytes v = if lies_in bytes v then sized_offset order z t v v.len else Some v.number

-- the same, of a value that may be there
abbrev pub root_offset : Order → UnitSection → Located → List ℕ → Option Value → Option ℕ
root_offset order z t bytes None = None
root_offset order z t bytes (Some v) = value_offset order z t bytes v
