-- How the field of a relocation comes to say an offset: by the addend of its record, where it has one, else by the number that stands in the
-- field (gABI ch. 4 "Relocation").
use Rattle.std.specs.Prelude.{ℕ, ℤ, ◌+ℤ◌, ◌-ℤ◌, ◌==◌, if◌then◌else◌, Option, Some, None, pos}
use Rattle.std.specs.Int.{cast_signed}
use Rattle.dw_base.specs.Cells.{Relocation, wrapped}
use Rattle.dw_base.specs.Elf.{word_size}
use Rattle.dw_base.specs.Relocs.{word_width}
use Rattle.dw_base.specs.NewOffsets.{symbol_value}
use Rattle.dw_base.specs.declared.shared.Class.{Class}

-- the number in a field of so many bytes that holds x, over a symbol of a value
abbrev pub number_by : Option ℤ → ℕ → ℕ → ℕ → ℕ → ℕ
number_by None value size x n = wrapped (pos n -ℤ pos value) size
number_by (Some a) value size x n = x

-- the addend of a record over such a symbol
abbrev pub addend_by : Class → Option ℤ → ℕ → ℕ → ℕ → Option ℤ
addend_by class None value size n = None
addend_by class (Some a) value size n =
    if wrapped (pos value +ℤ a) size == n then Some a else Some (cast_signed (word_width class) (wrapped (pos n -ℤ pos value) (word_size class)))

-- the same by a relocation
abbrev pub field_number : Relocation → ℕ → ℕ → ℕ → ℕ
field_number r size x n = number_by r.addend (symbol_value r.target) size x n

abbrev pub offset_addend : Relocation → ℕ → ℕ → Option ℤ
offset_addend r size n = addend_by r.class r.addend (symbol_value r.target) size n
