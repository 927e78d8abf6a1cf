-- The number with which a field says an offset, by the relocation that begins at it (gABI ch. 4 "Relocation").
use Rattle.std.specs.Prelude.{ℕ, Option, Some, None}
use Rattle.dw_base.specs.Cells.{Relocation}
use Rattle.elf_relocs.specs.FieldOffsets.{field_number}

-- that of a field of so many bytes in which x stands
abbrev pub number_put : Option Relocation → ℕ → ℕ → ℕ → ℕ
number_put None size x n = n
number_put (Some r) size x n = field_number r size x n
