-- The relocations of a relocation section (gABI ch. 4 "Relocation"; `Elf32_Rel`, `Elf32_Rela`, `Elf64_Rel`, `Elf64_Rela`): two words of
-- the class, `r_offset` and `r_info`, and behind them, in a section with addends, the signed word `r_addend`.
use Rattle.std.specs.Prelude.{Bool, true, false, ℕ, ℤ, ◌+◌, ◌*◌, ◌/◌, ◌%◌, ◌^◌, if◌then◌else◌, List, Option, Some, None}
use Rattle.std.specs.Int.{Width, w32, w64, cast_signed}
use Rattle.dw_base.specs.Elf.{word_size}
use Rattle.dw_base.specs.Numbers.{spelled}
use Rattle.dw_base.specs.declared.shared.Order.{Order}
use Rattle.dw_base.specs.declared.shared.Class.{Class}
use Rattle.dw_base.specs.declared.shared.Class.TheVariants.{C32, C64}
use Rattle.dw_base.specs.declared.relocations.Reloc.{Reloc}
use Rattle.dw_base.specs.TableRecords.{has_record}

-- the size of a relocation, without an addend and with one, in bytes
abbrev pub reloc_size : Class → Bool → ℕ
reloc_size C32 false = 8
reloc_size C32 true = 12
reloc_size C64 false = 16
reloc_size C64 true = 24

-- where the words behind the first stand in the relocation at a place
abbrev pub info_place : Class → ℕ → ℕ
info_place C32 place = place + 4
info_place C64 place = place + 8

abbrev pub addend_place : Class → ℕ → ℕ
addend_place C32 place = place + 8
addend_place C64 place = place + 16

-- the words of the relocation at a place
abbrev pub r_offset : Class → Order → List ℕ → ℕ → ℕ
r_offset class order table place = spelled order table place (word_size class)

abbrev pub r_info : Class → Order → List ℕ → ℕ → ℕ
r_info class order table place = spelled order table (info_place class place) (word_size class)

-- signed words are two's complement (gABI ch. 4 "Data Representation")
abbrev pub word_width : Class → Width
word_width C32 = w32
word_width C64 = w64

abbrev pub r_addend : Class → Order → List ℕ → ℕ → ℤ
r_addend class order table place = cast_signed (word_width class) (spelled order table (addend_place class place) (word_size class))

-- symbol and type in `r_info` (`ELF32_R_SYM`, `ELF32_R_TYPE`, `ELF64_R_SYM`, `ELF64_R_TYPE`)
abbrev pub r_sym : Class → ℕ → ℕ
r_sym C32 info = info / 2 ^ 8
r_sym C64 info = info / 2 ^ 32

abbrev pub r_type : Class → ℕ → ℕ
r_type C32 info = info % 2 ^ 8
r_type C64 info = info % 2 ^ 32

-- the relocation of these words
abbrev pub reloc_of : Class → ℕ → ℕ → Option ℤ → Reloc
reloc_of class offset info addend = record { offset = offset; symbol = r_sym class info; kind = r_type class info; addend = addend }

-- the relocation at a place: one without an addend has none in its record
abbrev pub reloc_in : Class → Order → Bool → List ℕ → ℕ → Reloc
reloc_in class order rela table place =
    reloc_of class (r_offset class order table place) (r_info class order table place)
    (if rela then Some (r_addend class order table place) else None)

-- relocation `index` of a table: none where its record doesn't fit
unfoldable pub reloc_at : Class → Order → Bool → List ℕ → ℕ → Option Reloc
reloc_at class order rela table index =
    if has_record table index (reloc_size class rela)
    then Some (reloc_in class order rela table (index * reloc_size class rela))
    else None
