-- The symbols of a symbol table (gABI ch. 4 "Symbol Table"; `Elf32_Sym`, `Elf64_Sym`).
use Rattle.std.specs.Prelude.{ℕ, ◌+◌, ◌*◌, ◌==◌, ◌&&◌, nat_lt, if◌then◌else◌, List, Option, Some, None, true}
use Rattle.dw_base.specs.Numbers.{number_at, spelled}
use Rattle.dw_base.specs.declared.shared.Order.{Order}
use Rattle.dw_base.specs.declared.shared.Class.{Class}
use Rattle.dw_base.specs.declared.shared.Class.TheVariants.{C32, C64}
use Rattle.dw_base.specs.declared.elf_numbers.TheConstants.{SHN_LORESERVE, SHN_XINDEX}
use Rattle.dw_base.specs.declared.relocations.Symbol.{Symbol}
use Rattle.dw_base.specs.TableRecords.{has_record}

-- the size of a symbol, in bytes
abbrev pub sym_size : Class → ℕ
sym_size C32 = 16
sym_size C64 = 24

-- the value of the symbol at a place
abbrev pub st_value : Class → Order → List ℕ → ℕ → ℕ
st_value C32 order table place = spelled order table (place + 4) 4
st_value C64 order table place = spelled order table (place + 8) 8

-- the number of the section of the symbol at a place
abbrev pub st_shndx : Class → Order → List ℕ → ℕ → ℕ
st_shndx C32 order table place = spelled order table (place + 14) 2
st_shndx C64 order table place = spelled order table (place + 6) 2

-- a symbol whose section number is its own: 0 is no section, and the numbers from SHN_LORESERVE on are reserved (gABI ch. 4
-- "Sections", special section indexes), so it is defined in a section by the others
abbrev pub plain_symbol : ℕ → ℕ → Symbol
plain_symbol value section = record { value = value; section = section; defined = nat_lt 0 section && nat_lt section SHN_LORESERVE }

-- a symbol whose section number stands in the table of section numbers (gABI ch. 4 "Sections", `SHT_SYMTAB_SHNDX`), where it has one
-- there
abbrev pub extended_symbol : ℕ → Option ℕ → Option Symbol
extended_symbol value None = None
extended_symbol value (Some section) = Some (record { value = value; section = section; defined = true })

-- a symbol by its value, its own section number, and that of the table of section numbers
abbrev pub symbol_by : ℕ → ℕ → Option ℕ → Option Symbol
symbol_by value shndx word = if shndx == SHN_XINDEX then extended_symbol value word else Some (plain_symbol value shndx)

-- the symbol at a place, with the section number of the other table
abbrev pub symbol_in : Class → Order → List ℕ → ℕ → Option ℕ → Option Symbol
symbol_in class order table place word = symbol_by (st_value class order table place) (st_shndx class order table place) word

-- symbol `index` of a table, beside a table of section numbers of 4 bytes each: none where its record doesn't fit, or where its section
-- number stands in the other table and doesn't fit there
unfoldable pub symbol_at : Class → Order → List ℕ → List ℕ → ℕ → Option Symbol
symbol_at class order table extended index =
    if has_record table index (sym_size class)
    then symbol_in class order table (index * sym_size class) (number_at order extended (index * 4) 4)
    else None
