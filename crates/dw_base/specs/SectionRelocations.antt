-- The relocations of a section of a relocatable file, and its contents as cells (gABI ch. 4 "Relocation", and "Sections" for `sh_link`
-- and `sh_info`). Which types of relocations count is this project's profile. The headers are those of a file, and what its sections hold
-- is said beside it: a debug file may have some of them in its stripped file.
use Rattle.std.specs.Prelude.{Bool, false, true, ℕ, suc, ◌*◌, ◌/◌, ◌==◌, ◌&&◌, ◌||◌, nat_lt, if◌then◌else◌, List, [], ◌∷◌, length, Option, Some, None, is_some}
use Rattle.dw_base.specs.AbsoluteTypes.{absolute_types, absolute_size}
use Rattle.dw_base.specs.Cells.{Cell, Relocation}
use Rattle.dw_base.specs.Elf.{class_of, order_of, e_type, e_machine, nth_section, section_count}
use Rattle.dw_base.specs.Lists.{tabulate}
use Rattle.dw_base.specs.Notes.{first_below}
use Rattle.dw_base.specs.Relocs.{reloc_size, reloc_in}
use Rattle.dw_base.specs.Symbols.{symbol_at}
use Rattle.dw_base.specs.declared.shared.Class.{Class}
use Rattle.dw_base.specs.declared.shared.Order.{Order}
use Rattle.dw_base.specs.declared.records.Section.{Section}
use Rattle.dw_base.specs.declared.relocations.Reloc.{Reloc}
use Rattle.dw_base.specs.declared.relocations.Symbol.{Symbol}
use Rattle.dw_base.specs.declared.elf_numbers.TheConstants.{ET_REL, SHT_REL, SHT_RELA, SHT_SYMTAB, SHT_SYMTAB_SHNDX}

-- a section that holds relocations
abbrev pub is_relocation_kind : Section → Bool
is_relocation_kind s = s.kind == SHT_REL || s.kind == SHT_RELA

-- the section of a number holds the relocations of the one of another, which its info names: in a relocatable file alone
unfoldable pub relocates : List ℕ → ℕ → ℕ → Bool
relocates b target i = e_type b == ET_REL && is_relocation_kind (nth_section b i) && (nth_section b i).info == target

-- the first section that holds the relocations of the one of a number
unfoldable pub relocation_section : List ℕ → ℕ → Option ℕ
relocation_section b target = first_below (relocates b target) (section_count b)

-- the section of a number is there, and is a symbol table
unfoldable pub is_symbol_table : List ℕ → ℕ → Bool
is_symbol_table b i = nat_lt i (section_count b) && (nth_section b i).kind == SHT_SYMTAB

-- the section of a number holds the section numbers of the symbols of another, which its link names
unfoldable pub extends : List ℕ → ℕ → ℕ → Bool
extends b symbols i = (nth_section b i).kind == SHT_SYMTAB_SHNDX && (nth_section b i).link == symbols

-- the first section that does
unfoldable pub extended_section : List ℕ → ℕ → Option ℕ
extended_section b symbols = first_below (extends b symbols) (section_count b)

-- the bytes of a section, none where there is none
abbrev pub bytes_if : (ℕ → List ℕ) → Option ℕ → List ℕ
bytes_if contents None = []
bytes_if contents (Some i) = contents i

-- what relocations are read from: the file's class, byte order and machine; their table, and whether it is one with addends; and the
-- tables of symbols and of their section numbers
pub record RelocationSource : Type 0 where
  pub class : Class
  pub order : Order
  pub machine : ℕ
  pub rela : Bool
  pub table : List ℕ
  pub symbols : List ℕ
  pub extended : List ℕ

-- what the relocations in the section of a number are read from
unfoldable pub relocation_source : (ℕ → List ℕ) → List ℕ → ℕ → RelocationSource
relocation_source contents b i = record {
  class = class_of b;
  order = order_of b;
  machine = e_machine b;
  rela = (nth_section b i).kind == SHT_RELA;
  table = contents i;
  symbols = if is_symbol_table b (nth_section b i).link then contents (nth_section b i).link else [];
  extended = if is_symbol_table b (nth_section b i).link then bytes_if contents (extended_section b (nth_section b i).link) else [];
}

-- all records of the table; bytes behind the last whole one are none
unfoldable pub records_in : RelocationSource → List Reloc
records_in g = tabulate (λ i. reloc_in g.class g.order g.rela g.table (i * reloc_size g.class g.rela)) (length g.table / reloc_size g.class g.rela)

-- type 0 of a machine that is listed: the record stands there, but it is no relocation
unfoldable pub is_none_type : ℕ → ℕ → Bool
is_none_type machine kind = is_some (absolute_types machine) && kind == 0

-- the section in which a symbol is defined, and its value there
abbrev pub target_by : Bool → Symbol → Option (ℕ × ℕ)
target_by false s = None
target_by true s = Some (s.section, s.value)

abbrev pub target_of : Option Symbol → Option (ℕ × ℕ)
target_of None = None
target_of (Some s) = target_by s.defined s

-- the relocation of a record
unfoldable pub relocation_of : RelocationSource → Reloc → Relocation
relocation_of g r = record {
  class = g.class;
  symbol = r.symbol;
  kind = r.kind;
  size = absolute_size g.machine r.kind;
  addend = r.addend;
  target = target_of (symbol_at g.class g.order g.symbols g.extended r.symbol);
}

-- a relocation, and where in its section it begins
pub record PlacedRelocation : Type 0 where
  pub place : ℕ
  pub relocation : Relocation

abbrev pub placed : RelocationSource → Reloc → PlacedRelocation
placed g r = record { place = r.offset; relocation = relocation_of g r }

-- the relocations among records, in order
abbrev pub relocations_among : RelocationSource → List Reloc → List PlacedRelocation
relocations_among g [] = []
relocations_among g (r ∷ rs) = if is_none_type g.machine r.kind then relocations_among g rs else placed g r ∷ relocations_among g rs

unfoldable pub relocations_in : RelocationSource → List PlacedRelocation
relocations_in g = relocations_among g (records_in g)

abbrev pub relocations_by : (ℕ → List ℕ) → List ℕ → Option ℕ → List PlacedRelocation
relocations_by contents b None = []
relocations_by contents b (Some i) = relocations_in (relocation_source contents b i)

-- the relocations of the section of a number
unfoldable pub relocations_of : (ℕ → List ℕ) → List ℕ → ℕ → List PlacedRelocation
relocations_of contents b target = relocations_by contents b (relocation_section b target)

-- the first of a list that begins at a place
abbrev pub relocation_in : List PlacedRelocation → ℕ → Option Relocation
relocation_in [] place = None
relocation_in (r ∷ rs) place = if r.place == place then Some r.relocation else relocation_in rs place

-- bytes from a place on, with the relocations that begin there
abbrev pub cells_from : List PlacedRelocation → ℕ → List ℕ → List Cell
cells_from rs place [] = []
cells_from rs place (byte ∷ bytes) = record { byte = byte; relocation = relocation_in rs place } ∷ cells_from rs (suc place) bytes

-- the contents of the section of a number
unfoldable pub section_cells : (ℕ → List ℕ) → List ℕ → ℕ → List Cell
section_cells contents b i = cells_from (relocations_of contents b i) 0 (contents i)
