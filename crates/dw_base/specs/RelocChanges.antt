-- A relocation with another place and another addend: symbol and type stay, and so does every byte outside of the two words.
use Rattle.std.specs.Prelude.{Bool, true, false, ◌≡◌, ℕ, ℤ, ◌*◌, ◌^◌, ◌<◌, List, Option, Some, None, IfSome}
use Rattle.std.specs.Int.{cast_unsigned}
use Rattle.std.specs.Int.RustNames.{FitsSigned}
use Rattle.dw_base.specs.Elf.{word_size}
use Rattle.dw_base.specs.Numbers.{with_number}
use Rattle.dw_base.specs.declared.shared.Order.{Order}
use Rattle.dw_base.specs.declared.shared.Class.{Class}
use Rattle.dw_base.specs.declared.relocations.Reloc.{Reloc}
use Rattle.dw_base.specs.TableRecords.{has_record}
use Rattle.dw_base.specs.Relocs.{reloc_size, addend_place, word_width}

-- the addend that is written: none where the record has none, or none is given
abbrev pub written : Bool → Option ℤ → Option ℤ
written false addend = None
written true addend = addend

-- a relocation can be written: its record is there, and each number fits a word of the class
pub record RelocFits (class : Class) (rela : Bool) (table : List ℕ) (index offset : ℕ) (addend : Option ℤ) : Type 0 where
  pub inside : has_record table index (reloc_size class rela) ≡ true
  pub offset_fits : offset < 256 ^ word_size class
  pub addend_fits : IfSome (written rela addend) (FitsSigned (word_width class))

-- the bytes with this signed word of the class at a place, in two's complement, where one is given
abbrev pub with_word : Class → Order → List ℕ → ℕ → Option ℤ → List ℕ
with_word class order table at None = table
with_word class order table at (Some a) = with_number order table at (word_size class) (cast_unsigned (word_width class) a)

-- the bytes with another offset, and this addend, in the relocation at a place
abbrev pub with_both : Class → Order → List ℕ → ℕ → ℕ → Option ℤ → List ℕ
with_both class order table place offset addend =
    with_word class order (with_number order table place (word_size class) offset) (addend_place class place) addend

-- the table with another place and addend in relocation `index`
unfoldable pub with_reloc : Class → Order → Bool → List ℕ → ℕ → ℕ → Option ℤ → List ℕ
with_reloc class order rela table index offset addend =
    with_both class order table (index * reloc_size class rela) offset (written rela addend)

-- the addend of a relocation behind a change: a record without one has none, and the old one stays where none is given
abbrev pub addend_behind : Option ℤ → Option ℤ → Option ℤ
addend_behind None addend = None
addend_behind (Some old) None = Some old
addend_behind (Some old) (Some addend) = Some addend

-- a relocation with another place and addend
abbrev pub moved : ℕ → Option ℤ → Reloc → Reloc
moved offset addend r = record r { offset = offset; addend = addend_behind r.addend addend }
