-- A field with another offset in it, as cells (gABI ch. 4 "Relocation").
use Rattle.std.specs.Prelude.{ℕ, List, [], ◌∷◌, length, if◌then◌else◌, Option, Some, None, ◌==◌, pos, ℤ, ◌+ℤ◌, ◌-ℤ◌}
use Rattle.std.specs.Int.{cast_signed}
use Rattle.dw_base.specs.Cells.{Cell, Relocation, with_bytes, first_relocation, wrapped}
use Rattle.dw_base.specs.Elf.{word_size}
use Rattle.dw_base.specs.Numbers.{number_bytes}
use Rattle.dw_base.specs.Relocs.{word_width}
use Rattle.dw_base.specs.declared.shared.Order.{Order}

-- the value of the symbol of a relocation, 0 where it isn't defined
abbrev pub symbol_value : Option (ℕ × ℕ) → ℕ
symbol_value None = 0
symbol_value (Some t) = t.1

-- the addend that makes the field of a relocation the offset n, as a signed word of the class
abbrev pub moved_addend : Relocation → ℕ → ℤ
moved_addend r n = cast_signed (word_width r.class) (wrapped (pos n -ℤ pos (symbol_value r.target)) (word_size r.class))

abbrev pub moved_relocation : Relocation → ℕ → Relocation
moved_relocation r n = record r { addend = Some (moved_addend r n) }

abbrev pub with_relocation : List Cell → Relocation → List Cell
with_relocation [] r = []
with_relocation (c ∷ cs) r = record c { relocation = Some r } ∷ cs

-- a field of the same size with another offset: without a relocation its bytes spell it; with one the addend of its record
-- makes it, or where that has none the number in the field (gABI ch. 4 "Relocation"). A record that makes it already stays.
abbrev pub by_addend : Option ℤ → Order → Relocation → List Cell → ℕ → List Cell
by_addend None order r p n = with_bytes p (number_bytes order (length p) (wrapped (pos n -ℤ pos (symbol_value r.target)) (length p)))
by_addend (Some a) order r p n =
    if wrapped (pos (symbol_value r.target) +ℤ a) (length p) == n then p else with_relocation p (moved_relocation r n)

abbrev pub with_offset_by : Option Relocation → Order → List Cell → ℕ → List Cell
with_offset_by None order p n = with_bytes p (number_bytes order (length p) n)
with_offset_by (Some r) order p n = by_addend r.addend order r p n

unfoldable pub with_offset : Order → List Cell → ℕ → List Cell
with_offset order p n = with_offset_by (first_relocation p) order p n
