-- Why the units of a section can't be read: the refusals of kinds Unit and SplitDwarf, each at the unit (DWARF 5, 7.5.1).
-- The units before it can be read.
use Rattle.std.specs.Prelude.{true, ◌≡◌, ℕ, ◌+◌, ◌<◌, ◌≤◌, List, length, drop, Some, None}
use Rattle.dw_base.specs.Cells.{bytes_of}
use Rattle.dw_base.specs.Lebs.{initial_length_at}
use Rattle.dw_base.specs.Numbers.{spelled}
use Rattle.dw_base.specs.Refusals.{at}
use Rattle.dw_base.specs.UnitHeaders.{in_info, UnitBase, UnitSection, is_split_type, header_at, UnitsUpTo}
use Rattle.dw_base.specs.declared.fault.Kind.TheVariants.{Unit as UnitKind, SplitDwarf}
use Rattle.dw_base.specs.declared.fault.Refusal.{Refusal}
use Rattle.dw_base.specs.declared.shared.Width.{Width}
use Rattle.dw_base.specs.declared.units.UnitHeader.{UnitHeader}

-- the bytes of a section from a place on
abbrev pub bytes_from : UnitSection → ℕ → List ℕ
bytes_from z start = bytes_of (drop start z.contents)

-- no unit can be read at a place of a section: no header stands there, its unit passes the section's end, or it is one of
-- version 5 whose type is of split DWARF
pub data HeaderFails (base : UnitBase) (z : UnitSection) (start : ℕ) : Refusal → Type 0 where
  no_header : header_at base z start ≡ None → HeaderFails base z start (at UnitKind z.number start)
  past : (h : UnitHeader) → header_at base z start ≡ Some h → length z.contents < h.end
      → HeaderFails base z start (at UnitKind z.number start)
  split : (width : Width) (n front : ℕ) → z.kind ≡ in_info → initial_length_at base.order (bytes_from z start) 0 ≡ Some (width, n, front)
      → front + 3 ≤ length (bytes_from z start) → spelled base.order (bytes_from z start) front 2 ≡ 5
      → is_split_type (spelled base.order (bytes_from z start) (front + 2) 1) ≡ true
      → HeaderFails base z start (at SplitDwarf z.number start)

-- some unit of the section can't be read
pub data UnitFails (base : UnitBase) (z : UnitSection) : Refusal → Type 0 where
  unit : (list : List UnitHeader) (start : ℕ) {r : Refusal} → UnitsUpTo base z list start → start < length z.contents
      → HeaderFails base z start r → UnitFails base z r
